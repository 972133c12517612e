-- The lines and words of a text, from its front.
use Rattle.std.proofs.Common.{◌≡◌, ℕ, ◌||◌, ◌++◌, not, None, Bool, true, false, cond, List, [], ◌∷◌, refl, arith}
use Rattle.std.proofs.lemmas.Bool.Decides.{nat_tests}
use Rattle.std.proofs.lemmas.Grind.{common_steps}
use Rattle.std.specs.List.{filter, list_all, slice_split}
use Rattle.decimal.specs.Numerals.{is_some_bytes}
use Rattle.ringrun_service.specs.Parsing.{after_blanks, after_end, starts_blank}
use Rattle.ringrun_service.specs.Script.{is_blank, is_line_feed, lines_of, words_of}

module _ (ends : ℕ → Bool) where
  -- the part before the first byte at which a list is cut
  abbrev pub first_part : List ℕ → List ℕ
  first_part [] = []
  first_part (b ∷ bs) = cond (ends b) [] (b ∷ first_part bs)

  -- the parts after it
  abbrev pub next_parts : List ℕ → List (List ℕ)
  next_parts [] = []
  next_parts (b ∷ bs) = cond (ends b) (slice_split ends bs) (next_parts bs)

  pub split_first : (bs : List ℕ) → slice_split ends bs ≡ first_part bs ∷ next_parts bs
  split_first [] = refl
  split_first (b ∷ bs) = grind (arith, split_first bs)

-- the first line, its words, and the lines after it
abbrev pub first_line : List ℕ → List ℕ
first_line text = first_part is_line_feed text

abbrev pub next_lines : List ℕ → List (List ℕ)
next_lines text = next_parts is_line_feed text

abbrev pub words_at : List ℕ → List (List ℕ)
words_at text = words_of (first_line text)

pub lines_first : (text : List ℕ) → lines_of text ≡ first_line text ∷ next_lines text
unfolding lines_of
lines_first text = split_first is_line_feed text

-- a word ends before a blank or a line feed
abbrev pub ends_word : ℕ → Bool
ends_word b = is_blank b || is_line_feed b

abbrev pub word_at : List ℕ → List ℕ
word_at text = first_part ends_word text

abbrev pub past_word : List ℕ → List ℕ
past_word [] = []
past_word (b ∷ bs) = cond (ends_word b) (b ∷ bs) (past_word bs)

pub words_behind_blank : (b : ℕ) (bs : List ℕ) → is_blank b ≡ true → words_at (b ∷ bs) ≡ words_at bs
unfolding words_of
words_behind_blank b bs h = grind (arith, nat_tests)

first_of_first : (bs : List ℕ) → first_part is_blank (first_line bs) ≡ word_at bs
first_of_first [] = refl
first_of_first (b ∷ bs) = grind (arith, nat_tests, first_of_first bs)

filter_next : (bs : List ℕ) → filter is_some_bytes (next_parts is_blank (first_line bs)) ≡ words_at (past_word bs)
unfolding words_of
filter_next [] = refl
filter_next (b ∷ bs) = grind (arith, nat_tests, filter_next bs)

-- a text that doesn't begin with a blank, and has a word before its first line ends, begins with it
pub word_first : (text : List ℕ) → starts_blank text ≡ false → after_end text ≡ None → words_at text ≡ word_at text ∷ words_at (past_word text)
unfolding words_of
word_first [] s e = absurd (cc)
word_first (b ∷ bs) s e = grind (arith, split_first is_blank (first_line bs), first_of_first bs, filter_next bs)

pub words_behind_blanks : (bs : List ℕ) → words_at (after_blanks bs) ≡ words_at bs
unfolding after_blanks
words_behind_blanks [] = refl
words_behind_blanks (b ∷ bs) = grind (arith, words_behind_blanks bs, words_behind_blank b bs)

-- ---- what stands further on in a text

-- the second text follows bytes at the front of the first that pass a test
pub record Follows (test : ℕ → Bool) (text rest : List ℕ) : Type 0 where
  pub front : List ℕ
  pub is : text ≡ front ++ rest
  pub all : list_all test front ≡ true

pub at_once : (test : ℕ → Bool) (text : List ℕ) → Follows test text text
at_once test text = record { front = []; is = refl; all = refl }

pub one_further : (test : ℕ → Bool) (b : ℕ) (text rest : List ℕ) → test b ≡ true → Follows test text rest → Follows test (b ∷ text) rest
one_further test b text rest h p = record { front = b ∷ p.front; is = grind (arith, p.is); all = grind (arith, p.all) }

pub then_follows : (test : ℕ → Bool) (a b c : List ℕ) → Follows test a b → Follows test b c → Follows test a c
then_follows test a b c p q =
    record { front = p.front ++ q.front; is = grind (arith, common_steps, p.is, q.is); all = grind (arith, common_steps, p.all, q.all) }

-- behind bytes of the first word, and of the first line
abbrev pub InWord : List ℕ → List ℕ → Type 0
InWord text rest = Follows (λ b. not (ends_word b)) text rest

abbrev pub InLine : List ℕ → List ℕ → Type 0
InLine text rest = Follows (λ b. not (is_line_feed b)) text rest

no_feed_inside : (front : List ℕ) → list_all (λ b. not (ends_word b)) front ≡ true → list_all (λ b. not (is_line_feed b)) front ≡ true
no_feed_inside [] h = refl
no_feed_inside (b ∷ front) h = grind (arith, nat_tests, no_feed_inside front)

pub line_of_word : (text rest : List ℕ) → InWord text rest → InLine text rest
line_of_word text rest p = record { front = p.front; is = p.is; all = no_feed_inside p.front p.all }

front_of_word : (front rest : List ℕ) → list_all (λ b. not (ends_word b)) front ≡ true → (word_at (front ++ rest) ≡ front ++ word_at rest) × (past_word (front ++ rest) ≡ past_word rest)
front_of_word [] rest h = (refl, refl)
front_of_word (b ∷ front) rest h = grind (arith, nat_tests, front_of_word front rest)

pub word_goes_on : (text rest : List ℕ) (p : InWord text rest) → (word_at text ≡ p.front ++ word_at rest) × (past_word text ≡ past_word rest)
word_goes_on text rest p = rw p.is (front_of_word p.front rest p.all)
