-- The command that begins a line, and what the words of the line say.
use Rattle.std.proofs.Common.{◌≡◌, ℕ, true, false, cond, List, [], ◌∷◌, ◌++◌, length, take, Option, Some, None, codes, inl, inr, ◌⊎◌, not, ℤ, pos, refl, sym, ◌∙◌, arith}
use Rattle.std.proofs.Math.Seq.{take-append_seam}
use Rattle.std.proofs.lemmas.Grind.{common_steps}
use Rattle.std.proofs.lemmas.List.{take-append-drop}
use Rattle.std.proofs.lemmas.Slice.Eq.{bytes_eq-Decides}
use Rattle.std.specs.List.{list_all}
use Rattle.std.specs.Str.{bytes_eq}
use Rattle.std.specs.Option.{option_and_then, option_map}
use Rattle.ringbuffer.specs.declared.Command.{Command}
use Rattle.ringbuffer.specs.declared.Command.TheVariants.{Push, Extend, Dequeue, Skip, Clear}
use Rattle.ringrun_service.proofs.Lines.{past_word, word_at, word_goes_on, words_at, word_first, words_behind_blank, words_behind_blanks}
use Rattle.ringrun_service.proofs.Numbers.{behind_number, ends_here, not_at_end, number_in_word, number_of_word, none_passed, no_word, read_here, signed_rest}
use Rattle.decimal.specs.Numerals.{signed_at}
use Rattle.ringrun_service.specs.Parsing.{after_blanks, after_end, after_name, number_at, starts_blank, CommandAt, HasNoCommand, NumbersAt}
use Rattle.ringrun_service.specs.Script.{command_named, commands_of, is_line_feed, number_of, numbers_of, plain, words_of}

-- What the words of the first line say.
abbrev pub says : List ℕ → Option (List (Command ℤ))
says text = commands_of (words_at text)

-- ---- the end of a line

pub line_ended : (text rest : List ℕ) → after_end (after_blanks text) ≡ Some rest → (words_at text ≡ []) × (ends_here text ≡ true)
unfolding after_blanks words_of
line_ended [] rest e = (refl, refl)
line_ended (b ∷ bs) rest e = grind (arith, words_behind_blank b bs, line_ended bs rest)

pub no_blank_left : (text : List ℕ) → starts_blank (after_blanks text) ≡ false
unfolding after_blanks
no_blank_left [] = refl
no_blank_left (b ∷ bs) = grind (arith, no_blank_left bs)

pub after_blanks_twice : (text : List ℕ) → after_blanks (after_blanks text) ≡ after_blanks text
after_blanks_twice text = none_passed (after_blanks text) (no_blank_left text)

-- after a word that has ended and before another stands a blank
blank_before_word : (text : List ℕ) → after_end (after_blanks text) ≡ None → ends_here text ≡ true → starts_blank text ≡ true
unfolding after_blanks
blank_before_word [] e h = grind arith
blank_before_word (b ∷ bs) e h = grind arith

blank_ends : (text : List ℕ) → starts_blank text ≡ true → ends_here text ≡ true
blank_ends [] h = refl
blank_ends (b ∷ bs) h = rw h refl

-- ---- numbers

-- the words that a number begins, as numbers
abbrev numbers_after : Option (ℤ × List ℕ) → Option (List ℤ)
numbers_after None = None
numbers_after (Some (number, rest)) = cond (ends_here rest) (option_map (λ numbers. number ∷ numbers) (numbers_of (words_at rest))) None

first_number : (text : List ℕ) (read : Option (ℤ × List ℕ)) → signed_at text ≡ read
    → option_and_then (λ number. option_map (λ numbers. number ∷ numbers) (numbers_of (words_at (past_word text)))) (number_of (word_at text)) ≡ numbers_after read
first_number text None e = grind (arith, number_of_word text)
first_number text (Some (n, rest)) e =
    grind (arith, number_of_word text, signed_rest text n rest e, (word_goes_on text (behind_number text) (number_in_word text)).1, no_word rest)

-- where a word comes, the words are the numbers that follow
next_numbers : (text : List ℕ) → starts_blank text ≡ true → after_end (after_blanks text) ≡ None → numbers_of (words_at text) ≡ numbers_after (number_at text)
unfolding number_at
next_numbers text blank e =
    let front = after_blanks text in
    let words : words_at text ≡ word_at front ∷ words_at (past_word front) = sym (words_behind_blanks text) ∙ word_first front (no_blank_left text) e in
    rw (words, blank) (first_number front (signed_at front) refl)

-- numbers come one by one
abbrev pub Read : List ℕ → List ℤ → List ℕ → Type 0
Read text [] rest = rest ≡ text
Read text (number ∷ numbers) rest = (after : List ℕ) × (number_at text ≡ Some (number, after)) × Read after numbers rest

all_read : (numbers : List ℤ) (text rest : List ℕ) → NumbersAt text numbers rest → Read text numbers rest × (number_at rest ≡ None)
all_read [] text rest (none, same) = grind arith
all_read (n ∷ numbers) text rest (mid, read, more) = grind (arith, all_read numbers mid rest more)

-- all words that are left are these numbers
all_numbers : (numbers : List ℤ) (text rest after : List ℕ) → Read text numbers rest → after_end (after_blanks rest) ≡ Some after → (numbers_of (words_at text) ≡ Some numbers) × (ends_here text ≡ true)
all_numbers [] text rest after same e = grind (arith, line_ended rest after e)
all_numbers (n ∷ numbers) text rest after (mid, read, more) e =
    let here = read_here text (n, mid) read in
    grind (arith, all_numbers numbers mid rest after more e, next_numbers text here.0 (not_at_end (after_blanks text) (n, mid) here.1), blank_ends text here.0)

-- a word that is left is no number, or one too many
some_other : {B : Type 0} (f : List ℤ → Option B) (numbers : List ℤ) (text rest : List ℕ) → Read text numbers rest → after_end (after_blanks rest) ≡ None → ends_here text ≡ true
    → (number_at rest ≡ None) ⊎ ((m : ℤ) (ms : List ℤ) → f (numbers ++ m ∷ ms) ≡ None) → option_and_then f (numbers_of (words_at text)) ≡ None
some_other f [] text rest same e h wanted = grind (arith, blank_before_word text, next_numbers text)
some_other f (n ∷ numbers) text rest (mid, read, more) e h wanted =
    let here = read_here text (n, mid) read in
    grind (arith, next_numbers text here.0 (not_at_end (after_blanks text) (n, mid) here.1), some_other (λ ms. f (n ∷ ms)) numbers mid rest more e)

-- ---- names

pub named : (name text rest : List ℕ) → after_name name text ≡ Some rest → text ≡ name ++ rest
unfolding after_name
named name text rest e = grind (arith, take-append-drop (length name) text, bytes_eq-Decides (take (length name) text) name)

none_from : {B : Type 0} (f : List ℤ → Option B) (o : Option (List ℤ)) → ((numbers : List ℤ) → f numbers ≡ None) → option_and_then f o ≡ None
none_from f o h = grind (arith, h)

abbrev pub name_of : Command ℤ → List ℕ
name_of (Push number) = codes "push"
name_of (Extend items) = codes "extend"
name_of Dequeue = codes "dequeue"
name_of Skip = codes "skip"
name_of Clear = codes "clear"

-- a name is a word, and more of a word behind it makes it no name
pub record IsName (name : List ℕ) : Type 0 where
  pub inside : list_all (λ b. not (is_line_feed b)) name ≡ true
  words : (rest : List ℕ) → words_at (name ++ rest) ≡ (name ++ word_at rest) ∷ words_at (past_word rest)
  longer : (b : ℕ) (bs : List ℕ) (numbers : List ℤ) → command_named (name ++ b ∷ bs) numbers ≡ None

pub is_name : (command : Command ℤ) → IsName (name_of command)
unfolding command_named
is_name command = record { inside = grind arith; words = λ rest. grind (arith, word_first (name_of command ++ rest)); longer = λ b bs numbers. grind arith }

broken_name : (command : Command ℤ) (args : List ℕ) → ends_here args ≡ false → (numbers : List ℤ) → command_named (name_of command ++ word_at args) numbers ≡ None
broken_name command [] h numbers = absurd (cc)
broken_name command (b ∷ bs) h numbers = rw h ((is_name command).longer b (word_at bs) numbers)

-- a line that begins with a name
abbrev line_of : List ℕ → List ℕ → Option (List (Command ℤ))
line_of name args = cond (ends_here args) (option_map (λ command. command ∷ []) (option_and_then (command_named name) (numbers_of (words_at args)))) None

named_line : (command : Command ℤ) (text args : List ℕ) → after_name (name_of command) text ≡ Some args → says text ≡ line_of (name_of command) args
named_line command text args e =
    rw (named (name_of command) text args e) (grind (arith, common_steps, (is_name command).words args, no_word args, broken_name command args))

-- ---- what a line says

-- the numbers of the command that comes first, which more numbers would make none
pub record Called (text : List ℕ) (command : Command ℤ) (rest : List ℕ) : Type 0 where
  pub args : List ℕ
  pub numbers : List ℤ
  pub named : after_name (name_of command) text ≡ Some args
  pub read : Read args numbers rest
  means : command_named (name_of command) numbers ≡ Some (plain command)
  alone : (number_at rest ≡ None) ⊎ ((m : ℤ) (ms : List ℤ) → command_named (name_of command) (numbers ++ m ∷ ms) ≡ None)

pub called : (text : List ℕ) (command : Command ℤ) (rest : List ℕ) → CommandAt text command rest → Called text command rest
unfolding command_named
called text (Push n) rest (args, name, number) = record { args = args; numbers = n ∷ []; named = name; read = (rest, number, refl); means = refl; alone = inr (λ m ms. refl) }
called text (Extend items) rest (args, name, read) =
    let all = all_read items.items args rest read in record { args = args; numbers = items.items; named = name; read = all.0; means = refl; alone = inl all.1 }
called text command rest name = record { args = rest; numbers = []; named = grind arith; read = refl; means = grind arith; alone = grind arith }

-- where blanks and a line's end follow the command
pub said : (text : List ℕ) (command : Command ℤ) (rest after : List ℕ) → CommandAt text command rest → after_end (after_blanks rest) ≡ Some after → says text ≡ Some (plain command ∷ [])
said text command rest after at e =
    let c = called text command rest at in
    grind (arith, all_numbers c.numbers c.args rest after c.read e, named_line command text c.args c.named, c.means)

-- where anything else follows it
pub unsaid : (text : List ℕ) (command : Command ℤ) (rest : List ℕ) → CommandAt text command rest → after_end (after_blanks rest) ≡ None → says text ≡ None
unsaid text command rest at e =
    let c = called text command rest at in
    grind (arith, named_line command text c.args c.named, some_other (command_named (name_of command)) c.numbers c.args rest c.read e)

word_and_past : (text : List ℕ) → text ≡ word_at text ++ past_word text
word_and_past [] = refl
word_and_past (b ∷ bs) = grind (arith, word_and_past bs)

-- the word that begins a text is no name that doesn't
not_word : (name text : List ℕ) → after_name name text ≡ None → bytes_eq (word_at text) name ≡ false
unfolding after_name
not_word name text e =
    grind (arith, word_and_past text, bytes_eq-Decides (word_at text) name, bytes_eq-Decides name name, take-append_seam name (past_word text))

no_push : (args : List ℕ) → number_at args ≡ None → ends_here args ≡ true → option_and_then (command_named (codes "push")) (numbers_of (words_at args)) ≡ None
unfolding command_named
no_push args none h = grind (arith, line_ended args, some_other (command_named (codes "push")) [] args args refl)

-- where no command comes first
pub unsaid_unnamed : (text : List ℕ) → HasNoCommand text → starts_blank text ≡ false → after_end text ≡ None → says text ≡ None
unfolding command_named
unsaid_unnamed text (inr (args, name, none)) s e = grind (arith, named_line (Push (pos 0)) text args name, no_push args none)
unsaid_unnamed text (inl un) s e =
    let none = none_from (command_named (word_at text)) (numbers_of (words_at (past_word text))) in
    grind (
      arith,
      none,
      word_first text s e,
      not_word (codes "push") text un.no_push,
      not_word (codes "extend") text un.no_extend,
      not_word (codes "dequeue") text un.no_dequeue,
      not_word (codes "skip") text un.no_skip,
      not_word (codes "clear") text un.no_clear,
    )
