-- What is left of a script once a line is read.
use Rattle.std.proofs.Common.{◌≡◌, ℕ, ℤ, ◌+◌, ◌-◌, true, cond, List, [], ◌∷◌, ◌++◌, not, length, take, Some, None, Result, Ok, Err, refl, sym, ap, ◌∙◌, arith, append_assoc}
use Rattle.std.proofs.Math.Seq.{take-append_seam}
use Rattle.std.proofs.lemmas.Bool.Decides.{nat_tests}
use Rattle.std.proofs.lemmas.Grind.{common_steps}
use Rattle.std.proofs.lemmas.List.Sums.{sum_by-append}
use Rattle.std.specs.List.{count_by, list_all}
use Rattle.ringbuffer.specs.declared.Command.{Command}
use Rattle.ringrun_service.proofs.Commands.{after_blanks_twice, called, is_name, line_ended, name_of, named, no_blank_left, said, says, unsaid, unsaid_unnamed, Read}
use Rattle.decimal.proofs.Cases.{by_cases}
use Rattle.ringrun_service.proofs.Lines.{at_once, line_of_word, lines_first, next_lines, one_further, then_follows, words_behind_blanks, InLine}
use Rattle.ringrun_service.proofs.Numbers.{behind_number, number_in_word, read_here, signed_rest}
use Rattle.ringrun_service.specs.Parsing.{after_blanks, after_end, number_at, CommandAt, HasNoCommand}
use Rattle.ringrun_service.specs.Script.{commands_of, is_blank, is_line_feed, lines_of, plain, script_from, with_front, words_of}

-- ---- what stands further on in a line

pub blanks_end : (text : List ℕ) → InLine text (after_blanks text)
unfolding after_blanks
blanks_end [] = at_once _ []
blanks_end (b ∷ bs) = by_cases (is_blank b)
    (λ h. rw h (one_further _ b bs (after_blanks bs) (grind (arith, nat_tests)) (blanks_end bs)))
    (λ h. rw h (at_once _ (b ∷ bs)))

number_ends : (text : List ℕ) (n : ℤ) (rest : List ℕ) → number_at text ≡ Some (n, rest) → InLine text rest
number_ends text n rest e =
    let front = after_blanks text in let is : rest ≡ behind_number front = signed_rest front n rest (read_here text (n, rest) e).1 in
    then_follows _ text front rest (blanks_end text) (rw is (line_of_word front (behind_number front) (number_in_word front)))

numbers_end : (numbers : List ℤ) (text rest : List ℕ) → Read text numbers rest → InLine text rest
numbers_end [] text rest same = rw same (at_once _ text)
numbers_end (n ∷ numbers) text rest (mid, read, more) = then_follows _ text mid rest (number_ends text n mid read) (numbers_end numbers mid rest more)

command_ends : (text : List ℕ) (command : Command ℤ) (rest : List ℕ) → CommandAt text command rest → InLine text rest
command_ends text command rest at =
    let c = called text command rest at in
    then_follows _ text c.args rest (record { front = name_of command; is = named (name_of command) text c.args c.named; all = (is_name command).inside }) (numbers_end c.numbers c.args rest c.read)

-- no byte of the front is a line feed
lines_end : (front rest : List ℕ) → list_all (λ b. not (is_line_feed b)) front ≡ true → (next_lines (front ++ rest) ≡ next_lines rest) × (count_by is_line_feed front ≡ 0)
lines_end [] rest all = (refl, refl)
lines_end (b ∷ front) rest all = grind (arith, lines_end front rest)

-- ---- a line, and those after it

-- the number of the first line of a text that ends a whole one
abbrev pub number_in : List ℕ → List ℕ → ℕ
number_in text rest = count_by is_line_feed (take (length text - length rest) text) + 1

abbrev pub left : List ℕ → List ℕ → Result (List (Command ℤ)) ℕ
left text rest = script_from (number_in text rest) (lines_of rest)

no_line : (number : ℕ) → script_from number (lines_of []) ≡ Ok []
unfolding lines_of words_of
no_line number = refl

pub bad_line : (text rest : List ℕ) → says rest ≡ None → left text rest ≡ Err (number_in text rest)
bad_line text rest none = grind (arith, lines_first rest)

-- the rest that begins after the line
pub record LineRead (text rest after : List ℕ) (commands : List (Command ℤ)) : Type 0 where
  pub front : List ℕ
  pub is : text ≡ front ++ after
  pub script : left text rest ≡ with_front commands (left text after)

number_is : (text front rest : List ℕ) → text ≡ front ++ rest → number_in text rest ≡ count_by is_line_feed front + 1
number_is text front rest is = grind (arith, common_steps, take-append_seam front rest)

first_read : (number : ℕ) (rest : List ℕ) (commands : List (Command ℤ)) (behind : List (List ℕ)) → says rest ≡ Some commands → next_lines rest ≡ behind → script_from number (lines_of rest) ≡ with_front commands (script_from (number + 1) behind)
first_read number rest commands behind good e = rw (lines_first rest, good, e) refl

feed_first : (b : ℕ) (bs after : List ℕ) → after_end (b ∷ bs) ≡ Some after → (is_line_feed b ≡ true) × (after ≡ bs) × (next_lines (b ∷ bs) ≡ lines_of bs)
unfolding lines_of
feed_first b bs after e = grind arith

line_read : (text front rest end after : List ℕ) (commands : List (Command ℤ)) → text ≡ front ++ rest → InLine rest end → after_end end ≡ Some after → says rest ≡ Some commands → LineRead text rest after commands
line_read text front rest [] after commands is ends e good =
    let last = lines_end ends.front [] ends.all in
    record {
      front = front ++ ends.front;
      is = grind (arith, common_steps, ends.is);
      script = grind (arith, common_steps, ends.is, last.0, first_read (number_in text rest) rest commands [] good, no_line (number_in text []));
    }
line_read text front rest (b ∷ bs) after commands is ends e good =
    let feed = feed_first b bs after e in let end = lines_end ends.front (b ∷ bs) ends.all in
    let passed = front ++ (ends.front ++ b ∷ []) in
    let parts : text ≡ passed ++ after = grind (arith, common_steps, ends.is, feed.1) in
    let feeds : ℕ → ℕ = λ b. cond (is_line_feed b) 1 0 in
    let more : number_in text after ≡ number_in text rest + 1 = grind (
      arith,
      number_is text passed after parts,
      number_is text front rest is,
      sum_by-append feeds front (ends.front ++ b ∷ []),
      sum_by-append feeds ends.front (b ∷ []),
      end.1,
      feed.0,
    ) in
    let script = first_read (number_in text rest) rest commands (lines_of after) good in
    record { front = passed; is = parts; script = grind (arith, script, ends.is, end.0, feed.1, feed.2, more) }

-- ---- a line, as the functions read it

-- a command, and the line's end
pub command_read : (text front rest : List ℕ) (command : Command ℤ) (behind after : List ℕ) → text ≡ front ++ rest → CommandAt (after_blanks rest) command behind → after_end (after_blanks behind) ≡ Some after
    → LineRead text rest after (plain command ∷ [])
command_read text front rest command behind after is at e =
    let ends = then_follows _ rest behind (after_blanks behind) (then_follows _ rest (after_blanks rest) behind (blanks_end rest) (command_ends (after_blanks rest) command behind at)) (blanks_end behind) in
    line_read text front rest (after_blanks behind) after (plain command ∷ []) is ends e (ap commands_of (sym (words_behind_blanks rest)) ∙ said (after_blanks rest) command behind after at e)

-- no command, and the line's end
pub blank_read : (text front rest after : List ℕ) → text ≡ front ++ rest → after_end (after_blanks (after_blanks rest)) ≡ Some after → LineRead text rest after []
blank_read text front rest after is e =
    let end : after_end (after_blanks rest) ≡ Some after = ap after_end (sym (after_blanks_twice rest)) ∙ e in
    line_read text front rest (after_blanks rest) after [] is (blanks_end rest) end (ap commands_of (line_ended rest after end).0)

-- a command, and more than the line's end
pub command_bad : (text rest : List ℕ) (command : Command ℤ) (behind : List ℕ) → CommandAt (after_blanks rest) command behind → after_end (after_blanks behind) ≡ None → left text rest ≡ Err (number_in text rest)
command_bad text rest command behind at e = bad_line text rest (ap commands_of (sym (words_behind_blanks rest)) ∙ unsaid (after_blanks rest) command behind at e)

-- no command, and more than the line's end
pub other_bad : (text rest : List ℕ) → HasNoCommand (after_blanks rest) → after_end (after_blanks (after_blanks rest)) ≡ None → left text rest ≡ Err (number_in text rest)
other_bad text rest none e =
    let end : after_end (after_blanks rest) ≡ None = ap after_end (sym (after_blanks_twice rest)) ∙ e in
    bad_line text rest (ap commands_of (sym (words_behind_blanks rest)) ∙ unsaid_unnamed (after_blanks rest) none (no_blank_left rest) end)

-- ---- scripts

-- nothing is left
pub left_empty : (text rest : List ℕ) → length rest ≡ 0 → left text rest ≡ Ok []
left_empty text [] e = no_line (number_in text [])
left_empty text (b ∷ bs) e = absurd (omega (arith, e))

-- a text from its front
pub left_whole : (text : List ℕ) → left text text ≡ script_from 1 (lines_of text)
left_whole text = rw (number_is text [] text refl) refl

pub step_passed : (before : Result (List (Command ℤ)) ℕ) (xs : List (Command ℤ)) (between : Result (List (Command ℤ)) ℕ) (ys : List (Command ℤ)) (after : Result (List (Command ℤ)) ℕ)
    → before ≡ with_front xs between → between ≡ with_front ys after → before ≡ with_front (xs ++ ys) after
step_passed before xs between ys after e f = grind (arith, append_assoc)
