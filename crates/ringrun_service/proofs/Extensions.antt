-- A line that is an extension, whose numbers are read apart.
use Rattle.std.proofs.Common.{◌≡◌, ℕ, ℤ, ◌^◌, ◌-◌, ◌≤◌, List, [], ◌∷◌, ◌++◌, Bor, Option, Some, None, Err, length, ap, subst, sym, ◌∙◌, append_assoc}
use Rattle.ringbuffer.specs.Contents.{keep_last}
use Rattle.ringbuffer.specs.Meaning.{after_one}
use Rattle.ringbuffer.specs.declared.Command.{Command}
use Rattle.ringbuffer.specs.declared.Command.TheVariants.{Extend}
use Rattle.ringrun_service.proofs.LinesLeft.{command_bad, command_read, left}
use Rattle.ringrun_service.proofs.Runs.{in_full}
use Rattle.ringrun_service.specs.declared.script.Line.TheVariants.{Extension}
use Rattle.ringrun_service.specs.declared.script.Script.{Script}
use Rattle.ringrun_service.specs.Line.{IsLine}
use Rattle.ringrun_service.specs.Parsing.{after_blanks, after_end, number_at, NumbersAt}
use Rattle.ringrun_service.specs.Rest.{next_number, script_left, IsRest}
use Rattle.ringrun_service.specs.Script.{plain, vector_of, with_front}

-- the extension by a vector of these numbers
abbrev pub by_numbers : List ℤ → Command ℤ
by_numbers numbers = Extend (vector_of numbers)

-- the line ends after the numbers
pub extension_ended : (old now new : Script) (names : Bor (List ℕ)) (behind : List ℕ) (numbers : List ℤ) → IsRest old → IsLine (Extension names) old now
    → NumbersAt names.now numbers behind → length numbers ≤ 2 ^ 63 - 1 → new.text ≡ now.text → after_end (after_blanks behind) ≡ Some new.rest.now
    → IsRest new × (script_left old ≡ with_front (plain (by_numbers numbers) ∷ []) (script_left new))
unfolding script_left
extension_ended old now new names behind numbers rest line at few text end =
    let read = command_read old.text.now rest.0 old.rest.now (by_numbers numbers) behind new.rest.now rest.1 (names.now, line.0, subst (λ ns. NumbersAt names.now ns behind) (sym (in_full numbers few)) at) end in
    let texts : new.text.now ≡ old.text.now = ap (λ t. t.now) text ∙ ap (λ (s : Script). s.text.now) line.2 in
    ((read.front, texts ∙ read.is), read.script ∙ ap (λ t. with_front (plain (by_numbers numbers) ∷ []) (left t new.rest.now)) (sym texts))

-- it doesn't
pub extension_refused : (old now : Script) (names : Bor (List ℕ)) (behind : List ℕ) (numbers : List ℤ) → IsLine (Extension names) old now
    → NumbersAt names.now numbers behind → length numbers ≤ 2 ^ 63 - 1 → after_end (after_blanks behind) ≡ None → script_left old ≡ Err (next_number now)
unfolding script_left
extension_refused old now names behind numbers line at few none =
    command_bad old.text.now old.rest.now (by_numbers numbers) behind (names.now, line.0, subst (λ ns. NumbersAt names.now ns behind) (sym (in_full numbers few)) at) none ∙ ap (λ (s : Script). Err (next_number s)) (sym line.2)

-- one more number in front of those that are left
pub one_more : (text rest after : List ℕ) (front : List ℤ) (number : ℤ) → ((numbers : List ℤ) (end : List ℕ) → NumbersAt rest numbers end → NumbersAt text (front ++ numbers) end) → number_at rest ≡ Some (number, after)
    → (numbers : List ℤ) (end : List ℕ) → NumbersAt after numbers end → NumbersAt text ((front ++ number ∷ []) ++ numbers) end
one_more text rest after front number so_far here numbers end at =
    subst (λ ns. NumbersAt text ns end) (sym (append_assoc front (number ∷ []) numbers)) (so_far (number ∷ numbers) end (after, here, at))

-- the ring's items where the numbers are pushed one by one
pub extended : (limit : Option ℕ) (l after : List ℤ) (numbers : List ℤ) → length numbers ≤ 2 ^ 63 - 1 → after ≡ keep_last limit (l ++ numbers) → after ≡ after_one limit l (by_numbers numbers)
extended limit l after numbers few is = is ∙ ap (λ ns. keep_last limit (l ++ ns)) (sym (in_full numbers few))
