-- Each way in which no number is read, and the number that is.
use Rattle.std.proofs.Common.{◌≡◌, ◌<◌, ◌≤◌, false, length, get_or, Some, None, ap, sym, arith, rules, ◌∙◌}
use Rattle.std.proofs.lemmas.Bool.Decides.{nat_tests}
use Rattle.decimal.proofs.Digits.{digit}
use Rattle.decimal.proofs.SignedNumbers.{before, in_machine, one_digit, sign_passed, signed_from_size}
use Rattle.decimal.proofs.read.read_decimal.Goals as goal
use Rattle.decimal.proofs.read.read_decimal.Goals.{in_default-via-then-text-lt2, in_default-via-else-text-lt2+then-text-lt48, in_default-via-else-text-lt2+else-text-lt48+else-text-lt58}

no_second : (c : goal.After-read_digit) → 1 < length c.args.text.now → digit (get_or c.args.text.now 1 0) ≡ false
no_second c = elim c.in_default.branch [
  | in_default-via-then-text-lt2 w ↦ λ l. let few : length c.args.text.now < 2 = search rules in absurd (omega (arith, l, few))
  | in_default-via-else-text-lt2+then-text-lt48 w ↦ λ l. let low : get_or c.args.text.now 1 0 < 48 = search rules in grind (arith, nat_tests)
  | in_default-via-else-text-lt2+else-text-lt48+else-text-lt58 w ↦ λ l. let high : 58 ≤ get_or c.args.text.now 1 0 = search rules in grind (arith, nat_tests)
]

pub returns-in_default-clause-number : goal.returns-in_default-clause-number
returns-in_default-clause-number c = rw (one_digit c.args.text.now (no_second c)) c.read_digit.ensures.digit

pub returns-in_err-size-clause-number : goal.returns-in_err-size-clause-number
returns-in_err-size-clause-number c = let text = c.args.text.now in rw c.from_residual.ensures (signed_from_size text _ None (sign_passed text c.from.result c.from.ensures) c.in_err-size.ensures.size)

pub returns-in_err-signed-clause-number : goal.returns-in_err-signed-clause-number
returns-in_err-signed-clause-number c =
    let text = c.args.text.now in let rest = c.in_ok-size.rest.now in
    rw c.from_residual-in_err-signed.ensures (signed_from_size text _ (Some (c.in_ok-size.size, rest)) (sign_passed text c.from.result c.from.ensures) c.in_ok-size.ensures.size ∙ ap (before rest) (sym c.in_err-signed.ensures))

pub returns-clause-number : goal.returns-clause-number
returns-clause-number c =
    let text = c.args.text.now in let rest = c.in_ok-size.rest.now in
    signed_from_size text _ (Some (c.in_ok-size.size, rest)) (sign_passed text c.from.result c.from.ensures) c.in_ok-size.ensures.size ∙ ap (before rest) (sym c.in_ok-signed.ensures)
    ∙ in_machine _ c.in_ok-size.size c.in_ok-signed.field-0 rest c.in_ok-signed.ensures
