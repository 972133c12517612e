-- The eight bytes, by the lemma on numbers alone.
use Rattle.std.proofs.Common.{◌≤◌, length, ap, ◌∙◌, arith}
use Rattle.std.specs.Int.{from_le_bytes, w64}
use Rattle.decimal.proofs.EightDigitsRead.{told}
use Rattle.decimal.proofs.read.first_eight.Goals as goal

pub returns-then-bytes-ne0 : goal.returns-then-bytes-ne0
returns-then-bytes-ne0 c both =
    (told c.args.digits.now (λ i. (c.type_inv.digits i).fits) both.0 _ (c.from_le_bytes-bytes.ensures ∙ ap (from_le_bytes w64) c.in_ok-eight.ensures.cases.0)).0 c.if-bytes-ne0.true both.1

pub returns : goal.returns
returns c =
    let cases = c.in_ok-eight.ensures.cases in let long : 8 ≤ length c.args.digits.now = omega (arith, cases.2) in
    let is = (told c.args.digits.now (λ i. (c.type_inv.digits i).fits) long _ (c.from_le_bytes-bytes.ensures ∙ ap (from_le_bytes w64) cases.0)).1 c.if-bytes-ne0.false in
    ((long, is.0), is.1)
