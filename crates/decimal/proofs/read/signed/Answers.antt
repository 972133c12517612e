-- Either sign of the size, as the branch computes it.
use Rattle.std.proofs.Common.{◌≡◌, Some, ap, sym, ◌∙◌, w64, arith}
use Rattle.std.proofs.lemmas.Int.{to_z-of_z}
use mir.Val.{bool_byte, to_z}
use Rattle.decimal.proofs.SignedNumbers.{negative, not_negative, too_large}
use Rattle.decimal.specs.Numerals.{signed_of}
use Rattle.decimal.proofs.read.signed.Goals as goal
use Rattle.decimal.proofs.read.signed.Goals.{then-is_negative, else-is_negative}

pub returns-then-size-unsigned_abs : goal.returns-then-size-unsigned_abs
returns-then-size-unsigned_abs c = too_large c.args.is_negative c.args.size (omega (arith, c.from.ensures))

pub returns : goal.returns
returns c =
    ap Some (to_z-of_z w64 c.cast_signed.result (record { sfits = c.cast_signed.type_inv }) ∙ c.cast_signed.ensures)
    ∙ elim c.if-is_negative.branch [
      | then-is_negative w ↦
          let one : c.from.result ≡ 1 = c.from.ensures ∙ ap bool_byte w.if-is_negative.true in
          ap (λ n. Some (to_z w64 n)) w.number-is
          ∙ negative c.args.size w.wrapping_neg-number.result (omega arith) (omega arith) w.wrapping_neg-number.ensures
          ∙ ap (λ b. signed_of b c.args.size) (sym w.if-is_negative.true)
      | else-is_negative w ↦
          let none : c.from.result ≡ 0 = c.from.ensures ∙ ap bool_byte w.if-is_negative.false in
          ap (λ n. Some (to_z w64 n)) w.number-is
          ∙ not_negative c.args.size (omega arith)
          ∙ ap (λ b. signed_of b c.args.size) (sym w.if-is_negative.false)
    ]
