-- The zeros in front are shifted out.
use Rattle.std.proofs.Common.{arith, drop, ◌∙◌}
use Rattle.decimal.proofs.LeadingZeros.{first_written, place}
use Rattle.decimal.proofs.write.write_first.Goals as goal

pub overflow_shr-digits : goal.overflow_shr-digits
overflow_shr-digits c = let at = place c.args.number _ c.split_eight-digits.ensures in omega (arith, at.within)

pub returns-clause-written : goal.returns-clause-written
returns-clause-written c = first_written c.args.number c.split_eight-digits.result c.copy_from_slice.new.self (drop 8 c.args.output.now) c.requires.eight c.split_eight-digits.ensures (c.copy_from_slice.ensures.after ∙ c.to_le_bytes.ensures)
