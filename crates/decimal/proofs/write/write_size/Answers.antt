-- Eight digits after those of the rest.
use Rattle.std.proofs.Common.{arith}
use Rattle.decimal.proofs.LeadingZeros.{eight_after}
use Rattle.decimal.proofs.write.write_size.Goals as goal

pub returns-clause-written : goal.returns-clause-written
returns-clause-written c =
    eight_after c.write_sixteen-count.result _ c.args.size c.write_sixteen-count.new.output c.write_eight.new.output (omega arith) (omega (arith, c.ranges.size.fits)) (omega arith) (omega arith) c.write_sixteen-count.ensures.written c.write_eight.ensures.digits c.write_eight.ensures.value
