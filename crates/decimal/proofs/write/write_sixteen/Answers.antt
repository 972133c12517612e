-- Eight digits after those that come first.
use Rattle.std.proofs.Common.{arith}
use Rattle.decimal.proofs.LeadingZeros.{eight_after}
use Rattle.decimal.proofs.write.write_sixteen.Goals as goal

pub returns-clause-written : goal.returns-clause-written
returns-clause-written c =
    eight_after c.write_first-count.result _ c.args.size c.write_first-count.new.output c.write_eight.new.output (omega arith) (omega arith) (omega arith) (omega arith) c.write_first-count.ensures.written c.write_eight.ensures.digits c.write_eight.ensures.value
