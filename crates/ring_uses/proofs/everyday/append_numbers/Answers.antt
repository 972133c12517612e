-- A vector gives its items in order, all of them or a cut beginning.
use Rattle.std.specs.Prelude.{None}
use Rattle.ringbuffer.proofs.SourceEnds.{YieldsList-of_vec, all_extended, cut_extended}
use Rattle.ring_uses.proofs.everyday.append_numbers.Goals as goal

pub returns-clause-all : goal.returns-clause-all
returns-clause-all c =
    let (it, xs, source, kept, _, took) = c.extend.ensures.extends in
    all_extended xs None _ _ c.extend.result kept took (YieldsList-of_vec c.args.numbers it source.0 source.1)

pub returns-clause-part : goal.returns-clause-part
returns-clause-part c =
    let (it, xs, source, kept, _, took) = c.extend.ensures.extends in
    cut_extended xs None _ _ c.extend.result kept took (λ some. cc) (YieldsList-of_vec c.args.numbers it source.0 source.1)
