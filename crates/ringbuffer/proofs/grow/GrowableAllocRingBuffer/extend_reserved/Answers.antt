use Rattle.ringbuffer.proofs.Words.{YieldsList-from_slice, rules, items_from_extend, YieldsList-from_copied}
use Rattle.ringbuffer.proofs.grow.GrowableAllocRingBuffer.extend_reserved.Goals as goal

-- the source gives the slice's items
pub returns-clause-ok : goal.returns-clause-ok
returns-clause-ok g c =
    let (added, _) = rw c.in_default.is at (items_from_extend c.extend.result c.extend.ensures.ran (YieldsList-from_copied (YieldsList-from_slice c.args.items.now (search rules)))) in
    search rules
