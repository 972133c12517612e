use Rattle.ringbuffer.proofs.Words.{All}
use Rattle.ringbuffer.proofs.grow.fill.clones.Given as goal

-- all items so far are clones
abbrev pub invariant-loop : goal.invariant-loop
invariant-loop g l = All (g.T.Clone.is_clone l.fn.value) l.items.items
