use Rattle.ring_core.proofs.Words.{Ok, ◌∙◌, ap, is_ok, rules}
use Rattle.ring_core.proofs.Cloned.{equal_clones_fill}
use Rattle.ring_core.proofs.Filling.{IsFilled-turn}
use Rattle.ring_core.proofs.ring.RingBuffer.fill.Goals as goal

pub loop-init : goal.loop-init
loop-init g c = search rules

pub loop-preserved : goal.loop-preserved
loop-preserved g c =
    let (filled, limit) = c.loop.invariant in
    let pushed = rw limit at c.push.ensures.ok (ap is_ok c.in_default.is) in
    let more = rw limit at c.push.ensures.changes in
    (IsFilled-turn filled c.in_ok-clone.field-0 _ _ c.in_ok-clone.ensures.cases (search rules) pushed more, c.push.ensures.limit ∙ limit)

pub returns-in-Err : goal.returns-in-Err
returns-in-Err g c = search rules

pub returns-clause-short : goal.returns-clause-short
returns-clause-short g c = search rules

pub returns-clause-items_if_clones_equal : goal.returns-clause-items_if_clones_equal
returns-clause-items_if_clones_equal g c =
    let (filled, limit) = c.loop.invariant in
    equal_clones_fill {E = Unit {0}} g.T.Clone.is_clone (g.Self.RingBuffer.limit c.args.self.now) c.args.value _ (Ok tt) filled.items (search rules)
