use Rattle.ringbuffer.proofs.Words.{◌-◌, refl, sym, list_any-append}
use Rattle.ringbuffer.proofs.Stretches.{InTwo, in_two}
use Rattle.ringbuffer.proofs.fixed.FixedRing.holds_by_stretch.Goals as goal

-- the items lie in two stretches
both : (g : _) (c : goal.After-min-first g)
    → InTwo (g.S.RingSlots.seen c.self.inside.slots).slots c.self.inside.span.start c.min-first.result (c.self.inside.span.len - c.min-first.result) c.args.self.now.items
both g c = in_two _ _ _ c.self.invariant c.self.view_is (rw c.size.ensures.value at c.min-first.ensures)

pub stretch_holds-requires : goal.stretch_holds-requires
stretch_holds-requires g c = (both g c).front

pub stretch_holds-requires-else-stretch_holds : goal.stretch_holds-requires-else-stretch_holds
stretch_holds-requires-else-stretch_holds g c = (both g c.before.before).rest

-- The first stretch has one.
pub returns-then-stretch_holds : goal.returns-then-stretch_holds
returns-then-stretch_holds g c =
    let two = both g c.before.before in let (_, (xs, held)) = two.front in let (_, (ys, more)) = two.rest in
    rw (sym (two.whole xs ys held more), list_any-append, sym (c.stretch_holds.ensures xs held), c.if-stretch_holds.true) refl

-- The second stretch decides where the first has none.
pub returns-else-stretch_holds : goal.returns-else-stretch_holds
returns-else-stretch_holds g c =
    let two = both g c.before.before.before in let (_, (xs, held)) = two.front in let (_, (ys, more)) = two.rest in
    rw (sym (two.whole xs ys held more), list_any-append, sym (c.stretch_holds.ensures xs held), c.if-stretch_holds.false) (c.stretch_holds-else-stretch_holds.ensures ys more)
