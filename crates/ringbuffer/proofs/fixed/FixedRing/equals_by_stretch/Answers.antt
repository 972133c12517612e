use Rattle.ringbuffer.proofs.Words.{HoldsStretch, List, View, ap, arith, length, pointwise, refl, sym, ◌&&◌, ◌-◌, ◌≡◌}
use Rattle.ringbuffer.proofs.Paired.{pointwise-cut}
use Rattle.ringbuffer.proofs.Stretches.{InTwo, in_two, stretch_long}
use Rattle.ringbuffer.proofs.fixed.FixedRing.equals_by_stretch.Goals as goal
use Rattle.ringbuffer.proofs.fixed.FixedRing.equals_by_stretch.Goals.{After-split_at, After-stretch_equals}

-- the items lie in two stretches, as long as the parts of the slice
both : (g : _) (c : After-split_at g)
    → InTwo (g.S.RingSlots.seen c.self.inside.slots).slots c.self.inside.span.start (length c.split_at.result.0.now) (length c.split_at.result.1.now) c.args.self.now.items
both g c =
    let rest : length c.split_at.result.1.now ≡ c.self.inside.span.len - c.min-first.result = omega (arith, ap (λ (v : View _). length v.items) c.self.view_is) in
    rw (c.split_at.ensures.front_len, rest) (in_two _ _ _ c.self.invariant c.self.view_is (rw c.size.ensures.value at c.min-first.ensures))

pub stretch_equals-requires : goal.stretch_equals-requires
stretch_equals-requires g c = (both g c.before.before).front

pub stretch_equals-requires-then-stretch_equals : goal.stretch_equals-requires-then-stretch_equals
stretch_equals-requires-then-stretch_equals g c = (both g c.before.before.before.before).rest

-- The first stretch is compared, and what the second holds is left.
compared : (g : _) (c : After-stretch_equals g) (ys : List _) → HoldsStretch (g.S.RingSlots.seen c.self.inside.slots).slots 0 (length c.split_at.result.1.now) ys
    → pointwise g.T.PartialEq.eq c.args.self.now.items c.args.items.now ≡ (c.stretch_equals.result && pointwise g.T.PartialEq.eq ys c.split_at.result.1.now)
compared g c ys more =
    let two = both g c.before.before.before in let (fit, (xs, held)) = two.front in
    let parts = pointwise-cut g.T.PartialEq.eq xs ys c.args.items.now _ _ _ c.split_at.ensures.front c.split_at.ensures.back (stretch_long _ _ _ xs held fit) in
    rw (sym (two.whole xs ys held more), parts, sym (c.stretch_equals.ensures xs held)) refl

-- The second stretch decides where the first is equal.
pub returns-then-stretch_equals : goal.returns-then-stretch_equals
returns-then-stretch_equals g c =
    let (_, (ys, more)) = (both g c.before.before.before.before.before).rest in
    rw (compared g c.before.before ys more, c.if-stretch_equals.true) (c.stretch_equals-then-stretch_equals.ensures ys more)

-- The first stretch differs.
pub returns-else-stretch_equals : goal.returns-else-stretch_equals
returns-else-stretch_equals g c =
    let (_, (ys, more)) = (both g c.before.before.before.before).rest in
    rw (compared g c.before ys more, c.if-stretch_equals.false) refl
