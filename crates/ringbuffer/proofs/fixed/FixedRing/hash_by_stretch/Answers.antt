use Rattle.ringbuffer.proofs.Words.{◌∙◌, ◌-◌, View, ap, length, sym, flat_map-append, fold-append}
use Rattle.ringbuffer.proofs.Stretches.{InTwo, in_two}
use Rattle.ringbuffer.proofs.fixed.FixedRing.hash_by_stretch.Goals as goal
use Rattle.ringbuffer.proofs.fixed.FixedRing.hash_by_stretch.Goals.{After-write_usize}

-- the items lie in two stretches
both : (g : _) (c : After-write_usize g)
    → InTwo (g.S.RingSlots.seen c.self.inside.slots).slots c.self.inside.span.start c.min-first.result (c.self.inside.span.len - c.min-first.result) c.args.self.now.items
both g c = in_two _ _ _ c.self.invariant c.self.view_is (rw c.size.ensures.value at c.min-first.ensures)

pub hash_stretch-requires : goal.hash_stretch-requires
hash_stretch-requires g c = (both g c.before).front

pub hash_stretch-requires-2 : goal.hash_stretch-requires-2
hash_stretch-requires-2 g c = (both g c.before.before.before).rest

-- The number is fed, and then the items of the two stretches.
pub returns : goal.returns
returns g c =
    let two = both g c.before.before.before.before in let (_, (xs, held)) = two.front in let (_, (ys, more)) = two.rest in
    let counted = c.self.invariant.counted ∙ ap (λ (v : View _). length v.items) c.self.view_is in
    let first = c.hash_stretch.ensures xs held in let both = flat_map-append g.T.Hash.hash_input xs ys in
    rw (sym counted, sym (two.whole xs ys held more), both, fold-append g.H.Hasher.write, sym c.write_usize.ensures, sym first) (c.hash_stretch-2.ensures ys more)
