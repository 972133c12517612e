use Rattle.ringbuffer.proofs.Words.{LaysOut, Some, ap, changed, sym, view_from, ◌∙◌, after_swap, length-swap}
use Rattle.ringbuffer.proofs.LaysOut.{IsSound-after}
use Rattle.ringbuffer.proofs.Swapped.{LaysOut-swap, other_full}
use Rattle.ringbuffer.proofs.fixed.FixedRing.swap.Goals as goal

pub get_mut-requires : goal.get_mut-requires
get_mut-requires g c =
    let low = rw (sym c.self.view_is) at c.requires in
    other_full _ _ _ _ _ _ c.self.invariant.laid_out low.first low.second c.if-i-j.false c.place_branchless-a.ensures c.place_branchless-b.ensures _ c.take-first.ensures.after

-- Each of the two lies where the other lay.
swapped : (g : _) (c : goal.After-put g) → let s = g.S.RingSlots.seen c.self.inside.slots in let start = c.self.inside.span.start in
    LaysOut s (g.S.RingSlots.seen c.put.new.self) start (after_swap c.args.i c.args.j (view_from s start))
swapped g c =
    let low = rw (sym c.self.view_is) at c.requires in let took = c.take-first in let had = c.replace-second in
    let written = g.met.S.RingSlots.sees_write took.new.self c.place_branchless-b.result had.new.dest ∙ ap (λ x. changed (g.S.RingSlots.seen took.new.self) c.place_branchless-b.result (Some x)) had.ensures.after in
    LaysOut-swap _ _ _ _ _ _ c.self.invariant.laid_out low.first low.second c.if-i-j.false c.place_branchless-a.ensures c.place_branchless-b.ensures _ _ _ _ took.ensures.after took.ensures.value
    (c.get_mut.ensures.value ∙ ap Some (sym had.ensures.value)) (c.put.ensures ∙ ap (λ s. changed s c.place_branchless-a.result (Some had.result)) written)

pub invariant_of-self : goal.invariant_of-self
invariant_of-self g c = let sound = c.self.invariant in IsSound-after sound (swapped g c) (sound.counted ∙ sym (length-swap _ c.args.i c.args.j)) sound.within

pub returns : goal.returns
returns g c = (swapped g c).shows ∙ ap (after_swap c.args.i c.args.j) c.self.view_is
