use Rattle.ringbuffer.proofs.Words.{Slots, ◌≡◌, ◌+◌, ◌≤◌, ◌∙◌, ap, arith, beside, drop, items_from, length, sym, take_at, rotated}
use Rattle.ringbuffer.proofs.RepeatedSteps.{length-rotated, rotated_back}
use Rattle.ringbuffer.proofs.Stretches.{stretch_is}
use Rattle.ringbuffer.proofs.MadeContiguous.{beside-refilled, beside-stretch, brought_contiguous, contiguous_fits, stretches}
use Rattle.ringbuffer.proofs.fixed.FixedRing.move_contiguous.Goals as goal

pub bring_first-requires : goal.bring_first-requires
bring_first-requires g c =
    let at = c.requires.span in let (last, first, empty) = stretches at.laid_out at.len c.if-first-span.true (omega (arith, c.size.ensures.value)) in
    record { some = at.laid_out.start_within; room = omega (arith, c.size.ensures.value, c.if-span.true, c.if-first-span.true); last = last; first = first; empty = empty }

-- Each item moved once.
pub returns-then-span-clause-contiguous : goal.returns-then-span-clause-contiguous
returns-then-span-clause-contiguous g c =
    ap (λ (s : Slots _). s.slots) c.bring_first.ensures ∙ brought_contiguous c.requires.span.laid_out c.requires.span.len c.if-first-span.true (omega (arith, c.size.ensures.value)) c.if-span.true

-- The items that were rotated are rotated back.
pub returns-clause-contiguous : goal.returns-clause-contiguous
returns-clause-contiguous g c =
    let s = g.S.RingSlots.seen c.args.slots.now in let start = c.args.span.start in let len = c.args.span.len in let size = length s.slots in let items = items_from s.slots start in
    let after = c.close_gap-moved.ensures in let n = c.close_gap-moved.result.0 in let next = c.close_gap-moved.result.1 in let xs = rotated n items in
    let low : n ≤ length items = omega (arith, after.moved, c.requires.span.len) in let long = length-rotated n items low in let at = c.requires.span.laid_out in
    let counted = c.requires.span.len ∙ sym long in
    let fit : next + length xs ≤ size = rw (after.start, sym counted) (contiguous_fits start len size at.start_within (omega (arith, at.fit, c.requires.span.len))).1 in
    let held = stretch_is _ next _ _ xs c.slice_mut.ensures.value (rw (after.contiguous, counted) (beside-stretch size next xs fit)) in
    let back : c.rotate_right.new.self ≡ items = c.rotate_right.ensures.after ∙ rotated_back n items _ low held in
    let seen = g.met.S.LendsRows.sees_row c.close_gap-moved.new.slots next c.args.span.len c.after-changes.result.count c.rotate_right.new.self in
    ap (λ (s : Slots _). s.slots) seen ∙ rw (back, after.contiguous, counted) (beside-refilled size next xs fit items ∙ ap (beside size next) (take_at items (drop (length items) xs) (length xs) (sym long)))
