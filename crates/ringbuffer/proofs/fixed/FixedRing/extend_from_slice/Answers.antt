use Rattle.ringbuffer.proofs.Words.{arith, common_steps, rules, ◌∙◌, View, YieldsList-from_copied, YieldsList-from_slice, ap, drop, after_puts}
use Rattle.ringbuffer.proofs.Conversions.{items_drained}
use Rattle.ringbuffer.proofs.RepeatedSteps.{after_extend-newest, after_extend_from_slice-by}
use Rattle.ringbuffer.proofs.fixed.FixedRing.extend_from_slice.Goals as goal

pub returns-then-items-eq1 : goal.returns-then-items-eq1
returns-then-items-eq1 g c = grind (arith, common_steps)

-- As many items are kept as leave room for the new ones.
pub returns-then-not-writes_over-2 : goal.returns-then-not-writes_over-2
returns-then-not-writes_over-2 g c =
    let newest = c.split_at.result.1.now in
    let kept = c.limit-capacity.result in
    rw (c.limit-capacity.ensures.value ∙ ap (λ (v : View _). g.S.RingSlots.limit v.capacity) c.self.view_is) at (c.put_all.ensures ∙ ap (after_puts newest) c.keep_newest.ensures ∙ after_extend_from_slice-by kept c.args.self.now c.args.items.now newest (c.split_at.ensures.back ∙ ap (λ n. drop n c.args.items.now) c.saturating_sub.ensures))

-- What the limit leaves of the slice is pushed, here item by item.
pub returns-then-newest-lt-FEW_IN : goal.returns-then-newest-lt-FEW_IN
returns-then-newest-lt-FEW_IN g c =
    let newest = c.split_at.result.1.now in
    let is = c.split_at.ensures.back ∙ ap (λ n. drop n c.args.items.now) c.saturating_sub.ensures in
    let (it, xs, is_it, drained, after) = c.extend_one_by_one.ensures in
    (rw (items_drained xs newest (rw is_it at drained) (YieldsList-from_copied (YieldsList-from_slice _ (search rules)))) at after)
    ∙ (rw (c.limit-capacity.ensures.value ∙ ap (λ (v : View _). g.S.RingSlots.limit v.capacity) c.self.view_is) at (after_extend-newest c.limit-capacity.result c.args.self.now c.args.items.now newest is))

pub returns-else-newest-lt-FEW_IN : goal.returns-else-newest-lt-FEW_IN
returns-else-newest-lt-FEW_IN g c =
    let newest = c.split_at.result.1.now in
    let is = c.split_at.ensures.back ∙ ap (λ n. drop n c.args.items.now) c.saturating_sub.ensures in
    c.write_over.ensures
    ∙ (rw (c.limit-capacity.ensures.value ∙ ap (λ (v : View _). g.S.RingSlots.limit v.capacity) c.self.view_is) at (after_extend-newest c.limit-capacity.result c.args.self.now c.args.items.now newest is))
