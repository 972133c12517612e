use Rattle.ringbuffer.proofs.Words.{[], ◌∷◌, arith, rules, length-drop}
use Rattle.ringbuffer.proofs.PushedStretch.{PushesOnto-then}
use Rattle.ringbuffer.proofs.fixed.FixedRing.push_each.Goals as goal

-- One more item is pushed.
pub loop-item-preserved : goal.loop-item-preserved
loop-item-preserved g c =
    let so_far = c.loop-item.invariant in let pushed = c.push_from.ensures in
    let (after, len) = PushesOnto-then c.args.span c.args.capacity c.loop-item.yielded (c.in-Some.item ∷ []) (so_far.lays_out, so_far.len) (pushed.after, pushed.len) in
    record { can_next = search rules; ends = search rules; lays_out = after; len = len; within = omega (arith, len, length-drop {A = g.row.T.Denot}) }
