use Rattle.ringbuffer.proofs.Words.{◌≡◌, ◌+◌, ◌<◌, ◌∷◌, ◌++◌, [], arith, length, length-append, all_zip_more}
use Rattle.ringbuffer.proofs.grow.ends.GrowableAllocRingBufferDoubleEndedRing.clone_into.Goals as goal

-- One more clone is pushed.
pub loop-i-preserved : goal.loop-i-preserved
loop-i-preserved g c =
    let (clones, long, room) = c.loop-i.invariant in let below : c.loop-i.i < length c.self.inside.deque.items = omega (arith, c.self.inside.deque.ok.0) in
    let ys = c.loop-i.other-inside.deque.items in let y = c.in_ok-clone.field-0 in let longer : length (ys ++ y ∷ []) ≡ c.loop-i.i + 1 = omega (arith, length-append ys (y ∷ [])) in
    let all = all_zip_more _ _ _ c.loop-i.i _ _ below c.index.ensures (rw long at clones) c.in_ok-clone.ensures.cases in
    (rw (c.push_back_reserved.ensures.items, longer) all, rw c.push_back_reserved.ensures.items longer, omega arith)
