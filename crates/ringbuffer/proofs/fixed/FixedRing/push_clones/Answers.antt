use Rattle.ringbuffer.proofs.Words.{◌≡◌, ◌+◌, ◌-◌, ◌++◌, AllZip, AllZip-join, List, MatchResult, arith, drop, length, length-append, length-drop, length-take, take, take_all, take-add, PushesOnto}
use Rattle.ringbuffer.proofs.PushedStretch.{PushesOnto-then}
use Rattle.ringbuffer.proofs.fixed.FixedRing.push_clones.Goals as goal
use Rattle.ringbuffer.proofs.fixed.FixedRing.push_clones.Goals.{After-push_clone_stretch}

-- Clones of the items so far and of some after them are those of a longer beginning.
pushed : (g : _) (c : After-push_clone_stretch g)
    → (ys : List _) × (length ys ≡ c.loop-done.done + c.push_clone_stretch.result.1) × AllZip g.T.Clone.is_clone (take (length ys) c.args.items.now) ys
    × MatchResult c.push_clone_stretch.result.2 (λ _. Unit {0}) (λ _. (x : _) × ¬ (g.T.Clone.is_infallible x))
    × PushesOnto (g.S.RingSlots.seen c.args.slots.now) (g.S.RingSlots.seen c.push_clone_stretch.new.slots) c.args.span c.push_clone_stretch.result.0 c.args.capacity ys
pushed g c =
    let (ys, long, _, clones, so_far) = c.loop-done.invariant in let (zs, many, more, refused, stretch) = c.push_clone_stretch.ensures.pushed in
    let items = c.args.items.now in let i = c.loop-done.done in
    let rest = rw (take_all (length items - i) (drop i items) (grind (arith, length-drop))) at more in let all = AllZip-join g.T.Clone.is_clone _ _ ys zs clones rest in
    let both : length (ys ++ zs) ≡ i + length zs = omega (arith, long, length-append ys zs) in
    (ys ++ zs, omega (arith, both, many), rw (both, take-add i (length zs) items) all, refused, PushesOnto-then c.args.span _ ys zs so_far stretch)

-- The next clone of a stretch is refused.
pub returns-in-Err : goal.returns-in-Err
returns-in-Err g c = let (ys, _, clones, refused, so_far) = pushed g c.before.before in (ys, clones, rw c.in-Err.is at refused, so_far)

pub loop-done-preserved : goal.loop-done-preserved
loop-done-preserved g c =
    let (ys, long, clones, _, so_far) = pushed g c.before.before in let items = c.args.items.now in let i = c.loop-done.done in
    (ys, long, omega (arith, length-take (length items - i) (drop i items)), rw long at clones, so_far)
