-- Pairs that lie side by side in both rings are compared at once, and then those that follow.
use Rattle.ringbuffer.proofs.Words.{◌≡◌, View, ap, arith, length, sym}
use Rattle.ringbuffer.proofs.Paired.{GoesOn, prefix_on, prefix_past}
use Rattle.ringbuffer.proofs.Stretches.{LieAt, onward}
use Rattle.ringbuffer.proofs.fixed.FixedRing.prefix_by_stretch.Goals as goal
use Rattle.ringbuffer.proofs.fixed.FixedRing.prefix_by_stretch.Goals.{After-stretch_prefix-more}

-- what is compared at once of this ring, and of the other one
ours : (g : _) (c : goal.After-min-count g) → LieAt (g.S.RingSlots.seen c.self.inside.slots) c.args.self.now c.loop-equal.equal c.min-count.result c.place-place.result
ours g c = onward _ _ _ c.self.invariant c.self.view_is _ _ _ c.place-place.ensures (omega arith)

theirs : (g : _) (c : goal.After-min-count g)
    → LieAt (g.S.RingSlots.seen c.other.inside.slots) c.args.other.now c.loop-equal.equal c.min-count.result c.place-other_place.result
theirs g c = onward _ _ _ c.other.invariant c.other.view_is _ _ _ c.place-other_place.ensures (omega arith)

pub stretch_prefix-more-requires : goal.stretch_prefix-more-requires
stretch_prefix-more-requires g c =
    let (_, fit, held) = ours g c in let (_, others_fit, others_held) = theirs g c in record { full = (fit, (_, held)); others_full = (others_fit, (_, others_held)) }

-- what the pairs that were compared at once say of all
step : (g : _) (c : After-stretch_prefix-more g)
    → GoesOn g.T.PartialEq.eq c.args.self.now.items c.args.other.now.items c.loop-equal.equal c.min-count.result c.stretch_prefix-more.result
step g c =
    let (some, _, held) = ours g c.before in let (others, _, others_held) = theirs g c.before in
    prefix_on g.T.PartialEq.eq _ _ _ _ _ some others c.loop-equal.invariant.equal (c.stretch_prefix-more.ensures.value _ _ held others_held)

-- A pair differs.
pub returns-then-more-count : goal.returns-then-more-count
returns-then-more-count g c = sym ((step g c.before).0 c.if-more-count.true)

-- All of these pairs are equal.
pub loop-equal-preserved : goal.loop-equal-preserved
loop-equal-preserved g c =
    let all : c.stretch_prefix-more.result ≡ c.min-count.result = omega arith in
    record { within = omega arith; equal = rw all ((step g c.before).1 c.if-more-count.false) }

-- No pair is left.
pub returns : goal.returns
returns g c =
    let long = ap (λ (v : View _). length v.items) c.self.view_is in let others_long = ap (λ (v : View _). length v.items) c.other.view_is in
    let done = prefix_past g.T.PartialEq.eq c.loop-equal.equal c.args.self.now.items c.args.other.now.items (omega arith) in
    omega arith
