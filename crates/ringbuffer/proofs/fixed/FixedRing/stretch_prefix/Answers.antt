use Rattle.ringbuffer.proofs.Words.{◌≡◌, ◌+◌, ◌*◌, ◌-◌, arith}
use Rattle.ringbuffer.proofs.Paired.{AreEqual, ends, full_at, goes_on, none_left}
use Rattle.ringbuffer.proofs.fixed.FixedRing.stretch_prefix.Goals as goal
use Rattle.ringbuffer.proofs.fixed.FixedRing.stretch_prefix.Goals.{After-get-in-loop-turn-2, After-get-then-len-eq1}

pub loop-turn-init : goal.loop-turn-init
loop-turn-init g c =
    record { equal = λ xs ys held others_held. omega arith; full = full_at _ _ _ c.requires.full; others_full = full_at _ _ _ c.requires.others_full }

-- A turn's first pair is equal.
one_equal : (g : _) (c : After-get-in-loop-turn-2 g) → let S = g.S.RingSlots in
    AreEqual g.T.PartialEq.eq (S.seen c.args.slots.now).slots (S.seen c.args.others.now).slots c.args.from c.args.other_from c.args.len (2 * c.loop-turn.turn + 1)
one_equal g c =
    goes_on _ _ _ _ _ _ (2 * c.loop-turn.turn) c.loop-turn.invariant.equal (omega arith) c.get.ensures c.get-in-loop-turn.ensures c.eq-same.ensures c.if-not-same.false

-- It differs.
pub returns-then-not-same-clause-value : goal.returns-then-not-same-clause-value
returns-then-not-same-clause-value g c =
    ends _ _ _ _ _ _ _ c.loop-turn.invariant.equal (omega arith) c.get.ensures c.get-in-loop-turn.ensures c.eq-same.ensures c.if-not-same.true

-- The second one does.
pub returns-then-not-next_same-clause-value : goal.returns-then-not-next_same-clause-value
returns-then-not-next_same-clause-value g c =
    ends _ _ _ _ _ _ _ (one_equal g c.before.before.before) (omega arith)
    c.get-in-loop-turn-2.ensures c.get-in-loop-turn-3.ensures c.eq-next_same.ensures c.if-not-next_same.true

-- Both are equal.
pub loop-turn-preserved : goal.loop-turn-preserved
loop-turn-preserved g c =
    let place : 2 * (c.loop-turn.turn + 1) ≡ 2 * c.loop-turn.turn + 1 + 1 = omega arith in
    let two = goes_on _ _ _ _ _ _ _ (one_equal g c.before.before.before) (omega arith)
    c.get-in-loop-turn-2.ensures c.get-in-loop-turn-3.ensures c.eq-next_same.ensures c.if-not-next_same.false in
    record { equal = rw place two; full = c.loop-turn.invariant.full; others_full = c.loop-turn.invariant.others_full }

-- All but the last of an odd number are equal.
but_last : (g : _) (c : After-get-then-len-eq1 g) → let S = g.S.RingSlots in
    AreEqual g.T.PartialEq.eq (S.seen c.args.slots.now).slots (S.seen c.args.others.now).slots c.args.from c.args.other_from c.args.len (c.args.len - 1)
but_last g c =
    let place : 2 * c.loop-turn.turn ≡ c.args.len - 1 = omega arith in rw place at c.loop-turn.invariant.equal

-- That one differs.
pub returns-then-not-last_same-clause-value : goal.returns-then-not-last_same-clause-value
returns-then-not-last_same-clause-value g c =
    ends _ _ _ _ _ _ _ (but_last g c.before.before.before) (omega arith)
    c.get-then-len-eq1.ensures c.get-then-len-eq1-2.ensures c.eq-last_same.ensures c.if-not-last_same.true

-- All pairs are equal.
pub returns-else-not-last_same-clause-value : goal.returns-else-not-last_same-clause-value
returns-else-not-last_same-clause-value g c = λ xs ys held others_held.
    let end : c.args.len - 1 + 1 ≡ c.args.len = omega arith in
    let all = goes_on _ _ _ _ _ _ _ (but_last g c.before.before.before) (omega arith)
    c.get-then-len-eq1.ensures c.get-then-len-eq1-2.ensures c.eq-last_same.ensures c.if-not-last_same.false xs ys held others_held in
    let same = rw (end, none_left _ _ _ c.requires.full xs held) at all in omega arith
