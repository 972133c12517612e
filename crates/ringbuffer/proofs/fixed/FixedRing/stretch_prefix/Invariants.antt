-- the pairs so far were equal, and each slot of both stretches holds an item
use Rattle.ringbuffer.proofs.Words.{◌+◌, ◌*◌, ◌<◌, IsSome, None, get_or, ℕ}
use Rattle.ringbuffer.proofs.Paired.{AreEqual}
use Rattle.ringbuffer.proofs.fixed.FixedRing.stretch_prefix.Given as goal

abbrev pub invariant-loop-turn : goal.invariant-loop-turn
invariant-loop-turn g l =
    let cs = (g.S.RingSlots.seen l.slots).slots in let ds = (g.S.RingSlots.seen l.others).slots in
    record {
      equal : AreEqual g.T.PartialEq.eq cs ds l.from l.other_from l.fn.len (2 * l.turn);
      full : (k : ℕ) → k < l.fn.len → IsSome (get_or cs (l.from + k) None);
      others_full : (k : ℕ) → k < l.fn.len → IsSome (get_or ds (l.other_from + k) None);
    }
