-- Each number takes a byte at least. Those so far come before those at what is left, and stand on the ring after its items.
use Rattle.std.proofs.Common.{◌≡◌, ◌+◌, ◌≤◌, ◌++◌, ℤ, List, ℕ, length}
use Rattle.ringbuffer.specs.Contents.{keep_last}
use Rattle.ringrun_service.specs.Parsing.{NumbersAt}
use Rattle.ringrun_service.proofs.service.push_numbers.Given as goal

abbrev pub invariant-loop-number : goal.invariant-loop-number
invariant-loop-number g l =
    let contents = g.R.RingBuffer.contents in let limit = g.R.RingBuffer.limit in
    record {
      same_limit : limit l.ring ≡ limit l.fn.ring;
      read : (front : List ℤ) × ((numbers : List ℤ) (rest : List ℕ) → NumbersAt l.rest numbers rest → NumbersAt l.text (front ++ numbers) rest)
          × (length front + length l.rest ≤ length l.text) × (contents l.ring ≡ keep_last (limit l.fn.ring) (contents l.fn.ring ++ front));
    }

abbrev pub decreases-loop-number : goal.decreases-loop-number
decreases-loop-number g l = length l.rest
