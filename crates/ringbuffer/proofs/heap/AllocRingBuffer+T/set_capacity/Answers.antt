use Rattle.ringbuffer.proofs.Words.{ℕ, rules, ◌^◌, ◌<◌, ◌≤◌, arith, dec_lt, IsPowerOfTwo}
use Rattle.std.proofs.Math.Pow.{pow_mono}
use Rattle.ringbuffer.proofs.heap.AllocRingBuffer+T.set_capacity.Goals as goal

-- a power of two that fits a word is at most half of what a word counts
at_most_half : (size : ℕ) → IsPowerOfTwo size → size < 2 ^ 64 → size ≤ 2 ^ 63
at_most_half size (k, is) fits =
    elim (dec_lt k 64) [
      | yes below ↦ let bound = pow_mono {i = k} {j = 63} (omega arith) in omega arith
      | no above ↦ let bound = pow_mono {i = 64} {j = k} (omega arith) in absurd (omega arith)
    ]

-- The capacity that is there is at most the number of slots, and so not too large.
pub returns-then-capacity-limit-clause-too_large : goal.returns-then-capacity-limit-clause-too_large
returns-then-capacity-limit-clause-too_large g c =
    let half = at_most_half c.size.result c.size.ensures.size.0 (search rules) in λ large. absurd (omega (arith, half, large))
