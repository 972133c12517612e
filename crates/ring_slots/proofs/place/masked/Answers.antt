use Rattle.ring_slots.proofs.Words.{pow_mono, rules, ◌<◌, ◌≤◌, ◌^◌, ◌+◌, ◌-◌, ◌≡◌, ℕ, arith}
use Rattle.std.proofs.Math.Decide.{dec_lt}
use Rattle.std.proofs.lemmas.Nat.{and_mask}
use Rattle.std.specs.Int.{IsPowerOfTwo}
use Rattle.ring_slots.proofs.place.masked.Goals as goal

-- a power of two that fits a word is at most half of what a word counts
at_most_half : (size : ℕ) → IsPowerOfTwo size → size < 2 ^ 64 → size ≤ 2 ^ 63
at_most_half size (k, is) fits =
    elim (dec_lt k 64) [
      | yes below ↦ let bound = pow_mono {i = k} {j = 63} (omega arith) in omega arith
      | no above ↦ let bound = pow_mono {i = 64} {j = k} (omega arith) in absurd (omega arith)
    ]

pub overflow_add-result : goal.overflow_add-result
overflow_add-result c =
    let half = at_most_half (c.args.mask + 1) c.requires.size c.requires.word in search rules

pub returns : goal.returns
returns c =
    let low : c.args.mask ≡ 2 ^ c.requires.size.0 - 1 = let is = c.requires.size.1 in omega arith in
    rw c.requires.size.1 (rw low (and_mask _ c.requires.size.0))
