-- A number in two parts, its bits from k on and those below.
use Rattle.std.proofs.Common.{◌≡◌, ℕ, ◌+◌, ◌-◌, ◌*◌, ◌/◌, ◌%◌, ◌^◌, ◌<◌, ◌≤◌, ltb, sym, ap, ◌∙◌, arith}
use Rattle.std.proofs.lemmas.Bool.Decides.{nat_tests}
use Rattle.std.proofs.lemmas.Nat.{and_block, and_mask, mod_below, pow_pos, shr_split}
use Rattle.std.specs.Int.RustNames.{bit_and}
use Rattle.decimal.proofs.Cases.{by_cases}

pub low_or_high : {P : Type 0} (k i : ℕ) → (i < k → P) → (k ≤ i → P) → P
low_or_high k i low high = by_cases (ltb i k) (λ h. low (grind (arith, nat_tests))) (λ h. high (grind (arith, nat_tests)))

-- a mask in two parts masks each part
pub and_parts : (n k a b : ℕ) → b < 2 ^ k → bit_and n (a * 2 ^ k + b) ≡ bit_and (n / 2 ^ k) a * 2 ^ k + bit_and (n % 2 ^ k) b
and_parts n k a b h = ap (λ x. bit_and x (a * 2 ^ k + b)) (sym (shr_split n k)) ∙ and_block k (n / 2 ^ k) a (n % 2 ^ k) b (mod_below n (2 ^ k) (pow_pos k)) h

-- the lowest j bits of each
pub kept : (n j k : ℕ) → 2 ^ j - 1 < 2 ^ k → bit_and n ((2 ^ j - 1) * 2 ^ k + (2 ^ j - 1)) ≡ n / 2 ^ k % 2 ^ j * 2 ^ k + n % 2 ^ k % 2 ^ j
kept n j k h = and_parts n k (2 ^ j - 1) (2 ^ j - 1) h ∙ rw (and_mask (n / 2 ^ k) j, and_mask (n % 2 ^ k) j)
