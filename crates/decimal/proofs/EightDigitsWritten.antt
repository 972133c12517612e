-- Eight digits made together: in fours, then in pairs.
use Rattle.std.proofs.Common.{◌≡◌, ℕ, ◌+◌, ◌-◌, ◌*◌, ◌/◌, ◌%◌, ◌^◌, ◌<◌, ◌≤◌, List, [], ◌∷◌, length, refl, ◌∙◌, subst, arith}
use Rattle.std.specs.Int.{from_le_bytes, w64}
use Rattle.std.specs.Int.Digits.{number_from_digits}
use Rattle.std.specs.Int.RustNames.{bit_and}
use Rattle.decimal.proofs.BitParts.{and_parts, kept}
use Rattle.decimal.proofs.Bytes.{Below, by_eight}
use Rattle.decimal.specs.LastEight.{last_eight}

abbrev pub fours : ℕ → ℕ
fours n = n / 10000 + n % 10000 * 4294967296 % 18446744073709551616

abbrev pub hundreds : ℕ → ℕ
hundreds f = bit_and (f * 10486 / 1048576) 545460846719

abbrev pub pairs : ℕ → ℕ
pairs f = hundreds f + (f - hundreds f * 100) * 65536 % 18446744073709551616

abbrev pub tens : ℕ → ℕ
tens p = bit_and (p * 103 / 1024) 4222189076152335

abbrev pub ones : ℕ → ℕ
ones p = tens p + (p - tens p * 10) * 256 % 18446744073709551616

-- the steps at a number, none of which goes over, and the word that they make
pub record Steps (n word : ℕ) : Type 0 where
  pub hundreds_within : hundreds (fours n) * 100 ≤ fours n
  pub pairs_within : pairs (fours n) * 103 < 2 ^ 64
  pub tens_within : tens (pairs (fours n)) * 10 ≤ pairs (fours n)
  pub word_within : ones (pairs (fours n)) < 2 ^ 64
  pub made : ones (pairs (fours n)) ≡ word

steps_of : (ds : List ℕ) → length ds ≡ 8 → Below 10 ds → Steps (number_from_digits 10 ds) (from_le_bytes w64 ds)
steps_of = by_eight (λ ds. Below 10 ds → Steps (number_from_digits 10 ds) (from_le_bytes w64 ds)) (λ d0 d1 d2 d3 d4 d5 d6 d7 h.
    let n = number_from_digits 10 (d0 ∷ d1 ∷ d2 ∷ d3 ∷ d4 ∷ d5 ∷ d6 ∷ d7 ∷ []) in
    let a = 1000 * d0 + 100 * d1 + 10 * d2 + d3 in let b = 1000 * d4 + 100 * d5 + 10 * d6 + d7 in
    let f : fours n ≡ a + b * 2 ^ 32 = omega (arith, h) in
    let hs : hundreds (fours n) ≡ 10 * d0 + d1 + (10 * d4 + d5) * 2 ^ 32 = kept (fours n * 10486 / 1048576) 7 32 (omega arith) ∙ omega (arith, h, f) in
    let ps : pairs (fours n) ≡ 10 * d0 + d1 + (10 * d2 + d3) * 2 ^ 16 + (10 * d4 + d5) * 2 ^ 32 + (10 * d6 + d7) * 2 ^ 48 = omega (arith, h, f, hs) in
    let ts : tens (pairs (fours n)) ≡ d0 + d2 * 2 ^ 16 + d4 * 2 ^ 32 + d6 * 2 ^ 48 =
    let q = pairs (fours n) * 103 / 1024 in let halves = and_parts q 32 983055 983055 (omega arith) in
    let low = kept (q % 2 ^ 32) 4 16 (omega arith) in let high = kept (q / 2 ^ 32) 4 16 (omega arith) in
    omega (arith, h, ps, halves, low, high) in
    let os : ones (pairs (fours n)) ≡ from_le_bytes w64 (d0 ∷ d1 ∷ d2 ∷ d3 ∷ d4 ∷ d5 ∷ d6 ∷ d7 ∷ []) = omega (arith, h, ps, ts) in
    record {
      hundreds_within = omega (arith, h, f, hs);
      pairs_within = omega (arith, h, ps);
      tens_within = omega (arith, h, ps, ts);
      word_within = omega (arith, h, os);
      made = os;
    })

pub below_ten : (n : ℕ) → Below 10 (last_eight n)
below_ten n = (omega arith, (omega arith, (omega arith, (omega arith, (omega arith, (omega arith, (omega arith, (omega arith, tt))))))))

pub number_is : (n : ℕ) → n < 10 ^ 8 → number_from_digits 10 (last_eight n) ≡ n
number_is n h = omega arith

pub steps : (n : ℕ) → n < 10 ^ 8 → Steps n (from_le_bytes w64 (last_eight n))
steps n h = subst (λ m. Steps m (from_le_bytes w64 (last_eight n))) (number_is n h) (steps_of (last_eight n) refl (below_ten n))
