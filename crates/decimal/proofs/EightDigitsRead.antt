-- Eight digits read together: as bytes, then in pairs, in fours.
use Rattle.std.proofs.Common.{◌≡◌, ℕ, ◌+◌, ◌*◌, ◌/◌, ◌%◌, ◌^◌, ◌<◌, ◌||◌, Bool, true, cond, List, [], ◌∷◌, length, get_or, take, ◌≤◌, ◌≢◌, map, ltb, eqb, refl, sym, ap, ◌∙◌, arith}
use Rattle.std.proofs.lemmas.Bool.{agree_below_at}
use Rattle.std.proofs.lemmas.Bool.Decides.{nat_tests}
use Rattle.std.proofs.lemmas.Int.Digits.{digits_value_is}
use Rattle.std.proofs.lemmas.List.{length-take-le}
use Rattle.std.proofs.lemmas.List.Elements.{All-from_get_or, All-take, recursion_from_All}
use Rattle.std.proofs.lemmas.Nat.{and_block, and_or_apart, or_comm, xor_block, xor_lt}
use Rattle.std.proofs.lemmas.Nat.Bits.{and_pow, bit_at_and, bit_at_or, bit_at-zero, same_from_bits}
use Rattle.std.specs.Int.{from_le_bytes, w64}
use Rattle.std.specs.Int.Digits.{number_from_digits}
use Rattle.std.specs.Int.RustNames.{bit_and, bit_or, bit_xor}
use Rattle.std.specs.Char.{digit_value}
use Rattle.std.specs.Str.Parse.{AllDigits, digits_value}
use Rattle.decimal.proofs.BitParts.{kept}
use Rattle.decimal.proofs.Bytes.{Below, by_eight, mapped, pack}

-- ---- byte by byte

-- a byte with the bits of 48 turned is below 10 just where it is a digit, and then the digit's value
abbrev turned_test : ℕ → Bool
turned_test b = cond (ltb (digit_value b) 10 || ltb (bit_xor b 48) 10) (eqb (digit_value b) (bit_xor b 48)) true

turned_tests : (b : ℕ) → b < 256 → turned_test b ≡ true
turned_tests b h = agree_below_at turned_test (λ _. true) 256 b refl h

abbrev pub turned : List ℕ → List ℕ
turned bs = map (λ b. bit_xor b 48) bs

turned_pack : (bs : List ℕ) → Below 256 bs → bit_xor (pack bs) (pack (map (λ _. 48) bs)) ≡ pack (turned bs)
turned_pack [] h = refl
turned_pack (b ∷ bs) (h, hs) = grind (arith, xor_block 8 (pack bs) (pack (map (λ _. 48) bs)) b 48 h, turned_pack bs hs)

to_digits : (bs : List ℕ) → Below 256 bs → Below 10 (turned bs) → AllDigits 10 bs × (map digit_value bs ≡ turned bs)
to_digits [] h k = (tt, refl)
to_digits (b ∷ bs) (h, hs) (k, ks) = grind (arith, nat_tests, turned_tests b h, to_digits bs hs ks)

from_digits : (bs : List ℕ) → Below 256 bs → AllDigits 10 bs → Below 10 (turned bs)
from_digits [] h k = tt
from_digits (b ∷ bs) (h, hs) (k, ks) = grind (arith, nat_tests, turned_tests b h, from_digits bs hs ks)

-- the highest bits
tops : (bs : List ℕ) → Below 256 bs → bit_and (pack bs) (pack (map (λ _. 128) bs)) ≡ pack (map (λ b. b / 128 * 128) bs)
tops [] h = refl
tops (b ∷ bs) (h, hs) = grind (arith, tops bs hs, and_pow b 7, and_block 8 (pack bs) (pack (map (λ _. 128) bs)) b 128 h)

no_tops : (bs : List ℕ) → pack (map (λ b. b / 128 * 128) bs) ≡ 0 → Below 128 bs
no_tops [] e = tt
no_tops (b ∷ bs) e = grind (arith, no_tops bs)

-- no bit is in a mask, where none of it and others is
masked_off : (x y m : ℕ) → bit_and (bit_or x y) m ≡ 0 → bit_and x m ≡ 0
masked_off x y m h = same_from_bits _ _ (λ i. grind (arith, bit_at_and x m i, bit_at_and (bit_or x y) m i, bit_at_or x y i, bit_at-zero i))

-- the test of all bytes at once, and what is then done to them
abbrev pub tested : ℕ → ℕ
tested x = bit_and (bit_or x ((x + 8536140394893047414) % 2 ^ 64)) 9259542123273814144

abbrev pub paired : ℕ → ℕ
paired x = (x * 10 % 2 ^ 64 + x / 256) % 2 ^ 64

abbrev pub joined : ℕ → ℕ
joined p = (bit_and p 1095216660735 * 4294967296000100 % 2 ^ 64 + bit_and (p / 65536) 1095216660735 * 42949672960001 % 2 ^ 64) % 2 ^ 64 / 4294967296

-- ---- eight bytes

module _ (x0 x1 x2 x3 x4 x5 x6 x7 : ℕ) where
  abbrev pub xs : List ℕ
  xs = x0 ∷ x1 ∷ x2 ∷ x3 ∷ x4 ∷ x5 ∷ x6 ∷ x7 ∷ []

  abbrev pub raised : List ℕ
  raised = map (λ x. x + 118) xs

  -- where no byte has its highest bit set, adding 118 to each carries nothing
  tested_low : Below 128 xs → tested (pack xs) ≡ pack (map (λ x. x / 128 * 128) raised)
  tested_low h =
      let sum : (pack xs + 8536140394893047414) % 2 ^ 64 ≡ pack raised = omega (arith, h) in
      let none : bit_and (pack xs) 9259542123273814144 ≡ 0 = tops xs (mapped 128 256 (λ x. x) (λ x k. omega arith) xs h) ∙ omega (arith, h) in
      ap (λ n. bit_and (bit_or (pack xs) n) 9259542123273814144) sum ∙ ap (λ n. bit_and n 9259542123273814144) (or_comm (pack xs) (pack raised))
      ∙ and_or_apart 9259542123273814144 (pack raised) (pack xs) none ∙ tops raised (mapped 128 256 (λ x. x + 118) (λ x k. omega arith) xs h)

  passes : Below 10 xs → tested (pack xs) ≡ 0
  passes h = tested_low (mapped 10 128 (λ x. x) (λ x k. omega arith) xs h) ∙ omega (arith, h)

  passed : Below 256 xs → tested (pack xs) ≡ 0 → Below 10 xs
  passed h e =
      let low = no_tops xs (sym (tops xs h) ∙ masked_off (pack xs) _ 9259542123273814144 e) in
      let over = no_tops raised (sym (tested_low low) ∙ e) in
      (omega (arith, over), (omega (arith, over), (omega (arith, over), (omega (arith, over), (omega (arith, over), (omega (arith, over), (omega (arith, over), (omega (arith, over), tt))))))))

  value : Below 10 xs → joined (paired (pack xs)) ≡ number_from_digits 10 xs
  value h =
      let p = paired (pack xs) in
      let pairs : p ≡ pack ((10 * x0 + x1) ∷ (10 * x1 + x2) ∷ (10 * x2 + x3) ∷ (10 * x3 + x4) ∷ (10 * x4 + x5) ∷ (10 * x5 + x6) ∷ (10 * x6 + x7) ∷ (10 * x7) ∷ []) = omega (arith, h) in
      let low : bit_and p 1095216660735 ≡ (10 * x0 + x1) + (10 * x4 + x5) * 2 ^ 32 = kept p 8 32 (omega arith) ∙ omega (arith, h, pairs) in
      let high : bit_and (p / 65536) 1095216660735 ≡ (10 * x2 + x3) + (10 * x6 + x7) * 2 ^ 32 = kept (p / 65536) 8 32 (omega arith) ∙ omega (arith, h, pairs) in
      omega (arith, h, low, high)

-- what the test tells of a word of eight bytes
abbrev pub ToldAt : ℕ → List ℕ → Type 0
ToldAt n bs = let x = bit_xor n 3472328296227680304 in (tested x ≢ 0 → ¬ AllDigits 10 bs) × (tested x ≡ 0 → AllDigits 10 bs × (joined (paired x) ≡ digits_value 10 bs))

abbrev pub Told : List ℕ → Type 0
Told bs = Below 256 bs → (n : ℕ) → n ≡ from_le_bytes w64 bs → ToldAt n bs

told_eight : (bs : List ℕ) → length bs ≡ 8 → Told bs
told_eight = by_eight Told (λ b0 b1 b2 b3 b4 b5 b6 b7 h n e.
    let bs = xs b0 b1 b2 b3 b4 b5 b6 b7 in
    let is : bit_xor n 3472328296227680304 ≡ pack (turned bs) = ap (λ m. bit_xor m 3472328296227680304) (omega (arith, e)) ∙ turned_pack bs h in (
      (λ other digits. other (ap tested is ∙ passes _ _ _ _ _ _ _ _ (from_digits bs h digits))),
      (λ pass.
          let low = passed _ _ _ _ _ _ _ _ (mapped 256 256 (λ b. bit_xor b 48) (λ b k. xor_lt 8 b 48 k (omega arith)) bs h) (ap tested (sym is) ∙ pass) in
          let digits = to_digits bs h low in
          (digits.0, ap (λ m. joined (paired m)) is ∙ value _ _ _ _ _ _ _ _ low ∙ ap (number_from_digits 10) (sym digits.1) ∙ sym (digits_value_is 10 bs))),
    ))

pub told : (bs : List ℕ) → ((i : ℕ) → get_or bs i 0 < 256) → 8 ≤ length bs → (n : ℕ) → n ≡ from_le_bytes w64 (take 8 bs) → ToldAt n (take 8 bs)
told bs h long n e =
    let small = All-take (λ b. b < 256) 8 bs (All-from_get_or (λ b. b < 256) bs 0 (λ i _. h i)) in
    told_eight (take 8 bs) (length-take-le 8 bs long) (recursion_from_All (λ b. b < 256) (take 8 bs) small) n e
