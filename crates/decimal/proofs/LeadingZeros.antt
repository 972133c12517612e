-- Digits without the zeros in front are the text of their number.
use Rattle.std.proofs.Common.{◌≡◌, ℕ, zero, suc, ◌+◌, ◌-◌, ◌*◌, ◌/◌, ◌%◌, ◌^◌, ◌<◌, ◌≤◌, List, [], ◌∷◌, ◌++◌, length, get_or, take, drop, map, max, refl, sym, ap, ◌∙◌, subst, arith}
use Rattle.std.proofs.lemmas.Bool.Decides.{nat_tests}
use Rattle.std.proofs.lemmas.Grind.{common_steps}
use Rattle.std.proofs.lemmas.Fmt.{decimal-digits_value, decimal_nonempty, digits_decimal, digits_value-decimal, first_decimal}
use Rattle.std.proofs.lemmas.List.{append_assoc, drop-map, length-drop, take-append-le, take_at, get_or-drop, get_or-map, length-append, length-map, length-replicate}
use Rattle.std.proofs.lemmas.List.Elements.{All-drop, All-from_recursion, recursion_from_All, All-append, All-replicate}
use Rattle.std.proofs.Math.ListN.{replicate}
use Rattle.std.proofs.Math.Seq.{take-append-add}
use borrow.Rule.Slice.PartMut.{post_of, put_mid}
use Rattle.std.proofs.lemmas.Nat.{le_bytes_8, le_or_r, or_lt, shr-shr, shr_high, shr_le}
use Rattle.std.proofs.lemmas.Nat.Bits.{bit_at-pow_other, bit_at-pow_same, bit_at-trailing_zeros, bit_at-zero, bit_at_cat_high, bit_at_cat_low, bit_at_or, same_from_bits_below}
use Rattle.std.proofs.lemmas.Str.Parse.{numerals_by_value, tells_digits}
use Rattle.std.specs.Fmt.{decimal}
use Rattle.std.specs.Int.{bit_at, from_le_bytes, to_le_bytes, trailing_zeros, w64}
use Rattle.std.specs.Int.Digits.{number_from_digits, number_from_digits_after}
use Rattle.std.specs.Int.RustNames.{bit_or}
use Rattle.std.specs.Str.Parse.{AllDigits, digits_value, digits_value_after}
use Rattle.decimal.proofs.Bytes.{Below, by_eight, mapped, pack}
use Rattle.decimal.proofs.BitParts.{low_or_high}
use Rattle.decimal.proofs.Digits.{value_after-append}
use Rattle.decimal.proofs.EightDigitsWritten.{below_ten, number_is}
use Rattle.decimal.specs.LastEight.{last_eight}

-- ---- what digits write

abbrev pub ascii : List ℕ → List ℕ
ascii ds = map (λ d. 48 + d) ds

are_digits : (ds : List ℕ) → Below 10 ds → AllDigits 10 (ascii ds)
are_digits [] h = tt
are_digits (d ∷ ds) (h, hs) = grind (arith, nat_tests, are_digits ds hs)

write_number : (n : ℕ) (ds : List ℕ) → Below 10 ds → digits_value_after 10 n (ascii ds) ≡ number_from_digits_after 10 n ds
write_number n [] h = refl
write_number n (d ∷ ds) (h, hs) = grind (arith, nat_tests, write_number (n * 10 + d) ds hs)

-- digits that begin with no zero, but for a lone one
text_is : (ds : List ℕ) (n : ℕ) → AllDigits 10 ds → 0 < length ds → (get_or ds 0 0 ≡ 48 → length ds ≡ 1) → digits_value 10 ds ≡ n → n < 2 ^ 64 → ds ≡ decimal n
text_is ds n all some first value small = grind (arith, decimal-digits_value (numerals_by_value (AllDigits 10) tells_digits) ds all some first)

-- ---- the first digit's place

bit_of : (ds : List ℕ) (t i j : ℕ) → t ≡ 8 * i + j → j < 8 → Below 256 ds → bit_at (pack ds) t ≡ bit_at (get_or ds i 0) j
bit_of [] t i j e l h = bit_at-zero t ∙ sym (bit_at-zero j)
bit_of (d ∷ ds) t zero j e l (h, hs) = let same : t ≡ j = omega (arith, e) in bit_at_cat_low (pack ds) 8 d t (omega (arith, e, l)) ∙ ap (bit_at d) same
bit_of (d ∷ ds) t (suc i) j e l (h, hs) = bit_at_cat_high (pack ds) 8 d t h (omega (arith, e)) ∙ bit_of ds (t - 8) i j (omega (arith, e)) l hs

-- that of the first digit other than a zero, where the last counts as one in any case
pub record Place (ds : List ℕ) (k : ℕ) : Type 0 where
  pub within : k < 8
  zeros : (i : ℕ) → i < k → get_or ds i 0 ≡ 0
  here : get_or ds k 0 ≡ 0 → k ≡ 7

bytes_small : (ds : List ℕ) → Below 256 ds → (i : ℕ) → get_or ds i 0 < 256
bytes_small [] h i = omega arith
bytes_small (d ∷ ds) (h, hs) zero = h
bytes_small (d ∷ ds) (h, hs) (suc i) = bytes_small ds hs i

place_of : (ds : List ℕ) → Below 256 ds → pack ds < 2 ^ 64 → Place ds (trailing_zeros w64 (bit_or (pack ds) (2 ^ 56)) / 8)
place_of ds h small =
    let m = bit_or (pack ds) (2 ^ 56) in let t = trailing_zeros w64 m in
    let bit : (i : ℕ) → bit_at m i ≡ max (bit_at (pack ds) i) (bit_at (2 ^ 56) i) = bit_at_or (pack ds) (2 ^ 56) in
    let some : 0 < m = omega (arith, le_or_r (pack ds) (2 ^ 56)) in
    let is = bit_at-trailing_zeros w64 m some (or_lt 64 (pack ds) (2 ^ 56) small (omega arith)) in
    let low : t ≤ 56 = low_or_high 57 t (λ l. omega (arith, l)) (λ l. let none = is.2 56 (omega (arith, l)) in absurd (omega (arith, none, bit 56, bit_at-pow_same 56))) in
    record {
      within = omega (arith, low);
      zeros = λ i l. same_from_bits_below 8 _ 0 (bytes_small ds h i) (omega arith) (λ j k.
          let none = is.2 (8 * i + j) (omega (arith, l, k)) in let b = bit (8 * i + j) in
          sym (bit_of ds (8 * i + j) i j refl k h) ∙ omega (arith, none, b) ∙ sym (bit_at-zero j));
      here = λ e. low_or_high 56 t
          (λ l. let other = bit_at-pow_other 56 t (omega (arith, l)) in let b = bit t in
          let none = bit_of ds t (t / 8) (t % 8) (omega arith) (omega arith) h ∙ ap (λ d. bit_at d (t % 8)) e ∙ bit_at-zero (t % 8) in
          absurd (omega (arith, is.1, b, other, none)))
          (λ l. omega (arith, l, low));
    }

-- zeros in front write nothing
front : (k : ℕ) (ds : List ℕ) → ((i : ℕ) → i < k → get_or ds i 0 ≡ 0) → number_from_digits 10 (drop k ds) ≡ number_from_digits 10 ds
front zero ds zeros = refl
front (suc k) [] zeros = refl
front (suc k) (d ∷ ds) zeros = let none = zeros 0 (omega arith) in grind (arith, front k ds (λ i l. zeros (suc i) (omega arith)))

text_from : (ds : List ℕ) (k n : ℕ) → Below 10 ds → length ds ≡ 8 → Place ds k → number_from_digits 10 ds ≡ n → n < 2 ^ 64 → drop k (ascii ds) ≡ decimal n
text_from ds k n h long place value small =
    let kept = drop k ds in let below = recursion_from_All (λ d. d < 10) kept (All-drop (λ d. d < 10) k ds (All-from_recursion (λ d. d < 10) ds h)) in
    let lengths : length (ascii kept) ≡ 8 - k = length-map kept (λ d. 48 + d) ∙ length-drop k ds ∙ ap (λ n. n - k) long in
    let first : get_or (ascii kept) 0 0 ≡ 48 + get_or ds k 0 = get_or-map (λ d. 48 + d) kept 0 0 0 (omega (arith, length-drop k ds, long, place.within))
    ∙ ap (λ d. 48 + d) (get_or-drop k ds 0 0 ∙ ap (λ i. get_or ds i 0) (omega arith)) in
    drop-map (λ d. 48 + d) k ds
    ∙ text_is (ascii kept) n (are_digits kept below) (omega (arith, lengths, place.within)) (λ e. let last = place.here (omega (arith, first, e)) in omega (arith, lengths, last))
    (write_number 0 kept below ∙ front k ds place.zeros ∙ value) small

-- ---- eight digits

-- a shift by bytes drops those in front
pack_drop : (k : ℕ) (bs : List ℕ) → Below 256 bs → pack bs / 2 ^ (8 * k) ≡ pack (drop k bs)
pack_drop zero bs h = omega arith
pack_drop (suc k) [] h = omega (arith, shr_le 0 (8 * suc k))
pack_drop (suc k) (b ∷ bs) (h, hs) =
    let place : 8 * suc k ≡ 8 + 8 * k = omega arith in
    rw place (sym (shr-shr (pack (b ∷ bs)) 8 (8 * k)) ∙ ap (λ n. n / 2 ^ (8 * k)) (shr_high (pack bs) 8 b h) ∙ pack_drop k bs hs)

pack_zeros : (bs : List ℕ) (k : ℕ) → pack (bs ++ replicate k 0) ≡ pack bs
pack_zeros [] zero = refl
pack_zeros [] (suc k) = grind (arith, pack_zeros [] k)
pack_zeros (b ∷ bs) k = grind (arith, pack_zeros bs k)

pack_is : (bs : List ℕ) → length bs ≡ 8 → pack bs ≡ from_le_bytes w64 bs
pack_is = by_eight (λ bs. pack bs ≡ from_le_bytes w64 bs) (λ b0 b1 b2 b3 b4 b5 b6 b7. omega arith)

shifted_out : (k : ℕ) (bs more : List ℕ) → k ≤ 8 → length bs ≡ 8 → Below 256 bs → take (8 - k) (to_le_bytes w64 (from_le_bytes w64 bs / 2 ^ (8 * k)) ++ more) ≡ drop k bs
shifted_out k bs more within long h =
    let kept = drop k bs ++ replicate k 0 in
    let small = All-append (λ b. b < 256) (drop k bs) (replicate k 0) (All-drop (λ b. b < 256) k bs (All-from_recursion (λ b. b < 256) bs h)) (All-replicate (λ b. b < 256) k 0 (omega arith)) in
    let wide : length kept ≡ 8 = omega (arith, length-append (drop k bs) (replicate k 0), length-drop k bs, length-replicate {A = ℕ}, long) in
    let value = ap (λ n. n / 2 ^ (8 * k)) (sym (pack_is bs long)) ∙ pack_drop k bs h ∙ sym (pack_zeros (drop k bs) k) ∙ pack_is kept wide in
    ap (λ l. take (8 - k) (l ++ more)) (le_bytes_8 kept _ wide (bytes_small kept (recursion_from_All (λ b. b < 256) kept small)) value)
    ∙ ap (take (8 - k)) (append_assoc (drop k bs) (replicate k 0) more) ∙ take_at (drop k bs) (replicate k 0 ++ more) (8 - k) (length-drop k bs ∙ ap (λ n. n - k) long)

-- a number's eight digits as characters
characters : (n word : ℕ) → word ≡ from_le_bytes w64 (last_eight n) → to_le_bytes w64 (word + 3472328296227680304) ≡ ascii (last_eight n)
characters n word e =
    let small = bytes_small (ascii (last_eight n)) (mapped 10 256 (λ d. 48 + d) (λ d h. omega arith) (last_eight n) (below_ten n)) in
    le_bytes_8 (ascii (last_eight n)) (word + 3472328296227680304) refl small (omega (arith, e))

pub eight_written : (n word : ℕ) (bytes more : List ℕ) → n < 10 ^ 8 → word ≡ from_le_bytes w64 (last_eight n) → bytes ≡ to_le_bytes w64 (word + 3472328296227680304) → AllDigits 10 (take 8 (bytes ++ more)) × (digits_value 10 (take 8 (bytes ++ more)) ≡ n)
eight_written n word bytes more h e b =
    rw (b ∙ characters n word e) (are_digits (last_eight n) (below_ten n), write_number 0 (last_eight n) (below_ten n) ∙ number_is n h)

pub place : (n word : ℕ) → word ≡ from_le_bytes w64 (last_eight n) → Place (last_eight n) (trailing_zeros w64 (bit_or word 72057594037927936) / 8)
place n word e =
    subst (λ w. Place (last_eight n) (trailing_zeros w64 (bit_or w 72057594037927936) / 8)) (omega (arith, e))
    (place_of (last_eight n) (mapped 10 256 (λ d. d) (λ d h. omega arith) (last_eight n) (below_ten n)) (omega arith))

-- the zeros in front shifted out
pub first_written : (n word : ℕ) (bytes more : List ℕ) → let k = trailing_zeros w64 (bit_or word 72057594037927936) / 8 in n < 10 ^ 8 → word ≡ from_le_bytes w64 (last_eight n) → bytes ≡ to_le_bytes w64 ((word + 3472328296227680304) / 2 ^ (8 * k)) → take (8 - k) (bytes ++ more) ≡ decimal n
first_written n word bytes more h e b =
    let k = trailing_zeros w64 (bit_or word 72057594037927936) / 8 in let ds = last_eight n in let at = place n word e in
    let sum : word + 3472328296227680304 ≡ from_le_bytes w64 (ascii ds) = omega (arith, e) in
    ap (λ bs. take (8 - k) (bs ++ more)) (b ∙ ap (λ x. to_le_bytes w64 (x / 2 ^ (8 * k))) sum)
    ∙ shifted_out k (ascii ds) more (omega (arith, at.within)) refl (mapped 10 256 (λ d. 48 + d) (λ d h. omega arith) ds (below_ten n))
    ∙ text_from ds k n (below_ten n) refl at (number_is n h) (omega (arith, h))

-- ---- eights after a number

all_digits : (xs ys : List ℕ) → AllDigits 10 xs → AllDigits 10 ys → AllDigits 10 (xs ++ ys)
all_digits [] ys h k = k
all_digits (x ∷ xs) ys (h, hs) k = (h, all_digits xs ys hs k)

shifted : (n : ℕ) (ds : List ℕ) → length ds ≡ 8 → digits_value_after 10 n ds ≡ n * 10 ^ 8 + digits_value 10 ds
shifted n = by_eight (λ ds. digits_value_after 10 n ds ≡ n * 10 ^ 8 + digits_value 10 ds) (λ b0 b1 b2 b3 b4 b5 b6 b7. omega arith)

-- eight digits more
pub eight_more : (n low size : ℕ) (ds : List ℕ) → 0 < n → n < 2 ^ 64 → size ≡ n * 10 ^ 8 + low → size < 2 ^ 64 → AllDigits 10 ds → length ds ≡ 8 → digits_value 10 ds ≡ low → decimal n ++ ds ≡ decimal size
eight_more n low size ds some small e fits all long value =
    let own = numerals_by_value (AllDigits 10) tells_digits in let head = decimal_nonempty n small in
    text_is (decimal n ++ ds) size (all_digits (decimal n) ds (digits_decimal own n small) all) (grind (arith, common_steps))
    (grind (arith, common_steps, first_decimal n some small)) (grind (arith, value_after-append 0 (decimal n) ds, digits_value-decimal own n small, shifted n ds long)) fits

-- they are written after the characters of that number
pub eight_after : (count k size : ℕ) (xs ys : List ℕ) → 10 ^ 8 ≤ size → size < 2 ^ 64 → count ≤ length xs → 8 ≤ length ys → take count xs ≡ decimal (size / 100000000) → AllDigits 10 (take 8 ys) → digits_value 10 (take 8 ys) ≡ size % 100000000
    → take (count + 8) (put_mid count k xs ys) ≡ decimal size
eight_after count k size xs ys large fits within room front all value =
    grind (
      arith,
      common_steps,
      take-append-add (take count xs) (ys ++ post_of count k xs) 8,
      take-append-le 8 ys (post_of count k xs) room,
      eight_more (size / 100000000) (size % 100000000) size (take 8 ys),
    )
