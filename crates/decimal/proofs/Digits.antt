-- What digits write, digit by digit and part by part.
use Rattle.std.proofs.Common.{◌≡◌, ℕ, zero, suc, ◌+◌, ◌-◌, ◌*◌, ◌%◌, ◌^◌, ◌<◌, ◌≤◌, ◌&&◌, ◌==◌, Bool, true, false, List, [], ◌∷◌, ◌++◌, length, take, drop, get_or, Some, None, ltb, refl, sym, ap, ◌∙◌, not, ◌≢◌, arith, length-drop}
use Rattle.std.proofs.lemmas.Bool.Decides.{nat_tests}
use Rattle.std.proofs.lemmas.Grind.{common_steps}
use Rattle.std.proofs.Math.Nat.{pow-suc}
use Rattle.std.proofs.lemmas.List.{take-append-drop}
use Rattle.std.proofs.lemmas.List.Folds.{list_all-append}
use Rattle.std.proofs.lemmas.Str.Parse.{digits_value_short, numerals_by_value, tells_digits}
use Rattle.std.specs.Char.{digit_value, is_digit}
use Rattle.std.specs.List.{list_all}
use Rattle.std.specs.Str.Parse.{AllDigits, digits_value, digits_value_after}
use Rattle.decimal.specs.Numerals.{digits_at, is_some_bytes, size_at}

abbrev pub digit : ℕ → Bool
digit b = is_digit b 10

pub all_from : (ds : List ℕ) → AllDigits 10 ds → list_all digit ds ≡ true
all_from [] h = refl
all_from (d ∷ ds) (h, hs) = grind (arith, nat_tests, all_from ds hs)

to_all : (ds : List ℕ) → list_all digit ds ≡ true → AllDigits 10 ds
to_all [] h = tt
to_all (d ∷ ds) h = grind (arith, nat_tests, to_all ds)

pub value_after-append : (n : ℕ) (xs ys : List ℕ) → digits_value_after 10 n (xs ++ ys) ≡ digits_value_after 10 (digits_value_after 10 n xs) ys
value_after-append n [] ys = refl
value_after-append n (x ∷ xs) ys = value_after-append (n * 10 + digit_value x) xs ys

-- the digits at the front are all up to the first other byte
pub digits_done : (text : List ℕ) (at : ℕ) → list_all digit (take at text) ≡ true → (at < length text → digit (get_or text at 0) ≡ false) → digits_at text ≡ take at text
unfolding digits_at
digits_done [] at all end = grind (arith, common_steps)
digits_done (b ∷ bs) zero all end = grind (arith, common_steps)
digits_done (b ∷ bs) (suc at) all end = grind (arith, common_steps, digits_done bs at)

pub all_digits_at : (text : List ℕ) → list_all digit (digits_at text) ≡ true
unfolding digits_at
all_digits_at [] = refl
all_digits_at (b ∷ bs) = grind (arith, nat_tests, all_digits_at bs)

pub digits_front : (text : List ℕ) → digits_at text ≡ take (length (digits_at text)) text
unfolding digits_at
digits_front [] = refl
digits_front (b ∷ bs) = grind (arith, common_steps, digits_front bs)

-- a byte less 48 is above 9 where it is no digit, and else the digit's value
pub told : (b d x y : ℕ) → b < 256 → x ≡ b → y ≡ 48 → d ≡ (x + (2 ^ 64 - y)) % 2 ^ 64
    → (9 < d → digit b ≡ false) × (d ≤ 9 → (digit b ≡ true) × (d ≡ digit_value b))
told b d x y small same from e = grind (arith, nat_tests)

-- ---- more than nineteen digits

-- each digit after a number makes it ten times as large, at the least
tenfold : (n : ℕ) (ds : List ℕ) → n * 10 ^ length ds ≤ digits_value_after 10 n ds
tenfold n [] = omega arith
tenfold n (d ∷ ds) = rw (pow-suc 10 (length ds)) (omega (arith, tenfold (n * 10 + digit_value d) ds))

pub below_length : (ds : List ℕ) (k : ℕ) → list_all digit ds ≡ true → length ds ≤ k → digits_value 10 ds < 10 ^ k
below_length ds k all h = digits_value_short (numerals_by_value (AllDigits 10) tells_digits) ds k (to_all ds all) h

grows : (n : ℕ) (ds : List ℕ) → n ≤ digits_value_after 10 n ds
grows n [] = omega arith
grows n (d ∷ ds) = omega (arith, grows (n * 10 + digit_value d) ds)

-- zeros alone write zero
zeros_value : (ds : List ℕ) → list_all digit ds ≡ true → list_all (λ d. d == 48) ds ≡ (digits_value 10 ds == 0)
zeros_value [] all = refl
zeros_value (d ∷ ds) all = grind (arith, nat_tests, zeros_value ds, grows (digit_value d) ds)

-- more than nineteen digits follow zeros
abbrev pub is_long : List ℕ → Bool
is_long ds = ltb 19 (length ds) && not (list_all (λ d. d == 48) (take (length ds - 19) ds))

-- digits write a number below 10 ^ 19 where there are no more than nineteen of them after zeros
short_value : (ds : List ℕ) → list_all digit ds ≡ true → ltb (digits_value 10 ds) (10 ^ 19) ≡ not (is_long ds)
short_value ds all =
    let k = length ds - 19 in let front = take k ds in let back = drop k ds in
    let all_parts = list_all-append digit front back in let whole = take-append-drop k ds in
    let value : digits_value 10 ds ≡ digits_value_after 10 (digits_value 10 front) back = ap (digits_value 10) (sym whole) ∙ value_after-append 0 front back in
    grind (arith, nat_tests, all_parts, whole, zeros_value front, below_length back 19, below_length ds 19, tenfold (digits_value 10 front) back, length-drop k ds)

-- ---- the size that is read

some_tells : (ds : List ℕ) → is_some_bytes ds ≡ ltb 0 (length ds)
some_tells [] = refl
some_tells (d ∷ ds) = grind (arith, nat_tests)

pub unread_empty : (text : List ℕ) (end : ℕ) → end ≡ length (digits_at text) → end ≡ 0 → size_at text ≡ None
unfolding size_at
unread_empty text end e none = grind (arith, nat_tests, some_tells (digits_at text))

pub unread_long : (text : List ℕ) → is_long (digits_at text) ≡ true → size_at text ≡ None
unfolding size_at
unread_long text h = grind (arith, short_value (digits_at text) (all_digits_at text))

pub size_read : (text : List ℕ) (size end : ℕ) (rest : List ℕ) → size ≡ digits_value 10 (digits_at text) % 2 ^ 64 → end ≡ length (digits_at text) → end ≢ 0 → is_long (digits_at text) ≡ false → rest ≡ drop end text → size_at text ≡ Some (size, rest)
unfolding size_at
size_read text size end rest e count some short r = grind (arith, nat_tests, short_value (digits_at text) (all_digits_at text), some_tells (digits_at text))
