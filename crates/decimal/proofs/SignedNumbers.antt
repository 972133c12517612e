-- A size with its sign, as the machine computes it, and the number that a text begins with.
use Rattle.std.proofs.Common.{◌≡◌, ℕ, zero, suc, ◌+◌, ◌-◌, ◌%◌, ◌^◌, ◌<◌, ◌≤◌, ◌||◌, Bool, true, false, Option, Some, None, ℤ, List, [], ◌∷◌, length, get_or, take, drop, eqb, refl, sym, ap, w64, arith}
use Rattle.std.proofs.lemmas.Bool.Decides.{nat_tests}
use Rattle.std.proofs.lemmas.Int.{to_z-of_z}
use mir.Val.{SFits, bool_byte, of_z, to_z}
use Rattle.decimal.proofs.Digits.{digit, digits_done}
use Rattle.std.proofs.lemmas.List.{take_rest}
use Rattle.std.proofs.lemmas.Option.{option_and_then_some}
use Rattle.std.specs.Option.{option_and_then, option_map}
use Rattle.std.specs.Str.Parse.{starts_with_minus, without_leading_sign}
use Rattle.decimal.specs.Numerals.{digit_at, digits_at, is_i64, signed_at, signed_of, size_at}

pub too_large : (is_negative : Bool) (size : ℕ) → 2 ^ 63 - 1 + bool_byte is_negative < size → None ≡ signed_of is_negative size
unfolding signed_of
too_large is_negative size h = grind (arith, nat_tests)

pub not_negative : (size : ℕ) → size < 2 ^ 63 → Some (to_z w64 size) ≡ signed_of false size
unfolding signed_of
not_negative size h = grind (arith, nat_tests)

pub negative : (size r : ℕ) → size ≤ 2 ^ 63 → r < 2 ^ 64 → (r + size) % 2 ^ 64 ≡ 0 → Some (to_z w64 r) ≡ signed_of true size
unfolding signed_of
negative zero r small h e = grind (arith, nat_tests)
negative (suc n) r small h e = grind (arith, nat_tests)

-- a number that is read is in range
pub in_range : (is_negative : Bool) (size : ℕ) (n : ℤ) → Some n ≡ signed_of is_negative size → SFits w64 n
unfolding signed_of
in_range is_negative size n e = let fits : is_i64 n ≡ true = grind (arith, nat_tests) in record { sfits = grind (arith, nat_tests) }

-- a number before the rest of its text
abbrev pub before : List ℕ → Option ℤ → Option (ℤ × List ℕ)
before rest number = option_map (λ n. (n, rest)) number

pub in_machine : (is_negative : Bool) (size : ℕ) (n : ℤ) (rest : List ℕ) → Some n ≡ signed_of is_negative size → before rest (Some n) ≡ before rest (Some (to_z w64 (of_z w64 n)))
in_machine is_negative size n rest e = ap (λ m. before rest (Some m)) (sym (to_z-of_z w64 n (in_range is_negative size n e)))

-- ---- a number, as the function reads it

pub sign_passed : (text : List ℕ) (k : ℕ) → k ≡ bool_byte (eqb (get_or text 0 0) 45 || eqb (get_or text 0 0) 43) → take (length text - k) (drop k text) ≡ without_leading_sign text
sign_passed text k e = grind (arith, nat_tests, take_rest text k)

pub signed_from_size : (text digits : List ℕ) (size : Option (ℕ × List ℕ)) → digits ≡ without_leading_sign text → size_at digits ≡ size → signed_at text ≡ option_and_then (λ read. before read.1 (signed_of (starts_with_minus text) read.0)) size
unfolding signed_at
signed_from_size text digits size d is = rw (← d, is) refl

-- ---- a number of one digit

-- where no digit comes second, the number is the digit that comes first, and without it there is none
pub one_digit : (text : List ℕ) → (1 < length text → digit (get_or text 1 0) ≡ false) → signed_at text ≡ digit_at text
unfolding signed_at size_at digits_at signed_of
one_digit [] other = refl
one_digit (b ∷ bs) other =
    let none : digits_at bs ≡ [] = digits_done bs zero refl (λ l. other (omega (arith, l))) in
    grind (arith, nat_tests)

-- ---- so is one that a text begins with

pub signed_fits : (text : List ℕ) (n : ℤ) (after : List ℕ) → signed_at text ≡ Some (n, after) → SFits w64 n
unfolding signed_at
signed_fits text n after e =
    option_and_then_some _ (size_at (without_leading_sign text)) (n, after) e (λ read _ f. in_range (starts_with_minus text) read.0 n (grind arith))
