-- The items of a list by their places.
use Rattle.ring_core.proofs.Words.{ℕ, zero, suc, ◌≡◌, ◌+◌, ◌-◌, ◌<◌, List, [], ◌∷◌, ◌++◌, length, take, drop, slice_get, Some, refl, ap, arith, AllZip, option_to_list, take-nil, slice_get_cases}
use Rattle.std.proofs.lemmas.Grind.{common_steps}

-- The item after a list.
pub slice_get-at : {A : Type 0} (xs : List A) (y : A) (ys : List A) → slice_get (xs ++ y ∷ ys) (length xs) ≡ Some y
slice_get-at xs y ys = grind (arith, common_steps, slice_get_cases)

-- What is left of a list has its items from the first place left.
pub slice_get-drop : {A : Type 0} (n i : ℕ) (xs : List A) → slice_get (drop n xs) i ≡ slice_get xs (n + i)
slice_get-drop n i xs = grind (arith, common_steps, slice_get_cases)

-- The first items stay at their places.
pub slice_get-take : {A : Type 0} (n i : ℕ) (xs : List A) → i < n → slice_get (take n xs) i ≡ slice_get xs i
slice_get-take n i xs within = grind (arith, common_steps, slice_get_cases)

-- The first list's items stay at their places.
pub slice_get-append_left : {A : Type 0} (n : ℕ) (xs ys : List A) → n < length xs → slice_get (xs ++ ys) n ≡ slice_get xs n
slice_get-append_left n xs ys within = grind (arith, common_steps, slice_get_cases)

-- What follows the first items of two lists follows them in the first list, or the rest of them in the second.
pub drop-append : {A : Type 0} (n : ℕ) (xs ys : List A) → drop n xs ++ drop (n - length xs) ys ≡ drop n (xs ++ ys)
drop-append zero xs ys = let none : 0 - length xs ≡ 0 = omega arith in rw none refl
drop-append (suc n) [] ys = let all : suc n - 0 ≡ suc n = omega arith in rw all refl
drop-append (suc n) (x ∷ xs) ys = let rest : suc n - suc (length xs) ≡ n - length xs = omega arith in rw rest (drop-append n xs ys)

-- two pairs of lists, one after the other
pub AllZip-join : {A B : Type 0} (R : A → B → Type 0) (xs xs' : List A) (ys ys' : List B) → AllZip R xs ys → AllZip R xs' ys'
    → AllZip R (xs ++ xs') (ys ++ ys')
AllZip-join R [] xs' ys ys' all more = grind (arith, common_steps)
AllZip-join R (x ∷ xs) xs' ys ys' all more = grind (arith, AllZip-join R xs xs' (drop 1 ys) ys')

-- One item more, if there is one.
pub take-suc_get : {A : Type 0} (xs : List A) (k : ℕ) → take (suc k) xs ≡ take k xs ++ option_to_list (slice_get xs k)
take-suc_get [] k = rw (take-nil k) refl
take-suc_get (x ∷ xs) zero = refl
take-suc_get (x ∷ xs) (suc k) = ap (λ ys. x ∷ ys) (take-suc_get xs k)
