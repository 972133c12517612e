-- What follows of a limit on a list.
use Rattle.ring_core.proofs.Words.{false≢true, ◌≡◌, ℕ, ◌+◌, ◌-◌, ◌<◌, List, [], ◌∷◌, ◌++◌, length, map, drop, Option, None, Some, IfSome, IsSome, refl, slice_set, negsuc, ◌≤◌, option_to_list, sym, arith, zero-mod, set-append_seam, drop-append-le, drop-drop, drop-map, length-map, IsWithin, keep_last, overwritten, signed_index_at, slice_get_cases}
use Rattle.std.proofs.lemmas.Grind.{common_steps}

-- a list within its limit loses nothing
pub keep_last_within : {A : Type 0} (limit : Option ℕ) (xs : List A) → IsWithin xs limit → keep_last limit xs ≡ xs
keep_last_within limit xs within = grind (arith, common_steps)

-- without a limit all is kept
pub keep_last-unlimited : {A : Type 0} (limit : Option ℕ) (xs : List A) → ¬ (IsSome limit) → keep_last limit xs ≡ xs
keep_last-unlimited limit xs unlimited = grind (arith, common_steps)

-- what a limit leaves does not depend on how often it was applied before
pub keep_last-keep_last : {A : Type 0} (limit : Option ℕ) (xs ys : List A) → keep_last limit (keep_last limit xs ++ ys) ≡ keep_last limit (xs ++ ys)
keep_last-keep_last None xs ys = refl
keep_last-keep_last (Some n) xs ys =
    grind (arith, common_steps, drop-append-le (length xs - n) xs ys, drop-drop (length (xs ++ ys) - n - (length xs - n)) (length xs - n) (xs ++ ys))

-- a limit leaves of the answers of a function what the function answers to what it leaves of the list
pub map-keep_last : {A B : Type 0} (f : A → B) (n : ℕ) (xs : List A) → map f (keep_last (Some n) xs) ≡ keep_last (Some n) (map f xs)
map-keep_last f n xs = rw length-map (sym (drop-map f (length xs - n) xs))

-- what stays before a pushed item does not depend on the item
keep_last_before : {A : Type 0} (limit : Option ℕ) (xs : List A) → IfSome limit (λ n. 0 < n)
    → (before : List A) × ((x : A) → keep_last limit (xs ++ x ∷ []) ≡ before ++ x ∷ [])
keep_last_before None xs above = (xs, λ x. refl)
keep_last_before (Some n) xs above = (drop (length xs + 1 - n) xs, λ x. grind (arith, common_steps, drop-append-le (length xs + 1 - n) xs (x ∷ [])))

-- a write to the newest item after a push is as if the other item had been pushed
pub newest_replaced : {A : Type 0} (limit : Option ℕ) (xs now : List A) (x y : A) → now ≡ keep_last limit (xs ++ x ∷ []) → (now ≡ [] → ⊥)
    → slice_set now (signed_index_at (length now) (negsuc 0)) y ≡ keep_last limit (xs ++ y ∷ [])
newest_replaced limit xs now x y pushed some =
    let (before, ends) = keep_last_before limit xs (grind (arith, common_steps)) in
    rw (pushed, ends x, ends y) (grind (arith, common_steps, set-append_seam before x [] y, zero-mod (length (before ++ x ∷ []))))

-- what a push overwrites and what it leaves are the items and one more: with room nothing is overwritten, and else the first is
pub overwritten-keep_last : {A : Type 0} (limit : Option ℕ) (xs : List A) (x : A) → IsWithin xs limit
    → option_to_list (overwritten limit xs) ++ keep_last limit (xs ++ x ∷ []) ≡ xs ++ x ∷ []
overwritten-keep_last limit xs x within = grind (arith, common_steps, slice_get_cases)

-- a count that rose by one rose, and by no more
pub counts_one : (n : ℕ) → (n ≤ n + 1) × (n + 1 ≤ n + 1)
counts_one n = (omega arith, omega arith)

-- what is owed of rings with a limit is owed of none without
pub counts_none : {R P : Type 0} (limit : R → Option ℕ) (ring : R) → limit ring ≡ None → IsSome (limit ring) → P
counts_none limit ring none some = absurd (false≢true (rw none at some))
