-- A list seen through a function: what a push and a write leave of it.
use Rattle.std.proofs.Common.{◌≡◌, ℕ, zero, suc, ◌+◌, ◌-◌, List, [], ◌∷◌, ◌++◌, length, map, take, drop, Option, None, Some, refl, ap, ◌∙◌, slice_get, slice_set}
use Rattle.std.proofs.lemmas.List.{length-map, map-append}
use Rattle.std.specs.Option.{option_map}
use Rattle.ringbuffer.specs.Contents.{keep_last, overwritten}
use Rattle.ringbuffer.proofs.Limits.{map-keep_last}

module _ {A B : Type 0} (f : A → B) where
  -- By induction: a write that the function doesn't see changes nothing.
  pub map-set : (xs : List A) (i : ℕ) (x y : A) → slice_get xs i ≡ Some x → f y ≡ f x → map f (slice_set xs i y) ≡ map f xs
  map-set [] i x y at same = refl
  map-set (z ∷ xs) zero x y at same = let there : z ≡ x = let is : Some z ≡ Some x = at in cc in rw (same, there) refl
  map-set (z ∷ xs) (suc i) x y at same = ap (λ ys. f z ∷ ys) (map-set xs i x y at same)

  -- A push leaves what the function shows.
  pub map-pushed : (limit : Option ℕ) (xs : List A) (x : A) → map f (keep_last limit (xs ++ x ∷ [])) ≡ keep_last limit (map f xs ++ f x ∷ [])
  map-pushed None xs x = map-append f xs (x ∷ [])
  map-pushed (Some n) xs x = map-keep_last f n (xs ++ x ∷ []) ∙ ap (keep_last (Some n)) (map-append f xs (x ∷ []))

  -- The first of some items, if there is one.
  first : (m : ℕ) (xs : List A) → option_map f (slice_get (take m xs) 0) ≡ slice_get (take m (map f xs)) 0
  first zero xs = refl
  first (suc m) [] = refl
  first (suc m) (x ∷ xs) = refl

  -- What a push overwrites is the first.
  pub map-overwritten : (limit : Option ℕ) (xs : List A) → option_map f (overwritten limit xs) ≡ overwritten limit (map f xs)
  map-overwritten None xs = refl
  map-overwritten (Some n) xs = rw length-map (first (length xs + 1 - n) xs)

-- By induction: from a place that was written on, what was written and the rest.
pub drop_written : {A : Type 0} (xs : List A) (i : ℕ) (x y : A) → slice_get xs i ≡ Some x → drop i (slice_set xs i y) ≡ y ∷ drop (suc i) xs
drop_written [] i x y at = absurd (let none : None ≡ Some x = at in cc)
drop_written (z ∷ xs) zero x y at = refl
drop_written (z ∷ xs) (suc i) x y at = drop_written xs i x y at
