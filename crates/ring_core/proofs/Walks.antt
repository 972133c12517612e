-- How a step of a walk shortens what is still to come.
use Rattle.ring_core.proofs.Words.{◌≡◌, ℕ, ◌+◌, ◌-◌, ◌<◌, ◌≤◌, ◌↔◌, min, List, [], ◌∷◌, ◌++◌, length, take, drop, Option, Some, None, MatchOption, map, slice_set, ap, Bor, append-nil, arith, slice_get, option_copied, option_to_list, drop-drop, index_at, iterator_to_come, to_come, slice_get_cases}
use Rattle.std.proofs.lemmas.Grind.{common_steps}
use Rattle.std.proofs.iter.Rest.{run_of_first_by, run_of_last_by}
use Rattle.ring_core.specs.Walk.{ReadsInOrder, ReadsInReverse}
use Rattle.ring_core.proofs.Reading.{slice_get-index_at}

-- the first item of a list, and then the others
first_read : {A : Type 0} (xs : List A) (r : Option (Bor A)) → option_copied r ≡ slice_get xs 0
    → MatchOption r ((xs ≡ []) × (drop 1 xs ≡ [])) (λ x. xs ≡ x.now ∷ drop 1 xs)
first_read xs r read = grind arith

-- whatever a reading walk has to come, its calls give it in order, from the front and from the back
module _ {T RB : Type 0} (contents : RB → List T) where
  pub reads_in_order : ReadsInOrder contents
  reads_in_order p _ = (run_of_first_by (λ x. x.now) (iterator_to_come contents) p).1

  pub reads_in_reverse : ReadsInReverse contents
  reads_in_reverse p _ = (run_of_last_by (λ x. x.now) (iterator_to_come contents) p).1

module _ {A : Type 0} (xs : List A) (front back : ℕ) where
  -- how many items are to come
  pub length-to_come : length (to_come xs front back) ≡ min back (length xs) - front
  length-to_come = grind (arith, common_steps)

  -- what a position before the end names is the item to come that is so far after the front
  pub slice_get-to_come : (i j : ℕ) (o : Option A) → front + i ≡ j → j < min back (length xs) → o ≡ slice_get xs (index_at (length xs) j)
      → o ≡ slice_get (to_come xs front back) i
  slice_get-to_come i j o at before read = grind (arith, common_steps, slice_get_cases, slice_get-index_at xs j)

  -- `next` by `get`
  pub to_come-next : (r : Option (Bor A)) → front < min back (length xs) → option_copied r ≡ slice_get xs (index_at (length xs) front)
      → MatchOption r ((to_come xs front back ≡ []) × (to_come xs (front + 1) back ≡ [])) (λ x. to_come xs front back ≡ x.now ∷ to_come xs (front + 1) back)
  to_come-next r before read = rw drop-drop at (first_read (to_come xs front back) r (slice_get-to_come 0 front (option_copied r) (omega arith) before read))

  -- the last item to come, after the others
  to_come-last : (last : ℕ) (o : Option A) → last + 1 ≡ min back (length xs) → front ≤ last → o ≡ slice_get xs (index_at (length xs) last)
      → to_come xs front back ≡ to_come xs front last ++ option_to_list o
  to_come-last last o ends before read = grind (arith, common_steps, slice_get_cases, slice_get-index_at xs last)

  -- a step before the end finds an item, and an item is to come
  pub none-to_come : {P : Type 0} → (P → ⊥) → front < min back (length xs) → P ↔ (to_come xs front back ≡ [])
  none-to_come found before = (λ p. absurd (found p), λ none. absurd (omega (arith, length-to_come, ap length none)))

-- `next_back` by `get`
pub to_come-next_back : {A : Type 0} (xs : List A) (front back last : ℕ) (r : Option (Bor A)) → last + 1 ≡ min back (length xs) → front ≤ last
    → option_copied r ≡ slice_get xs (index_at (length xs) last)
    → MatchOption r ((to_come xs front back ≡ []) × (to_come xs front last ≡ [])) (λ x. to_come xs front back ≡ to_come xs front last ++ x.now ∷ [])
to_come-next_back xs front back last None ends before read =
    let same = rw append-nil at (to_come-last xs front back last None ends before read) in
    absurd (omega (arith, ap length same, length-to_come xs front back, length-to_come xs front last))
to_come-next_back xs front back last (Some x) ends before read = to_come-last xs front back last (Some x.now) ends before read

-- A cursor that puts f of each item in its place: the items before the cursor, and f of the others, are the same
-- before a step and after it.
pub map-step : {A : Type 0} (f : A → A) (xs : List A) (front : ℕ) (x : A) → Some x ≡ slice_get (to_come xs front (length xs)) 0
    → take (front + 1) (slice_set xs front (f x)) ++ map f (drop (front + 1) (slice_set xs front (f x))) ≡ take front xs ++ map f (drop front xs)
map-step f xs front x lent = grind (arith, common_steps, slice_get_cases)
