-- What slots hold once items are put into a stretch of them.
use Rattle.ring_slots.proofs.Words.{length-map, take_front, refilled, ◌≡◌, refl, ap, false, List, [], ◌∷◌, ◌++◌, ℕ, zero, suc, ◌+◌, ◌<◌, ◌≤◌, arith, length, get_or, take, cut, map, Option, None, Some, ext_get_or, common_steps, slice_get-get_or, SamePlaces, slots_filled, slots_items, Filled, SameOutside, ◌-◌, ◌∙◌, slice_get, Row, filled, HoldsRow}
use Rattle.std.proofs.Common.{append_assoc}

-- the first item of some
pub first_item : {X : Type 0} (xs : List X) → 0 < length xs → X
first_item [] some = absurd (omega arith)
first_item (x ∷ xs) some = x

-- a slot of full ones holds the item of its place
pub get_or-map_some : {X : Type 0} (xs : List X) (i : ℕ) → get_or (map Some xs) i None ≡ slice_get xs i
get_or-map_some [] i = refl
get_or-map_some (x ∷ xs) zero = refl
get_or-map_some (x ∷ xs) (suc i) = get_or-map_some xs i

-- elements written over a stretch of others leave as many, and the others as they were
pub length-over : {A : Type 0} (xs ys : List A) (from n : ℕ) → length ys ≡ n → from + n ≤ length xs → length (take from xs ++ (ys ++ cut (from + n) xs)) ≡ length xs
length-over xs ys from n long room = grind (arith, common_steps)

pub over-reads : {A : Type 0} (xs ys : List A) (from n i : ℕ) (d : A) → length ys ≡ n → from + n ≤ length xs → let over = take from xs ++ (ys ++ cut (from + n) xs) in
    (i < from → get_or over i d ≡ get_or xs i d) × (from ≤ i → i < from + n → get_or over i d ≡ get_or ys (i - from) d) × (from + n ≤ i → get_or over i d ≡ get_or xs i d)
over-reads xs ys from n i d long room = (λ low. grind (arith, common_steps), λ late low. grind (arith, common_steps), λ late. grind (arith, common_steps))

module _ {X : Type 0} (slots : List (Option X)) (from : ℕ) (xs : List X) (within : from + length xs ≤ length slots) where
  pub length-filled : length (filled slots from xs) ≡ length slots
  length-filled = grind (arith, common_steps)

  pub filled-before : (i : ℕ) → i < from → get_or (filled slots from xs) i None ≡ get_or slots i None
  filled-before i low = grind (arith, common_steps)

  pub filled-in : (i : ℕ) → from ≤ i → i < from + length xs → get_or (filled slots from xs) i None ≡ slice_get xs (i - from)
  filled-in i late low = grind (arith, common_steps, get_or-map_some)

  pub filled-behind : (i : ℕ) → from + length xs ≤ i → get_or (filled slots from xs) i None ≡ get_or slots i None
  filled-behind i late = grind (arith, common_steps)

-- as many items put in place of others
pub refilled_is : {X : Type 0} (cs : List (Option X)) (place : ℕ) (ys : List X) → refilled cs place (length ys) ys ≡ filled cs place ys
refilled_is cs place ys =
    let n = length ys in let zs = take n (cut place cs) in
    ap (λ l. take place cs ++ (l ++ cut (place + n) cs)) (take_front (map Some ys) (cut (length (map Some ys)) zs) n (omega (arith, length-map ys Some)))

-- slots that hold a row into which items were copied have these items
pub copied : {X : Type 0} (old new : List (Option X)) (before after : Row X) (size from : ℕ) (xs : List X) → size ≡ length old → from + length xs ≤ length old
    → HoldsRow old before size → HoldsRow new after size → SamePlaces before after
    → slots_items after ≡ take from (slots_items before) ++ xs ++ cut (from + length xs) (slots_items before) → Filled (slots_filled after) from (from + length xs)
    → SameOutside false (slots_filled before) (slots_filled after) from (from + length xs) → new ≡ filled old from xs
copied old new before after size from xs all within had has places items full outside =
    let was_long = had.size in let is_long = has.size in let same = places.count in let counts = before.ok.0 in let counts' = after.ok.0 in
    ext_get_or None new (filled old from xs) (omega (arith, length-filled old from xs within)) (λ i low.
    let held = has.held i (omega arith) in let was = had.held i (omega arith) in let d = first_item (slots_items before) (omega arith) in
    let front = filled-before old from xs within i in let inner = filled-in old from xs within i in let behind = filled-behind old from xs within i in
    let reads = ap (λ l. get_or l i d) (items ∙ append_assoc (take from (slots_items before)) xs (cut (from + length xs) (slots_items before))) in
    grind (arith, held, was, reads, slice_get-get_or, slice_get-get_or xs (i - from) d, over-reads (slots_items before) xs from (length xs) i d, outside i, full i, front, inner, behind))
