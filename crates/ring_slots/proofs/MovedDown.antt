-- What slots hold once the items of the last of them have moved down, or to the first of them.
use Rattle.ring_slots.proofs.Words.{IsFullStretch, ◌≡◌, ap, ◌∙◌, false, List, ℕ, ◌+◌, ◌<◌, ◌≤◌, arith, length, get_or, take, cut, Option, None, ext_get_or, common_steps, slice_get-get_or, slice_get_cases, SamePlaces, slots_filled, slots_items, Filled, SameOutside, ◌-◌, min, Row, brought_first, moved_down, HoldsRow}
use Rattle.std.specs.Mem.Slots.{IsMoved, SameFilledBeside, SameItemsOutside}
use Rattle.std.specs.Prelude.{max}
use Rattle.ring_slots.proofs.Filled.{first_item, get_or-map_some}
use Rattle.ring_slots.proofs.SlotsInMemory.{stretch_long}

-- one of the items from a place on
pub last_item : {X : Type 0} (slots : List (Option X)) (size from : ℕ) → from < size → IsFullStretch slots from (size - from) → X
last_item slots size from some (within, (xs, holds)) = first_item xs (let long = stretch_long slots from (size - from) xs within holds in omega (arith, some))

-- the places of full slots are filled
pub stretch_filled : {X : Type 0} (slots : List (Option X)) (from count : ℕ) (row : Row X) (size : ℕ) → size ≡ length slots → IsFullStretch slots from count → HoldsRow slots row size
    → Filled (slots_filled row) from (from + count)
stretch_filled slots from count row size all (within, (xs, holds)) had i late low =
    let k : ℕ = i - from in let here : from + k ≡ i = omega arith in let long = stretch_long slots from count xs within holds in
    let slot : get_or slots i None ≡ get_or (take count (cut from slots)) k None = grind (arith, common_steps) in
    let item = ap (λ (l : List (Option _)). get_or l k None) holds ∙ get_or-map_some xs k in let held = had.held i (omega arith) in
    grind (arith, slot, item, held, slice_get_cases xs k)

-- what each slot reads once the last items have moved down
module _ {X : Type 0} (slots : List (Option X)) (from to : ℕ) (some : from ≤ length slots) (order : to ≤ from) where
  pub length-moved_down : length (moved_down slots from to) ≡ length slots
  length-moved_down = grind (arith, common_steps)

  pub moved_down-reads : (i : ℕ) → let count = length slots - from in (i < to → get_or (moved_down slots from to) i None ≡ get_or slots i None)
      × (to ≤ i → i < to + count → get_or (moved_down slots from to) i None ≡ get_or slots (from + (i - to)) None)
      × (to + count ≤ i → get_or (moved_down slots from to) i None ≡ None)
  moved_down-reads i = (λ low. grind (arith, common_steps), λ late low. grind (arith, common_steps), λ late. grind (arith, common_steps))

-- what each slot reads once they are brought to the first slots
module _ {X : Type 0} (slots : List (Option X)) (from len : ℕ) (some : from ≤ length slots) (room : length slots - from + len ≤ from) where
  pub length-brought : length (brought_first slots from len) ≡ length slots
  length-brought = grind (arith, common_steps)

  pub brought-reads : (i : ℕ) → let last = length slots - from in (i < last → get_or (brought_first slots from len) i None ≡ get_or slots (from + i) None)
      × (last ≤ i → i < last + len → get_or (brought_first slots from len) i None ≡ get_or slots (i - last) None)
      × (last + len ≤ i → get_or (brought_first slots from len) i None ≡ None)
  brought-reads i = (λ low. grind (arith, common_steps), λ late low. grind (arith, common_steps), λ late. grind (arith, common_steps))

-- slots that hold a row in which the last items were moved down have them there
module _ {X : Type 0} (old new : List (Option X)) (before after : Row X) (size from to : ℕ) (all : size ≡ length old) (some : from < size) (order : to ≤ from)
    (full : IsFullStretch old from (size - from)) (had : HoldsRow old before size) (has : HoldsRow new after (to + (size - from))) where
  abbrev count : ℕ
  count = size - from

  pub is_moved_down : IsMoved before after from to count → SameItemsOutside before after to (to + count) → Filled (slots_filled after) to (to + count)
      → SameOutside false (slots_filled before) (slots_filled after) (min from to) (max from to + count) → SamePlaces before after → new ≡ moved_down old from to
  is_moved_down moved items filled outside places =
      let long = has.size in let long' = had.size in let same_count = places.count in let counts = before.ok.0 in let counts' = after.ok.0 in
      let d = last_item old size from some full in let was_filled = stretch_filled old from count before size all full had in
      ext_get_or None new (moved_down old from to) (omega (arith, length-moved_down old from to)) (λ i low.
      let k : ℕ = i - to in let held = λ (early : i < to + count). has.held i early in let was = had.held i (omega arith) in let was' = had.held (from + k) in
      grind (arith, held, has.behind i, was, was', outside i, items d i, moved k d, was_filled (from + k), filled i, moved_down-reads old from to (omega arith) order i, slice_get-get_or))

-- slots that hold a row in which the last items were moved to the first slots, and those of the first `len` slots up after them, have them there
module _ {X : Type 0} (old new : List (Option X)) (before between after : Row X) (size from len : ℕ) (all : size ≡ length old) (some : from < size) (room : size - from + len ≤ from)
    (full : IsFullStretch old from (size - from)) (full' : IsFullStretch old 0 len) (had : HoldsRow old before size) (has : HoldsRow new after (size - from + len)) where
  abbrev last : ℕ
  last = size - from

  module _ (moved : IsMoved before between 0 last len) (items : SameItemsOutside before between last (last + len)) (filled : Filled (slots_filled between) last (last + len)) (places : SamePlaces before between)
      (moved' : IsMoved between after from 0 last) (items' : SameItemsOutside between after 0 (0 + last)) (filled' : Filled (slots_filled after) 0 (0 + last))
      (beside : SameFilledBeside between after from 0 last) (places' : SamePlaces between after) where
    abbrev d : X
    d = last_item old size from some full

    -- how many places each row has
    counts : (length old ≡ length (slots_items before)) × (length old ≡ length (slots_items between)) × (length old ≡ length (slots_items after))
    counts = let long = had.size in let count = places.count in let count' = places'.count in (omega (arith, before.ok.0), omega (arith, between.ok.0), omega (arith, after.ok.0))

    in_last : (i : ℕ) → i < last → get_or new i None ≡ get_or old (from + i) None
    in_last i low =
        let held = has.held i (omega arith) in let was = had.held (from + i) (omega arith) in let was_filled = stretch_filled old from last before size all full had (from + i) in
        grind (arith, held, was, was_filled, filled' i, moved' i d, items d (from + i), slice_get-get_or, counts)

    in_first : (i : ℕ) → last ≤ i → i < last + len → get_or new i None ≡ get_or old (i - last) None
    in_first i late low =
        let held = has.held i low in let was = had.held (i - last) (omega arith) in
        let k : ℕ = i - last in let here : last + k ≡ i = omega arith in let was_filled = stretch_filled old 0 len before size all full' had k in
        grind (arith, held, was, was_filled, filled i, beside i, moved k d, items' d i, slice_get-get_or, counts)

    pub brought : new ≡ brought_first old from len
    brought =
        let long = has.size in let reads = brought-reads old from len (omega arith) (omega arith) in
        ext_get_or None new (brought_first old from len) (omega (arith, length-brought old from len, counts, after.ok.0)) (λ i low. grind (arith, has.behind i, in_last i, in_first i, reads i))
