-- What a contract sees of the slots of a ring.
use Rattle.std.specs.List.{refill}
use Rattle.std.specs.Prelude.{◌≡◌, ℕ, ◌+◌, ◌-◌, ◌*◌, ◌<◌, ◌≤◌, List, [], ◌∷◌, ◌++◌, length, replicate, take, drop, map, slice_index_or, slice_set, Option, None, Some, IsSome}

-- what each slot holds, an item or nothing, how many changes the slots have had, and the capacity that they were made for
pub record Slots (X : Type 0) : Type 0 where
  pub slots : List (Option X)
  pub changes : ℕ
  pub capacity : ℕ

module _ {X : Type 0} where
  -- what the slot at a place holds: nothing, too, where there is no such slot
  abbrev pub slot_at : Slots X → ℕ → Option X
  slot_at s place = slice_index_or s.slots place None

  -- there is a slot at the place, and it holds nothing
  abbrev pub IsEmptyAt : Slots X → ℕ → Type 0
  IsEmptyAt s place = (place < length s.slots) × (slot_at s place ≡ None)

  -- the slot at the place holds an item
  abbrev pub IsFullAt : Slots X → ℕ → Type 0
  IsFullAt s place = IsSome (slot_at s place)

  -- the `len` slots from a place on hold these items
  abbrev pub HoldsStretch : List (Option X) → ℕ → ℕ → List X → Type 0
  HoldsStretch slots from len xs = take len (drop from slots) ≡ map Some xs

  -- there are `len` slots from a place on, and each of them holds an item
  abbrev pub IsFullStretch : List (Option X) → ℕ → ℕ → Type 0
  IsFullStretch slots from len = (from + len ≤ length slots) × ((xs : List X) × HoldsStretch slots from len xs)

  -- there are `len` slots from a place on, and each of them is empty
  abbrev pub IsEmptyStretch : List (Option X) → ℕ → ℕ → Type 0
  IsEmptyStretch slots from len = (from + len ≤ length slots) × ((k : ℕ) → k < len → slice_index_or slots (from + k) None ≡ None)

  -- the slots, with these items in those from a place on
  abbrev pub filled : List (Option X) → ℕ → List X → List (Option X)
  filled slots from xs = take from slots ++ (map Some xs ++ drop (from + length xs) slots)

  -- the slots, with those from a place on moved down to another, and empty ones after them
  abbrev pub moved_down : List (Option X) → ℕ → ℕ → List (Option X)
  moved_down slots from to = take to slots ++ (drop from slots ++ replicate (from - to) None)

  -- the slots, with those from a place on brought to the first, the first `len` after them, and empty ones after all
  abbrev pub brought_first : List (Option X) → ℕ → ℕ → List (Option X)
  brought_first slots from len = drop from slots ++ (take len slots ++ replicate (from - len) None)

  -- the slots, with these items in the `len` of them from a place on
  abbrev pub refilled : List (Option X) → ℕ → ℕ → List X → List (Option X)
  refilled slots from len xs = take from slots ++ (refill len (take len (drop from slots)) (map Some xs) ++ drop (from + len) slots)

  -- the slots after one change: the slot at the place holds this now, every other slot what it held
  abbrev pub changed : Slots X → ℕ → Option X → Slots X
  changed s place slot = record s { slots = slice_set s.slots place slot; changes = s.changes + 1 }

  -- the slots once these items are put into those from a place on, each by one change
  abbrev pub with_items : Slots X → ℕ → List X → Slots X
  with_items s place xs = record s { slots = filled s.slots place xs; changes = s.changes + length xs }

  -- the slots once these items are written into the `len` of them from a place on, with this count of changes
  abbrev pub with_refilled : Slots X → ℕ → ℕ → ℕ → List X → Slots X
  with_refilled s from len changes xs = record s { slots = refilled s.slots from len xs; changes = changes }

  -- the `len` slots from a place on, all of them full, hold other items now, each by one change: `passed` says which, given those that they held
  abbrev pub Passes : Slots X → Slots X → ℕ → ℕ → (List X → List X → Type 0) → Type 0
  Passes old new from len passed = (had has : List X) × HoldsStretch old.slots from len had × passed had has × (new ≡ with_items old from has)

  -- an item went before the others, and the last of them all is left over
  abbrev pub passed_up : X → X → List X → List X → Type 0
  passed_up item over had has = item ∷ had ≡ has ++ over ∷ []

  -- an item went after the others, and the first of them all is left over
  abbrev pub passed_down : X → X → List X → List X → Type 0
  passed_down item over had has = had ++ item ∷ [] ≡ over ∷ has

  -- the slots once the items from a place on have moved down to another, each by two changes
  abbrev pub with_moved_down : Slots X → ℕ → ℕ → Slots X
  with_moved_down s from to = record s { slots = moved_down s.slots from to; changes = s.changes + 2 * (length s.slots - from) }

  -- the slots once the items from a place on have gone to the first slots, and the first `len` after them, each by two changes
  abbrev pub with_brought_first : Slots X → ℕ → ℕ → Slots X
  with_brought_first s from len = record s { slots = brought_first s.slots from len; changes = s.changes + 2 * (length s.slots - from + len) }
