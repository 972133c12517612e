-- What slots of plain items show, once cells are written or marks change.
use Rattle.ring_slots.proofs.Words.{min, IsFullStretch, HoldsStretch, length-drop, length-map, length-replicate, length-take, slice_get-get_or, common_steps, ext_get_or, map, take, cut, ◌++◌, ◌≡◌, refl, sym, ap, ◌∙◌, Bool, true, false, List, [], ◌∷◌, ℕ, zero, suc, ◌+◌, ◌-◌, ◌<◌, ◌≤◌, arith, length, get_or, replicate, set, Option, None, Some, IsSome, if◌then◌else◌, Passes, Slots, filled, shown}
use Rattle.std.proofs.lemmas.Bool.{cases_eq}
use Rattle.std.proofs.lemmas.List.{get_or-drop, get_or-replicate, get_or-take}
use Rattle.ring_slots.specs.cells.Lends.{PassesCells}
use Rattle.ring_slots.specs.declared.copies.CopySlots.TheInside.{Inside}
use Rattle.ring_slots.proofs.Filled.{filled-before, filled-behind, filled-in, first_item, get_or-map_some, length-over, over-reads}
use Rattle.ring_slots.proofs.SlotsInMemory.{stretch_long}

-- marks once a stretch of them is set, and cells once a stretch of them is copied to another place
pub marks-read : (fs : List Bool) (b : Bool) (from n i : ℕ) → from + n ≤ length fs → let over = take from fs ++ (replicate n b ++ cut (from + n) fs) in
    (i < from → get_or over i false ≡ get_or fs i false) × (from ≤ i → i < from + n → get_or over i false ≡ b) × (from + n ≤ i → get_or over i false ≡ get_or fs i false)
marks-read fs b from n i room =
    let (before, within, behind) = over-reads fs (replicate n b) from n i false (length-replicate n b) room in
    (before, λ late low. within late low ∙ get_or-replicate n (i - from) b false (omega arith), behind)

pub copy-reads : {A : Type 0} (xs : List A) (from to n i : ℕ) (d : A) → from + n ≤ length xs → to + n ≤ length xs
    → let over = take to xs ++ (take n (cut from xs) ++ cut (to + n) xs) in
    (i < to → get_or over i d ≡ get_or xs i d) × (to ≤ i → i < to + n → get_or over i d ≡ get_or xs (from + (i - to)) d) × (to + n ≤ i → get_or over i d ≡ get_or xs i d)
copy-reads xs from to n i d low room =
    let (before, within, behind) = over-reads xs (take n (cut from xs)) to n i d (omega (arith, length-take n (cut from xs), length-drop from xs)) room in
    (before, λ late early. within late early ∙ get_or-take n (cut from xs) (i - to) d (omega arith) ∙ get_or-drop from xs (i - to) d, behind)

module _ {X : Type 0} where
  pub length-shown : (fs : List Bool) (xs : List X) → length (shown fs xs) ≡ min (length fs) (length xs)
  length-shown [] xs = omega arith
  length-shown (f ∷ fs) [] = omega arith
  length-shown (f ∷ fs) (x ∷ xs) = omega (arith, length-shown fs xs)

  -- a slot shows its cell's item where its mark is set
  pub shown-at : (fs : List Bool) (xs : List X) (i : ℕ) (d : X) → i < length xs → get_or (shown fs xs) i None ≡ (if get_or fs i false then Some (get_or xs i d) else None)
  shown-at fs [] i d low = absurd (omega arith)
  shown-at [] (x ∷ xs) i d low = refl
  shown-at (f ∷ fs) (x ∷ xs) zero d low = refl
  shown-at (f ∷ fs) (x ∷ xs) (suc i) d low = shown-at fs xs i d (omega arith)

  -- slots that read so are what is shown
  pub shown-is : (fs : List Bool) (xs : List X) (cs : List (Option X)) → (length fs ≡ length xs) × (length cs ≡ length xs)
      → ((i : ℕ) (d : X) → i < length xs → get_or cs i None ≡ (if get_or fs i false then Some (get_or xs i d) else None)) → shown fs xs ≡ cs
  shown-is fs xs cs long reads =
      let many = length-shown fs xs in ext_get_or None (shown fs xs) cs (omega arith) (λ i low.
      let within : i < length xs = omega arith in let d = first_item xs (omega arith) in shown-at fs xs i d within ∙ sym (reads i d within))

  pub shown-all : (xs : List X) → shown (replicate (length xs) true) xs ≡ map Some xs
  shown-all [] = refl
  shown-all (x ∷ xs) = ap (λ l. Some x ∷ l) (shown-all xs)

  pub shown-empty : (xs : List X) → shown (replicate (length xs) false) xs ≡ replicate (length xs) None
  shown-empty [] = refl
  shown-empty (x ∷ xs) = ap (λ l. None ∷ l) (shown-empty xs)

-- of slots with as many marks as cells
module _ {X : Type 0} {n : ℕ} (s : Inside X n) (sized : (length s.cells.xs ≡ n) × (length s.marks.full ≡ n)) where
  abbrev fs : List Bool
  fs = s.marks.full

  abbrev xs : List X
  xs = s.cells.xs

  abbrev pub seen : Slots X
  seen = record { slots = shown fs xs; changes = s.changes.count; capacity = n }

  pub size-shown : length (shown fs xs) ≡ n
  size-shown = omega (arith, length-shown fs xs, sized)

  pub size-seen : {now : Slots X} → seen ≡ now → length now.slots ≡ n
  size-seen is = ap (λ (v : Slots X). length v.slots) (sym is) ∙ size-shown

  -- there is a cell where a slot is full, and the slot shows its item, also one that is written there
  module _ (k : ℕ) (full : IsSome (get_or (shown fs xs) k None)) where
    pub within : k < n
    within = let long = size-shown in grind (arith, common_steps)

    pub full-item : (x : X) → x ≡ get_or xs k x → get_or (shown fs xs) k None ≡ Some x
    full-item x is = let low = within in grind (arith, sized, shown-at fs xs k x)

    pub shown-write : (x : X) → shown fs (set xs k x) ≡ set (shown fs xs) k (Some x)
    shown-write x = let long = size-shown in shown-is _ _ _ (grind (arith, common_steps, sized)) (λ i d low. grind (arith, common_steps, sized, shown-at fs xs i d, cases_eq i k))

  -- an item written into a cell whose mark is set to full, and a mark set to empty
  pub shown-put : (k : ℕ) (x : X) → shown (set fs k true) (set xs k x) ≡ set (shown fs xs) k (Some x)
  shown-put k x = let long = size-shown in shown-is _ _ _ (grind (arith, common_steps, sized)) (λ i d low. grind (arith, common_steps, sized, shown-at fs xs i d, cases_eq i k))

  pub shown-take : (k : ℕ) → shown (set fs k false) xs ≡ set (shown fs xs) k None
  shown-take k = let long = size-shown in shown-is _ _ _ (grind (arith, common_steps, sized)) (λ i d low. grind (arith, common_steps, sized, shown-at fs xs i d, cases_eq i k))

  -- items written over a stretch of cells, whose marks are set to full
  pub shown-filled : (from len : ℕ) (ys : List X) → length ys ≡ len → from + len ≤ n
      → shown (take from fs ++ (replicate len true ++ cut (from + len) fs)) (take from xs ++ (ys ++ cut (from + len) xs)) ≡ filled (shown fs xs) from ys
  shown-filled from len ys many low =
      let long = size-shown in let room : from + length ys ≤ length (shown fs xs) = omega arith in let items = length-over xs ys from len many in
      shown-is _ _ _ (grind (arith, common_steps, sized)) (λ i d inside.
      let old = filled-before (shown fs xs) from ys room i in let new = filled-in (shown fs xs) from ys room i in let old' = filled-behind (shown fs xs) from ys room i in
      grind (arith, sized, old, new, old', slice_get-get_or ys (i - from) d, shown-at fs xs i d, marks-read fs true from len i, over-reads xs ys from len i d))

  module _ (from len : ℕ) (full : IsFullStretch (shown fs xs) from len) where
    pub cells-long : length (take len (cut from xs)) ≡ len
    cells-long = omega (arith, full.0, size-shown, sized, length-take len (cut from xs), length-drop from xs)

    -- a full stretch has its marks, and shows its cells
    pub marked-at : (k : ℕ) → k < len → get_or fs (from + k) false ≡ true
    marked-at k low =
        let long = size-shown in let many = stretch_long (shown fs xs) from len full.1.0 full.0 full.1.1 in
        let held = ap (λ l. get_or l k None) full.1.1 in let d = first_item full.1.0 (omega arith) in
        grind (arith, common_steps, sized, held, get_or-map_some full.1.0 k, slice_get-get_or full.1.0 k d, shown-at fs xs (from + k) d)

    pub stretch-shown : HoldsStretch (shown fs xs) from len (take len (cut from xs))
    stretch-shown =
        let long = size-shown in let items = length-map (take len (cut from xs)) Some in
        ext_get_or None (take len (cut from (shown fs xs))) (map Some (take len (cut from xs))) (grind (arith, common_steps, sized)) (λ i low.
        let d = first_item xs (omega (arith, sized, full.0, length-take len (cut from (shown fs xs)))) in
        grind (arith, common_steps, sized, shown-at fs xs (from + i) d, marked-at i))

    -- items pass along it, each by one change: as many go on as stood there
    module _ (passed : List X → List X → Type 0) (keeps : (had has : List X) → passed had has → length has ≡ length had) (marks : List Bool) (new : List X)
        (marked : marks ≡ take from fs ++ (replicate len true ++ cut (from + len) fs)) (after : PassesCells xs new from len passed) where
      many : length after.0 ≡ len
      many = keeps (take len (cut from xs)) after.0 after.1 ∙ cells-long

      pub kept : (length new ≡ n) × (length marks ≡ n)
      kept = let low = full.0 in let long = size-shown in let count = many in (rw after.2 (grind (arith, common_steps, sized)), rw marked (grind (arith, common_steps, sized)))

      pub passes : (changes : ℕ) → changes ≡ s.changes.count + len → Passes seen (record { slots = shown marks new; changes = changes; capacity = n }) from len passed
      passes changes count =
          let slots = shown-filled from len after.0 many (omega (arith, full.0, size-shown)) in
          (take len (cut from xs), after.0, stretch-shown, after.1, rw (marked, after.2, count) (λ i. record { slots = slots i; changes = s.changes.count + sym many i; capacity = n }))
