-- What slots of plain items show, once items have moved from the last of them, or were written through a slice.
use Rattle.ring_slots.proofs.Words.{IsFullStretch, length-map, length-replicate, length_refill, map, refill, refilled, rewritten, common_steps, take, cut, ◌++◌, ◌≡◌, refl, sym, ap, ◌∙◌, Bool, true, false, List, ℕ, ◌+◌, ◌-◌, ◌<◌, ◌≤◌, arith, length, get_or, replicate, Option, None, Some, shown, moved_down, brought_first, slice_get-get_or}
use Rattle.std.proofs.lemmas.List.{drop-map, take-map}
use Rattle.ring_slots.specs.Slots.{IsEmptyStretch}
use Rattle.ring_slots.specs.declared.copies.CopySlots.TheInside.{Inside}
use Rattle.ring_slots.proofs.Filled.{get_or-map_some, length-over, over-reads}
use Rattle.ring_slots.proofs.MovedDown.{brought-reads, moved_down-reads}
use Rattle.ring_slots.proofs.Shown.{cells-long, copy-reads, marked-at, marks-read, shown-at, shown-is, size-shown, stretch-shown}

-- cells once the last of them are copied to the first, whose items went up behind these before
copies-read : {A : Type 0} (xs between new : List A) (from count len i : ℕ) (d : A) → from + count ≡ length xs → count + len ≤ from
    → between ≡ take count xs ++ (take len xs ++ cut (count + len) xs) → new ≡ take count (cut from between) ++ cut (0 + count) between
    → (i < count → get_or new i d ≡ get_or xs (from + i) d) × (count ≤ i → i < count + len → get_or new i d ≡ get_or xs (i - count) d)
copies-read xs between new from count len i d all room was is =
    let long : length between ≡ length xs = rw was (grind (arith, common_steps)) in let up = copy-reads xs 0 count len in let down = copy-reads between from 0 count i d in
    (λ low. grind (arith, down, up (from + i) d), λ late low. grind (arith, down, up i d))

module _ {X : Type 0} {n : ℕ} (s : Inside X n) (sized : (length s.cells.xs ≡ n) × (length s.marks.full ≡ n)) (from : ℕ) where
  abbrev fs : List Bool
  fs = s.marks.full

  abbrev xs : List X
  xs = s.cells.xs

  abbrev slots : List (Option X)
  slots = shown fs xs

  abbrev count : ℕ
  count = length slots - from

  -- the marks once the slots from the place on are empty
  abbrev emptied : List Bool
  emptied = take from fs ++ (replicate count false ++ cut (from + count) fs)

  pub shown-moved_down : (to : ℕ) → from < length slots → to ≤ from → IsFullStretch slots from count → IsEmptyStretch slots to (from - to)
      → shown (take to emptied ++ (replicate count true ++ cut (to + count) emptied)) (take to xs ++ (take count (cut from xs) ++ cut (to + count) xs)) ≡ moved_down slots from to
  shown-moved_down to some order full empty =
      let long = size-shown s sized in let mark = length-over fs (replicate count false) from count (length-replicate count false) (omega (arith, sized)) in
      let cell = length-over xs (take count (cut from xs)) to count (cells-long s sized from count full) (omega (arith, sized)) in
      shown-is _ _ _ (grind (arith, common_steps, sized)) (λ i d inside.
      let moved = moved_down-reads slots from to (omega arith) order i in let full' = marked-at s sized from count full (i - to) in let empty' = empty.1 (i - to) in
      let marks = marks-read fs false from count i in let marks' = marks-read emptied true to count i in let cells = copy-reads xs from to count i d in
      grind (arith, sized, marks, marks', cells, moved, full', empty', shown-at fs xs i d, shown-at fs xs (from + (i - to)) d))

  pub shown-brought : (len : ℕ) → from < length slots → count + len ≤ from → IsFullStretch slots from count → IsFullStretch slots 0 len → IsEmptyStretch slots len (from - len)
      → (between new : List X) → between ≡ take count xs ++ (take len xs ++ cut (count + len) xs) → new ≡ take count (cut from between) ++ cut (0 + count) between
      → shown (replicate (count + len) true ++ cut (0 + (count + len)) emptied) new ≡ brought_first slots from len
  shown-brought len some room last first empty between new was is =
      let long = size-shown s sized in let mark = length-over fs (replicate count false) from count (length-replicate count false) (omega (arith, sized)) in
      let cell : length between ≡ length xs = rw was (grind (arith, common_steps, sized)) in let cell' : length new ≡ length xs = rw is (grind (arith, common_steps, sized)) in
      shown-is _ _ _ (grind (arith, common_steps, sized)) (λ i d inside.
      let cells = copies-read xs between new from count len i d (omega (arith, sized)) room was is in let moved = brought-reads slots from len (omega arith) room i in let empty' = empty.1 (i - len) in
      let marks = marks-read fs false from count i in let marks' = marks-read emptied true 0 (count + len) i in
      let full = marked-at s sized from count last i in let full' = marked-at s sized 0 len first (i - count) in
      grind (arith, sized, cells, moved, empty', marks, marks', full, full', shown-at fs xs i d, shown-at fs xs (from + i) d, shown-at fs xs (i - count) d))

  -- the slots once items are written over those of a full stretch
  pub shown-rewritten : (len : ℕ) (ws : List X) → IsFullStretch slots from len → shown fs (rewritten xs from len ws) ≡ refilled slots from len ws
  shown-rewritten len ws full =
      let lent = take len (cut from xs) in let ys = refill len lent ws in
      let long = size-shown s sized in let low : from + len ≤ length xs = omega (arith, full.0, sized) in
      let many : length ys ≡ len = sym (length_refill len lent ws (sym (cells-long s sized from len full))) in let many' : length (map Some ys) ≡ len = length-map ys Some ∙ many in
      let written : refill len (map Some lent) (map Some ws) ≡ map Some ys = grind (arith, common_steps, drop-map, take-map) in
      let is : refilled slots from len ws ≡ take from slots ++ (map Some ys ++ cut (from + len) slots) = rw (stretch-shown s sized from len full, written) refl in
      let cells = length-over xs ys from len many low in let cells' = length-over slots (map Some ys) from len many' full.0 in
      shown-is _ _ _ (omega (arith, sized), omega (arith, sized, ap length is)) (λ i d inside.
      let k : ℕ = i - from in let reads = ap (λ l. get_or l i None) is in let item = slice_get-get_or ys k d in let mark = marked-at s sized from len full k in
      grind (arith, sized, reads, over-reads slots (map Some ys) from len i None, over-reads xs ys from len i d, get_or-map_some ys k, item, shown-at fs xs i d, mark))
