-- Items that lie side by side in the slots of a ring.
use Rattle.ringbuffer.proofs.Words.{◌≡◌, ℕ, ◌*◌, ◌+◌, ◌-◌, ◌<◌, ◌≤◌, List, ◌++◌, length, map, take, drop, Option, None, Some, refl, sym, ◌∙◌, arith, length-append, length-drop, append_assoc, map-append, min, take_all, take-append-drop, rotated, ◌%◌, IsFullStretch, IsLaidOut, replicate, nat_le, if◌then◌else◌, length_refill, refill, common_steps, drop-drop, drop-map, get_or_append_left, get_or-append_right, get_or-replicate, get_or_past, length-map, length-replicate, take-map, slice_get_past, Slots, HoldsStretch, refilled, after_rewrite, SlotsHold, items_from, LaysOut, view_from, IsSound, beside, contiguous_start, get_or-map_some, IsEmptyStretch, brought_first, moved_down, with_refilled}
use Rattle.ringbuffer.proofs.LaysOut.{IsSound-after, LaysOut-items}
use Rattle.ringbuffer.proofs.Copies.{empty_behind}
use Rattle.ringbuffer.proofs.Stretches.{all_in_two, first_there, held_there, second_there}
use Rattle.ringbuffer.proofs.SlotsHold.{SlotsHold-same, count_none, wrap}

module _ {X : Type 0} (size start : ℕ) (xs : List X) (fit : start + length xs ≤ size) where
  length-beside : length (beside size start xs) ≡ size
  length-beside = simp (length-append, length-map, length-replicate) (omega arith)

  SlotsHold-beside : start < size → SlotsHold (beside size start xs) start xs
  SlotsHold-beside within k low =
      let long = length-beside in let round = wrap start k size within (omega arith) in
      rw long (grind (arith, round, get_or_append_left, get_or-append_right, get_or-replicate, get_or_past, get_or-map_some, length-append, length-map, length-replicate, slice_get_past))

  from_start : drop start (beside size start xs) ≡ map Some xs ++ replicate (size - (start + length xs)) None
  from_start = grind (arith, common_steps)

  -- they are a stretch
  pub beside-stretch : HoldsStretch (beside size start xs) start (length xs) xs
  beside-stretch = rw from_start (grind (arith, common_steps))

  -- and with others in their place, as many, they are these side by side
  pub beside-refilled : (ys : List X) → refilled (beside size start xs) start (length xs) ys ≡ beside size start (refill (length xs) xs ys)
  beside-refilled ys =
      let n = length xs in let first : take start (beside size start xs) ≡ replicate start None = grind (arith, common_steps) in
      let middle : refill n (map Some xs) (map Some ys) ≡ map Some (refill n xs ys) = grind (arith, common_steps, drop-map, take-map) in
      rw (first, beside-stretch, ← drop-drop, from_start, middle, sym (length_refill n xs ys refl)) (grind (arith, common_steps))

-- items that reach no further than the last slot lie side by side
pub contiguous_is : {X : Type 0} (slots : List (Option X)) (start : ℕ) (xs : List X) → start < length slots → start + length xs ≤ length slots → SlotsHold slots start xs → slots ≡ beside (length slots) start xs
contiguous_is slots start xs within fit lie = SlotsHold-same slots start within (beside (length slots) start xs) xs lie (SlotsHold-beside (length slots) start xs fit within) (length-beside (length slots) start xs fit)

-- a ring whose items go on at the first slot, of which those in the last slots are moved down after the others, or brought before them
module _ {X : Type 0} {s : Slots X} {start len first : ℕ} (laid_out : IsLaidOut s start) (counted : len ≡ length (items_from s.slots start)) (more : first < len) (ends : first + start ≡ length s.slots) where
  least : first ≡ min len (length s.slots - start)
  least = omega arith

  -- both are stretches of full slots, and those between are empty
  pub stretches : IsFullStretch s.slots start (length s.slots - start) × IsFullStretch s.slots 0 (len - first) × IsEmptyStretch s.slots (len - first) (start - (len - first))
  stretches =
      let fit = laid_out.fit in let size = length s.slots in let count : size - start ≡ first = omega arith in
      let found : len - first ≡ (start + len) % size = grind (arith, wrap start len size laid_out.start_within) in
      let two = all_in_two s start laid_out len first counted least in
      (rw count two.front, two.rest, (omega arith, empty_behind s start laid_out (len - first) len (start - (len - first)) counted (λ _. found) (omega arith) (omega arith)))

  -- what they hold
  held : (take (len - first) s.slots ≡ map Some (drop first (items_from s.slots start))) × (drop start s.slots ≡ map Some (take first (items_from s.slots start)))
  held =
      let items = items_from s.slots start in let all : 0 + len ≤ length items = omega (arith, counted) in let starts = count_none start (length s.slots) laid_out.start_within in
      let lasts = held_there (first_there s start laid_out 0 len start first all starts least) in let others = held_there (second_there s start laid_out 0 len start first all starts least) in
      let left = take_all first (drop start s.slots) (omega (arith, length-drop start s.slots)) in let none : 0 + first ≡ first = omega arith in
      (rw (none, take_all (len - first) (drop first items) (omega (arith, counted, length-drop first items))) at others, sym left ∙ lasts)

  pub moved_down_contiguous : moved_down s.slots start (len - first) ≡ beside (length s.slots) 0 (rotated first (items_from s.slots start))
  moved_down_contiguous = let fit = laid_out.fit in rw (held.0, held.1) (grind (arith, common_steps))

  pub brought_contiguous : len ≤ start → brought_first s.slots start (len - first) ≡ beside (length s.slots) 0 (items_from s.slots start)
  brought_contiguous room =
      let fit = laid_out.fit in let items = items_from s.slots start in
      rw (held.0, held.1, ← append_assoc (map Some (take first items)), ← map-append, take-append-drop) (grind (arith, common_steps))

-- the items begin with one of the slots, and end with the last at most
pub contiguous_fits : (start len size : ℕ) → start < size → len ≤ size → let at = if nat_le (start + len) size then start else 0 in (at < size) × (at + len ≤ size)
contiguous_fits start len size within low = (grind (arith, common_steps), grind (arith, common_steps))

-- a ring whose items were moved side by side holds them there, and shows those that are written in their place
module _ {X : Type 0} {limit : ℕ → ℕ} {s : Slots X} (mid : Slots X) {start len next : ℕ} (sound : IsSound limit s start len) (starts : next ≡ contiguous_start (length s.slots) start len)
    (lie : mid.slots ≡ beside (length s.slots) next (items_from s.slots start)) (same_capacity : mid.capacity ≡ s.capacity) where
  fits : (next < length s.slots) × (next + length (items_from s.slots start) ≤ length s.slots)
  fits = let enough = sound.laid_out.fit in rw (starts, ← sound.counted) (contiguous_fits start len (length s.slots) sound.laid_out.start_within (omega (arith, sound.counted)))

  pub held_beside : HoldsStretch mid.slots next len (items_from s.slots start)
  held_beside = rw (lie, sound.counted) (beside-stretch (length s.slots) next (items_from s.slots start) fits.1)

  pub rewritten : (changes : ℕ) → changes ≡ s.changes + 4 * len → (ys : List X)
      → IsSound limit (with_refilled mid next len changes ys) next len × (view_from (with_refilled mid next len changes ys) next ≡ after_rewrite (view_from s start) ys)
  rewritten changes counted ys =
      let size = length s.slots in let items = items_from s.slots start in let shown = refill (length items) items ys in let long = length_refill (length items) items ys refl in
      let fit : next + length shown ≤ size = omega (arith, long, fits.1) in
      let after : LaysOut s (with_refilled mid next len changes ys) next (after_rewrite (view_from s start) ys) =
      rw (lie, counted, sound.counted, same_capacity, beside-refilled size next items fits.1 ys)
      (LaysOut-items s start sound.laid_out (record s { slots = beside size next shown; changes = s.changes + 4 * length items }) next shown
      (length-beside size next shown fit) refl fits.0 (omega arith) (SlotsHold-beside size next shown fit fits.0)) in
      (IsSound-after sound after (sound.counted ∙ long) sound.within, after.shows)
