-- Items that one more pushes along by one index: those up to the last slot, and those that go on at the first.
use Rattle.ringbuffer.proofs.Words.{◌≡◌, ℕ, ◌+◌, ◌-◌, ◌%◌, ◌<◌, ◌≤◌, List, [], ◌∷◌, ◌++◌, ◌⊎◌, Some, ap, append_assoc, arith, common_steps, drop, drop-drop, length, length-append, length-drop, length-take, inl, inr, min, refl, rules, slice_get, slice_get_cases, subst, suc, sym, take, take_at, ◌∙◌, IsFullStretch, IsSound, LaysOut, Slots, View, after_insert, after_pop, after_put, after_put_first, after_remove, after_take, after_writes, items_from, view_from, Passes, passed_down, passed_up, places, same_lists, take-take}
use Rattle.ringbuffer.proofs.Copies.{LaysOut-filled}
use Rattle.ringbuffer.proofs.LaysOut.{IsSound-after, LaysOut-then}
use Rattle.ringbuffer.proofs.RepeatedSteps.{view_is}
use Rattle.ringbuffer.proofs.Stretches.{SideBySide, both_there, first_there, full_there, held_there, second_there, stretch_is}

-- others that are put in the place of items that lie side by side, as many, take their place in the ring
module _ {X : Type 0} {s : Slots X} {start i len place : ℕ} (at : SideBySide s start i len place) where
  passes_there : (new : Slots X) (passed : List X → List X → Type 0) → ((had has : List X) → passed had has → length has ≡ length had) → Passes s new place len passed
      → (xs : List X) × (length xs ≡ len) × passed (take len (drop i (items_from s.slots start))) xs × LaysOut s new start (after_writes i xs (view_from s start))
  passes_there new passed many passes =
      let items = items_from s.slots start in let low = at.low in let enough = at.laid_out.fit in let (had, xs, held, order, after) = passes in
      let are : had ≡ take len (drop i items) = stretch_is s.slots place len had (take len (drop i items)) held (held_there at) in
      let long : length xs ≡ len = omega (arith, many had xs order, ap length are, length-take len (drop i items), length-drop i items) in
      let lies = LaysOut-filled s start at.laid_out place i xs (omega arith) (λ some. at.found (omega arith)) (omega (arith, at.fit)) (take i items ++ (xs ++ drop (i + length xs) items))
      (λ j below. grind (arith, common_steps, slice_get_cases)) (λ k other. grind (arith, common_steps, slice_get_cases)) (s.changes + length xs) (grind (arith, common_steps)) in
      (xs, long, rw (← are) order, rw after lies)

module _ {X : Type 0} where
  many_up : (item over : X) (had has : List X) → passed_up item over had has → length has ≡ length had
  many_up item over had has order = omega (arith, ap length order, length-append has (over ∷ []))

  many_down : (item over : X) (had has : List X) → passed_down item over had has → length has ≡ length had
  many_down item over had has order = omega (arith, ap length order, length-append had (item ∷ []))

  long_writes : (i : ℕ) (xs : List X) (v : View X) → i + length xs ≤ length v.items → length (after_writes i xs v).items ≡ length v.items
  long_writes i xs v low = grind (arith, common_steps)

  -- two writes side by side, in either order, are one
  module _ (i m : ℕ) (xs ys : List X) (v : View X) (many : m ≡ length xs) (low : i + m + length ys ≤ length v.items) where
    writes_on : after_writes (i + m) ys (after_writes i xs v) ≡ after_writes i (xs ++ ys) v
    writes_on = view_is (same_lists _ _ (search (rules, places)) (λ k d below. grind (arith, places))) (omega (arith, length-append xs ys)) refl

    writes_back : after_writes i xs (after_writes (i + m) ys v) ≡ after_writes i (xs ++ ys) v
    writes_back = view_is (grind (arith, common_steps)) (omega (arith, length-append xs ys)) refl

  -- a write leaves what lies apart
  left_apart : (i j n : ℕ) (xs : List X) (v : View X) → i + length xs ≤ length v.items → (i + length xs ≤ j) ⊎ (j + n ≤ i) → take n (drop j (after_writes i xs v).items) ≡ take n (drop j v.items)
  left_apart i j n xs v low apart = same_lists _ _ (search (rules, places)) (λ k d below. grind (arith, places, apart))

-- two stretches that lie apart are passed one after the other
module _ {X : Type 0} {s : Slots X} {start i m place j n place' : ℕ} (one : SideBySide s start i m place) (other : SideBySide s start j n place') (apart : (i + m ≤ j) ⊎ (j + n ≤ i))
    (mid : Slots X) (passed : List X → List X → Type 0) (many : (had has : List X) → passed had has → length has ≡ length had) (once : Passes s mid place m passed) where
  still_other : SideBySide mid start j n place'
  still_other =
      let (xs, long, order, lies) = passes_there one mid passed many once in let same = long_writes i xs (view_from s start) (omega (arith, long, one.low)) in
      let low : j + n ≤ length (items_from mid.slots start) = omega (arith, other.low, same, ap (λ (v : View X). length v.items) lies.shows) in
      record { laid_out = lies.laid_out; low = low; found = rw lies.same_size other.found; fit = rw lies.same_size other.fit }

  both : (new : Slots X) (passed' : List X → List X → Type 0) → ((had has : List X) → passed' had has → length has ≡ length had) → Passes mid new place' n passed' → let items = items_from s.slots start in
      (xs : List X) × (ys : List X) × (length xs ≡ m) × (length ys ≡ n) × passed (take m (drop i items)) xs
      × passed' (take n (drop j items)) ys × LaysOut s new start (after_writes j ys (after_writes i xs (view_from s start)))
  both new passed' many' twice =
      let (xs, long, order, lies) = passes_there one mid passed many once in let (ys, long', order', lies') = passes_there still_other new passed' many' twice in
      let left = ap (λ (w : View X). take n (drop j w.items)) lies.shows ∙ left_apart i j n xs (view_from s start) (omega (arith, long, one.low)) (rw long apart) in
      (xs, ys, long, long', order, rw left at order', LaysOut-then (after_writes j ys) lies lies')

-- `count` items from an index on, of which the first ones lie up to the last slot and the others from the first slot on
module _ {X : Type 0} {limit : ℕ → ℕ} (s : Slots X) (start len : ℕ) (sound : IsSound limit s start len) (now : View X) (shows : view_from s start ≡ now) (i count place first : ℕ)
    (within_now : i + count ≤ length now.items) (found : place ≡ (start + i) % length s.slots) (least : first ≡ min count (length s.slots - place)) where
  abbrev here : List X
  here = items_from s.slots start

  abbrev v : View X
  v = view_from s start

  low : i + count ≤ length here
  low = rw (sym shows) at within_now

  -- what the ring is once all are passed
  abbrev Whole : (List X → List X → Type 0) → Slots X → Type 0
  Whole passed new = IsSound limit new start len × ((xs : List X) × passed (take count (drop i now.items)) xs × (view_from new start ≡ after_writes i xs now))

  whole : (passed : List X → List X → Type 0) (new : Slots X) (xs ys : List X) → length xs ≡ first → length ys ≡ count - first → passed (take count (drop i here)) (xs ++ ys)
      → LaysOut s new start (after_writes i (xs ++ ys) v) → Whole passed new
  whole passed new xs ys long long' order lies = (
    IsSound-after sound lies (sound.counted ∙ sym (long_writes i (xs ++ ys) v (omega (arith, low, long, long', least, length-append xs ys)))) sound.within,
    subst (λ (w : View X). (xs : List X) × passed (take count (drop i w.items)) xs × (view_from new start ≡ after_writes i xs w)) shows (xs ++ ys, order, lies.shows),
  )

  one : SideBySide s start i first place
  one = first_there s start sound.laid_out i count place first low found least

  other : SideBySide s start (i + first) (count - first) 0
  other = second_there s start sound.laid_out i count place first low found least

  pub first_full : IsFullStretch s.slots place first
  first_full = full_there one

  pub second_full : IsFullStretch s.slots 0 (count - first)
  second_full = full_there other

  -- the first ones are passed, and then the others
  module _ (mid : Slots X) (item between : X) (once : Passes s mid place first (passed_up item between)) where
    pub second_full_up : IsFullStretch mid.slots 0 (count - first)
    second_full_up = full_there (still_other one other (inl (omega arith)) mid (passed_up item between) (many_up item between) once)

    pub all_up : (new : Slots X) (over : X) → Passes mid new 0 (count - first) (passed_up between over) → Whole (passed_up item over) new
    all_up new over twice =
        let (xs, ys, long, long', order, order', lies) =
        both one other (inl (omega arith)) mid (passed_up item between) (many_up item between) once new (passed_up between over) (many_up between over) twice in
        let ordered : item ∷ take count (drop i here) ≡ (xs ++ ys) ++ over ∷ [] =
        rw (← both_there s start sound.laid_out i count place first low found least, append_assoc, ← order')
        (ap (λ l. l ++ take (count - first) (drop (i + first) here)) order ∙ append_assoc xs (between ∷ []) _) in
        whole (passed_up item over) new xs ys long long' ordered (rw (writes_on i first xs ys v (sym long) (omega (arith, long', low, least))) at lies)

  -- the others are passed, and then the first ones
  module _ (mid : Slots X) (item between : X) (once : Passes s mid 0 (count - first) (passed_down item between)) where
    pub first_full_down : IsFullStretch mid.slots place first
    first_full_down = full_there (still_other other one (inr (omega arith)) mid (passed_down item between) (many_down item between) once)

    pub all_down : (new : Slots X) (over : X) → Passes mid new place first (passed_down between over) → Whole (passed_down item over) new
    all_down new over twice =
        let (ys, xs, long, long', order, order', lies) =
        both other one (inr (omega arith)) mid (passed_down item between) (many_down item between) once new (passed_down between over) (many_down between over) twice in
        let ordered : take count (drop i here) ++ item ∷ [] ≡ over ∷ (xs ++ ys) =
        rw (← both_there s start sound.laid_out i count place first low found least, append_assoc, order)
        (sym (append_assoc (take first (drop i here)) (between ∷ []) ys) ∙ ap (λ l. l ++ ys) order') in
        whole (passed_down item over) new xs ys long' long ordered (rw (writes_back i first xs ys v (sym long') (omega (arith, long, low, least))) at lies)

-- an item taken from an end, or put there, once the items between are passed
module _ {X : Type 0} (i : ℕ) (v : View X) (over : X) (xs : List X) where
  abbrev all : List X
  all = v.items

  pub put_first_is : (item : X) → i ≤ length all - i → i ≤ length all → passed_down item over (take i (drop 0 all)) xs → after_put_first (after_writes 0 xs v) over ≡ after_insert i item v
  put_first_is item few low order =
      let long = many_down item over (take i all) xs order in view_is (grind (arith, common_steps)) (grind (arith, common_steps)) refl

  pub put_last_is : (item : X) (behind : ℕ) → behind ≡ length all - i → i ≤ length all → length all - i ≤ i → passed_up item over (take behind (drop i all)) xs
      → after_put (after_writes i xs v) over ≡ after_insert i item v
  put_last_is item behind count low few order =
      let long = many_up item over (take behind (drop i all)) xs order in view_is (grind (arith, common_steps)) (grind (arith, common_steps)) refl

  module _ (low : i < length all) where
    -- the first one is taken, and those up to the index are passed up
    pub take_first_is : (first : X) → slice_get all 0 ≡ Some first → passed_up first over (take i (drop 0 (drop 1 all))) xs → i ≤ length all - 1 - i → after_writes 0 xs (after_take v) ≡ after_remove i v
    take_first_is first is order few =
        let there : take (suc i) all ≡ xs ++ over ∷ [] = grind (arith, common_steps, slice_get_cases) in let left = take-take i (suc i) all (omega arith) in
        let long = ap length there in view_is (grind (arith, common_steps, drop-drop, take_at)) (grind (arith, common_steps)) refl

    -- the last one is taken, and those from the index on are passed down
    pub took_last : (last : X) (behind : ℕ) → behind ≡ length all - 1 - i → slice_get all (length all - 1) ≡ Some last → passed_down last over (take behind (drop i (take (length all - 1) all))) xs
        → (slice_get all i ≡ Some over) × (length all - 1 - i ≤ i → after_writes i xs (after_pop v) ≡ after_remove i v)
    took_last last behind count is order =
        let there : drop i all ≡ over ∷ xs = grind (arith, common_steps, slice_get_cases) in let rest = drop-drop 1 i all in let long = ap length there in let are = ap (drop 1) there in
        (grind (arith, common_steps, there, slice_get_cases), λ few. view_is (grind (arith, take-take, length-drop, common_steps)) (omega (arith, long, length-drop i all)) refl)
