-- The items of a ring are two stretches of full slots: those up to the last slot, and those that go on at the first.
use Rattle.ringbuffer.proofs.Words.{common_steps, drop-drop, ◌≡◌, ℕ, ◌+◌, ◌-◌, ◌<◌, ◌≤◌, ◌%◌, List, [], ◌∷◌, ◌++◌, length, map, take, drop, get_or, Option, None, Some, refl, sym, ap, ◌∙◌, arith, slice_get, min, mod-lt, ext_get_or, get_or-take, get_or-drop, length-take, take_all, slice_get-drop, slice_get-take, Slots, HoldsStretch, IsFullStretch, View, items_from, IsLaidOut, IsSound, somes, view_from, take-add, get_or-map_some}
use Rattle.ringbuffer.proofs.SlotsHold.{contiguous_on, count_none, round}

module _ {X : Type 0} where
  somes-map : (xs : List X) → somes (map Some xs) ≡ xs
  somes-map [] = refl
  somes-map (x ∷ xs) = ap (λ l. x ∷ l) (somes-map xs)

  -- a stretch holds one list of items
  pub stretch_is : (cs : List (Option X)) (from n : ℕ) (xs ys : List X) → HoldsStretch cs from n xs → HoldsStretch cs from n ys → xs ≡ ys
  stretch_is cs from n xs ys holds holds' = sym (somes-map xs) ∙ ap somes (sym holds ∙ holds') ∙ somes-map ys

  -- a slot of a stretch holds the item of its place
  pub stretch_at : (cs : List (Option X)) (from n k : ℕ) (xs : List X) → HoldsStretch cs from n xs → k < n → get_or cs (from + k) None ≡ slice_get xs k
  stretch_at cs from n k xs holds low =
      let same = ap (λ (l : List (Option X)). get_or l k None) holds in grind (arith, same, get_or-take, get_or-drop, get_or-map_some)

  pub stretch_long : (cs : List (Option X)) (from n : ℕ) (xs : List X) → HoldsStretch cs from n xs → from + n ≤ length cs → length xs ≡ n
  stretch_long cs from n xs holds fit = let long = ap (λ (l : List (Option X)). length l) holds in grind (arith, common_steps)

-- items lie in two full stretches: some slots from the start on, and some from the first slot on
pub record InTwo {X : Type 0} (cs : List (Option X)) (start n m : ℕ) (items : List X) : Type 0 where
  pub front : IsFullStretch cs start n
  pub rest : IsFullStretch cs 0 m
  pub whole : (xs ys : List X) → HoldsStretch cs start n xs → HoldsStretch cs 0 m ys → xs ++ ys ≡ items

-- items of a ring, counted from an index, lie side by side from a place on
pub record SideBySide {X : Type 0} (s : Slots X) (start i len place : ℕ) : Type 0 where
  pub laid_out : IsLaidOut s start
  pub low : i + len ≤ length (items_from s.slots start)
  pub found : 0 < len → place ≡ (start + i) % length s.slots
  pub fit : place + len ≤ length s.slots

module _ {X : Type 0} {s : Slots X} {start i len place : ℕ} (at : SideBySide s start i len place) where
  -- they are a stretch of slots
  pub held_there : HoldsStretch s.slots place len (take len (drop i (items_from s.slots start)))
  held_there =
      let low = at.low in let fit = at.laid_out.fit in let room = at.fit in
      ext_get_or None (take len (drop place s.slots)) (map Some (take len (drop i (items_from s.slots start)))) (grind (arith, common_steps)) (λ k below. let short = length-take len (drop place s.slots) in
      grind (arith, at.laid_out.layout (i + k), contiguous_on start i place (length s.slots) k, at.found, get_or-take, get_or-drop, get_or-map_some, slice_get-take, slice_get-drop))

  pub full_there : IsFullStretch s.slots place len
  full_there = (at.fit, (_, held_there))

-- items from an index on do twice: those up to the last slot, and those that go on at the first
module _ {X : Type 0} (s : Slots X) (start : ℕ) (laid_out : IsLaidOut s start) (i count place first : ℕ) (low : i + count ≤ length (items_from s.slots start))
    (found : place ≡ (start + i) % length s.slots) (least : first ≡ min count (length s.slots - place)) where
  within : place < length s.slots
  within = let starts = laid_out.start_within in rw found (mod-lt (start + i) (omega arith))

  pub first_there : SideBySide s start i first place
  first_there = record { laid_out = laid_out; low = omega (arith, low); found = λ some. found; fit = omega (arith, within) }

  pub second_there : SideBySide s start (i + first) (count - first) 0
  second_there =
      let fit = laid_out.fit in
      record { laid_out = laid_out; low = omega (arith, low); found = λ some. round start i place first (length s.slots) found (omega (arith, within)); fit = omega (arith, low) }

  pub both_there : let items = items_from s.slots start in take first (drop i items) ++ take (count - first) (drop (i + first) items) ≡ take count (drop i items)
  both_there = let all : first + (count - first) ≡ count = omega arith in rw (← drop-drop, ← take-add, all) refl

  pub lie_in_two : InTwo s.slots place first (count - first) (take count (drop i (items_from s.slots start)))
  lie_in_two = record {
    front = full_there first_there;
    rest = full_there second_there;
    whole = λ xs ys before after.
        rw (stretch_is s.slots place first xs _ before (held_there first_there), stretch_is s.slots 0 (count - first) ys _ after (held_there second_there)) both_there;
  }

-- so do all items
module _ {X : Type 0} (s : Slots X) (start : ℕ) (laid_out : IsLaidOut s start) (len first : ℕ)
    (counted : len ≡ length (items_from s.slots start)) (least : first ≡ min len (length s.slots - start)) where
  pub all_in_two : InTwo s.slots start first (len - first) (items_from s.slots start)
  all_in_two =
      rw (take_all len (items_from s.slots start) (omega (arith, counted)))
      at (lie_in_two s start laid_out 0 len start first (omega (arith, counted)) (count_none start (length s.slots) laid_out.start_within) least)

-- the n items from an index on lie side by side from a place on
abbrev pub LieAt : {X : Type 0} → Slots X → View X → (index n place : ℕ) → Type 0
LieAt s v index n place = (index + n ≤ length v.items) × (place + n ≤ length s.slots) × HoldsStretch s.slots place n (take n (drop index v.items))

module _ {X : Type 0} {limit : ℕ → ℕ} (s : Slots X) (start len : ℕ) (sound : IsSound limit s start len) {v : View X} (shows : view_from s start ≡ v) where
  pub in_two : {first : ℕ} → first ≡ min len (length s.slots - start) → InTwo s.slots start first (len - first) v.items
  in_two least = rw (sym shows) (all_in_two s start sound.laid_out len _ sound.counted least)

  pub firsts_in_two : {count first : ℕ} → count ≤ len → first ≡ min count (length s.slots - start) → InTwo s.slots start first (count - first) (take count v.items)
  firsts_in_two few least =
      rw (sym shows) (lie_in_two s start sound.laid_out 0 _ start _ (omega (arith, few, sound.counted)) (count_none start (length s.slots) sound.laid_out.start_within) least)

  -- the items from an index on lie side by side where they reach no further than the last slot
  pub onward : (index n place : ℕ) → place ≡ (start + index) % length s.slots → (index + n ≤ len) × (n ≤ length s.slots - place) → LieAt s v index n place
  onward index n place found room =
      let at = first_there s start sound.laid_out index n place n (omega (arith, sound.counted, room)) found (omega (arith, room)) in
      rw (sym shows) (at.low, at.fit, held_there at)
