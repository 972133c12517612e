-- Items with a gap between them, where some were dropped from an index up to another, which is closed item by item.
use Rattle.ringbuffer.proofs.Words.{after_cut, common_steps, items_from, subst, view_from, ◌≡◌, ◌≢◌, ℕ, ◌+◌, ◌-◌, ◌%◌, ◌<◌, ◌≤◌, ◌⊎◌, List, length, Option, None, Some, refl, sym, ap, ◌∙◌, arith, get_or-set_other, get_or-set_same, if◌then◌else◌, length-set, mod-lt, nat_lt, set, slice_get, slice_get_cases, slice_get_past, add-mod_right, mod-eq_of_lt, slot_after, nat_eq, IsSome, Slots, changed, slot_at, Moves, View, IsLaidOut, LaysApart, LaysOut, append-nil, drop-length, take, drop, min, IsFullAt, after_takes, after_truncate, AreFull, Empties, ◌++◌, nat_tests}
use Rattle.ringbuffer.proofs.LaysOut.{LaysOut-items, slice_get_some}
use Rattle.ringbuffer.proofs.RepeatedSteps.{view_is}
use Rattle.ringbuffer.proofs.SlotsHold.{count_on, same_count, wrap}

-- what a slot holds once another, or itself, has changed
pub read_set : {X : Type 0} (slots : List (Option X)) (start j k : ℕ) (slot : Option X) → start < length slots → j < length slots → k < length slots
    → slot_after (set slots ((start + j) % length slots) slot) start k ≡ (if nat_eq k j then slot else slot_after slots start k)
read_set slots start j k slot within there here =
    let same = same_count start k j (length slots) within here there in
    rw (length-set slots ((start + j) % length slots) slot) (grind (arith, nat_tests, same, get_or-set_same, get_or-set_other, mod-lt))

-- an item taken from one slot and put into another
module _ {X : Type 0} (s : Slots X) (start i j from to : ℕ) (starts : start < length s.slots) (i_low : i < length s.slots) (j_low : j < length s.slots)
    (full : IsSome (slot_after s.slots start i)) (empty : slot_after s.slots start j ≡ None)
    (found : from ≡ (start + i) % length s.slots) (found' : to ≡ (start + j) % length s.slots) (mid : Slots X) (taken : mid ≡ changed s from None) where
  pub moves : (new : Slots X) (x : X) → slot_at s from ≡ Some x → new ≡ changed mid to (Some x) → Moves s new start i j
  moves new x was put =
      let same_mid : length mid.slots ≡ length s.slots = rw taken (length-set s.slots from None) in
      let read_mid : (k : ℕ) → k < length s.slots → slot_after mid.slots start k ≡ (if nat_eq k i then None else slot_after s.slots start k) =
      λ k here. rw (taken, found) (read_set s.slots start i k None starts i_low here) in
      let read : (k : ℕ) → k < length s.slots → slot_after new.slots start k ≡ (if nat_eq k j then Some x else slot_after mid.slots start k) =
      λ k here. rw (put, found', sym same_mid) (read_set mid.slots start j k (Some x) (rw same_mid starts) (rw same_mid j_low) (rw same_mid here)) in
      let apart : j ≢ i = λ same. grind (arith, full, empty, same) in let held : slot_after s.slots start i ≡ Some x = rw found at was in
      let same : length new.slots ≡ length s.slots = rw put (length-set mid.slots to (Some x) ∙ same_mid) in record {
        same_size = same;
        same_capacity = rw (put, taken) refl;
        counted = rw (put, taken) (omega arith);
        moved = grind (arith, nat_tests, read j j_low, held);
        left = grind (arith, nat_tests, read i i_low, read_mid i i_low, apart);
        others = λ k low away away'. grind (arith, nat_tests, same, read k, read_mid k, away, away');
      }

-- an item goes over the gap before an index: the last one before it, or the first after it
abbrev pub GoesOver : (index gap from to next : ℕ) → Type 0
GoesOver index gap from to next = ((from + gap ≡ to) × (from + 1 ≡ index) × (next ≡ from)) ⊎ ((to + gap ≡ from) × (to ≡ index) × (next ≡ to + 1))

module _ {X : Type 0} where
  -- what a cut leaves, and the gap, are as many as there were
  pub cut_fits : {s : Slots X} {start len : ℕ} → IsLaidOut s start → len ≡ length (items_from s.slots start) → (from to : ℕ) → from ≤ to → to ≤ len → (moved : ℕ)
      → (length (after_cut from to moved (view_from s start)).items + (to - from) ≡ len) × (len ≤ length s.slots)
  cut_fits laid_out counted from to order within moved = let fit = laid_out.fit in (grind (arith, common_steps), omega arith)

  -- what lies k places after the start where these items do, with a gap before the one at an index
  abbrev pub apart_at : List X → (index gap k : ℕ) → Option X
  apart_at xs index gap k = if nat_lt k index then slice_get xs k else (if nat_lt k (index + gap) then None else slice_get xs (k - gap))

  pub lays_apart : {s a : Slots X} {start index gap : ℕ} {v : View X} → length a.slots ≡ length s.slots → a.capacity ≡ s.capacity → a.changes ≡ v.changes → index + gap ≤ length s.slots
      → ((k : ℕ) → k < length s.slots → slot_after a.slots start k ≡ apart_at v.items index gap k) → LaysApart s a start index gap v
  lays_apart same same_capacity counted fit reads = record {
    same_size = same;
    same_capacity = same_capacity;
    counted = counted;
    before = λ k low. grind (arith, nat_tests, reads k);
    emptied = λ k late low. grind (arith, nat_tests, reads k);
    behind = λ k late low. grind (arith, nat_tests, same, reads k);
  }

  module _ {s a : Slots X} {start index gap : ℕ} {v : View X} (apart : LaysApart s a start index gap v) where
    pub reads : (k : ℕ) → k < length s.slots → slot_after a.slots start k ≡ apart_at v.items index gap k
    reads k low = let same = apart.same_size in grind (arith, nat_tests, apart.before k, apart.emptied k, apart.behind k)

    -- once an item has gone over it, the gap lies before the next index
    pub goes_over : length v.items + gap ≤ length s.slots → 0 < gap → (from to next : ℕ) → GoesOver index gap from to next → index ≤ length v.items → next ≤ length v.items
        → (b : Slots X) (w : View X) → Moves a b start from to → v.items ≡ w.items → v.changes + 2 ≡ w.changes → LaysApart s b start next gap w
    goes_over fit some from to next over low low' b w m same_items two =
        let same = m.same_size ∙ apart.same_size in
        lays_apart same (m.same_capacity ∙ apart.same_capacity) (omega (arith, m.counted, apart.counted)) (grind (arith, over)) (λ k here.
        grind (arith, nat_tests, same, over, m.moved, m.left, m.others k, reads k here, reads from))

    -- with all items on one side there is no gap between them
    module _ (laid_out : IsLaidOut s start) (fit : length v.items + gap ≤ length s.slots) (same_capacity : v.capacity ≡ s.capacity) where
      pub all_before : index ≡ length v.items → LaysOut s a start v
      all_before all =
          let same = apart.same_size in
          subst (LaysOut s a start) (view_is refl apart.counted (sym same_capacity)) (LaysOut-items s start laid_out a start v.items same apart.same_capacity laid_out.start_within (omega arith) (λ k low.
          grind (arith, nat_tests, all, same, reads k, slice_get_past)))

      pub all_behind : index ≡ 0 → LaysOut s a ((start + gap) % length s.slots) v
      all_behind none =
          let starts = laid_out.start_within in let same = apart.same_size in let size = length s.slots in let next = (start + gap) % size in
          subst (LaysOut s a next) (view_is refl apart.counted (sym same_capacity)) (LaysOut-items s start laid_out a next v.items same apart.same_capacity (mod-lt (start + gap) (omega arith)) (omega arith) (λ k low.
          let far = count_on start size (gap + k - size) (gap + k) size in let once = ap (λ n. (n + (gap + k - size)) % size) (add-mod_right start size) in
          rw (same, count_on start gap k (gap + k) size refl) (grind (arith, nat_tests, none, same, far, once, mod-eq_of_lt, reads (gap + k), reads (gap + k - size), slice_get_past))))

-- what a cut leaves is read
read_cut : {X : Type 0} (xs : List X) (from to k : ℕ) → from ≤ to → to ≤ length xs → slice_get (take from xs ++ drop to xs) k ≡ (if nat_lt k from then slice_get xs k else slice_get xs (k + (to - from)))
read_cut xs from to k order within = grind (arith, nat_tests, common_steps, slice_get_cases)

module _ {X : Type 0} (s : Slots X) (start : ℕ) (laid_out : IsLaidOut s start) (from to room : ℕ)
    (order : from ≤ to) (within : to ≤ length (items_from s.slots start)) (left : room ≡ length s.slots - start) where
  abbrev size : ℕ
  size = length s.slots

  abbrev items : List X
  items = items_from s.slots start

  -- a place is full if it lies j places after the start and item j is there
  full : (place j : ℕ) → j < to → (start + j) % size ≡ place → IsFullAt s place
  full place j low found = let fit = laid_out.fit in let held = laid_out.layout j (omega arith) in rw (sym found, held) (slice_get_some items j (omega arith))

  -- the items lie in two stretches
  pub first_emptied : AreFull s (start + min from room) (start + min to room)
  first_emptied place after low = full place (place - start) (omega arith) (grind (arith, wrap start (place - start) size laid_out.start_within))

  module _ (mid : Slots X) (first : Empties s mid (start + min from room) (start + min to room)) where
    pub second_emptied : AreFull mid (from - room) (to - room)
    second_emptied place after low =
        let fit = laid_out.fit in rw (first.before place (omega arith)) (full place (room + place) (omega arith) (grind (arith, wrap start (room + place) size laid_out.start_within)))

    module _ (new : Slots X) (second : Empties mid new (from - room) (to - room)) where
      -- the others stay, with a gap between those before and those after
      pub LaysApart-cut : LaysApart s new start from (to - from) (after_cut from to 0 (view_from s start))
      LaysApart-cut =
          let fit = laid_out.fit in let one = first.counted in let two = second.counted in
          lays_apart (second.same_size ∙ first.same_size) (second.same_capacity ∙ first.same_capacity) (omega arith) (omega arith) (λ k low.
          let held = laid_out.layout k low in let round = wrap start k size laid_out.start_within (omega arith) in
          let now : slot_after new.slots start k ≡ (if nat_lt k from then slice_get items k else (if nat_lt k to then None else slice_get items k)) =
          rw (second.same_size ∙ first.same_size) (grind (arith, nat_tests, round, held, first.before, first.emptied, first.behind, second.before, second.emptied, second.behind)) in
          grind (arith, nat_tests, now, read_cut items from to k order within, read_cut items from to (k - (to - from)) order within))

-- there is no gap where those before it or those after it are none
module _ {X : Type 0} (s new : Slots X) (start : ℕ) (laid_out : IsLaidOut s start) (from to : ℕ) (order : from ≤ to) (within : to ≤ length (items_from s.slots start))
    (apart : LaysApart s new start from (to - from) (after_cut from to 0 (view_from s start))) where
  abbrev v : View X
  v = view_from s start

  pub LaysOut-takes : from ≡ 0 → LaysOut s new ((start + to) % length s.slots) (after_takes to v)
  LaysOut-takes none =
      let whole : to - from ≡ to = omega arith in let (left, fit) = cut_fits laid_out refl from to order within 0 in
      rw whole at (subst (LaysOut s new ((start + (to - from)) % length s.slots))
      (view_is {w = after_takes to v} (ap (λ n. take n v.items ++ drop to v.items) none) (omega arith) refl) (all_behind apart laid_out (omega (arith, left, fit)) refl none))

  pub LaysOut-truncate : to ≡ length v.items → LaysOut s new start (after_truncate from v)
  LaysOut-truncate all =
      let (left, fit) = cut_fits laid_out refl from to order within 0 in
      subst (LaysOut s new start) (view_is {w = after_truncate from v} (rw (all, drop-length) (append-nil (take from v.items))) (omega arith) refl)
      (all_before apart laid_out (omega (arith, left, fit)) refl (omega (arith, left, all)))
