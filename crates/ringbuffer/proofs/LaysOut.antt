-- What the inner steps of a ring do to what it shows.
use Rattle.ringbuffer.proofs.Words.{◌≡◌, ◌≢◌, ℕ, suc, ◌+◌, ◌-◌, ◌%◌, ◌<◌, ◌≤◌, List, [], ◌∷◌, ◌++◌, drop, length, take, Option, None, Some, refl, sym, ap, ◌∙◌, arith, get_or, get_or-set_other, get_or-set_same, replicate, length-set, slice_get-drop, length-append, slice_get, min, IsSome, set, mod-eq_of_lt, mod-lt, common_steps, get_or-replicate, length-drop, length-replicate, length-take, slice_get_cases, slice_get_past, Slots, slot_at, IsEmptyAt, IsFullAt, changed, View, after_pop, after_put, after_take, after_write, SlotsHold, items_from, view_from, IsLaidOut, IsSound, LaysOut, after_put_first, add-mod_right}
use Rattle.ringbuffer.proofs.RepeatedSteps.{view_is}
use Rattle.ringbuffer.proofs.SlotsHold.{items_from-SlotsHold, SlotsHold-same, count_on, same_count, wrap}

-- there is an item at an index below the length
pub slice_get_some : {A : Type 0} (xs : List A) (k : ℕ) → k < length xs → IsSome (slice_get xs k)
slice_get_some xs k low = grind (arith, common_steps, slice_get_cases)

-- one step, and then another that works on what the first one shows
pub LaysOut-then : {X : Type 0} {a b c : Slots X} {start next : ℕ} {v : View X} (step : View X → View X) → LaysOut a b start v → LaysOut b c next (step (view_from b start)) → LaysOut a c next (step v)
LaysOut-then step first second =
    record { laid_out = second.laid_out; same_size = second.same_size ∙ first.same_size; same_capacity = second.same_capacity ∙ first.same_capacity; shows = second.shows ∙ ap step first.shows }

module _ {X : Type 0} (s : Slots X) (start : ℕ) (laid_out : IsLaidOut s start) where
  -- nothing was done yet
  pub LaysOut-none : LaysOut s s start (view_from s start)
  LaysOut-none = record { laid_out = laid_out; same_size = refl; same_capacity = refl; shows = refl }

  -- items that lie in as many slots are what the ring shows then
  pub LaysOut-items : (new : Slots X) (next : ℕ) (xs : List X) → length new.slots ≡ length s.slots → new.capacity ≡ s.capacity → next < length s.slots → length xs ≤ length s.slots
      → SlotsHold new.slots next xs → LaysOut s new next (record { items = xs; changes = new.changes; capacity = s.capacity })
  LaysOut-items new next xs same cap within fit lie =
      let is : items_from new.slots next ≡ xs = items_from-SlotsHold new.slots next xs lie (omega arith) in
      record {
        laid_out = record { start_within = omega arith; fit = rw is (omega arith); layout = rw is lie };
        same_size = same;
        same_capacity = cap;
        shows = λ i. record { items = is i; changes = new.changes; capacity = cap i };
      }

  -- the start holds the first item
  pub first_held : slot_at s start ≡ slice_get (items_from s.slots start) 0
  first_held = grind (arith, laid_out.start_within, laid_out.layout 0, mod-eq_of_lt)

  -- where there is an item, the start holds one
  pub first_full : 0 < length (items_from s.slots start) → IsFullAt s start
  first_full some = rw first_held (slice_get_some (items_from s.slots start) 0 some)

  -- a change of the slot at a count, to what another list has there, if the lists agree elsewhere
  LaysOut-set : (ys : List X) (k : ℕ) (slot : Option X) → k < length s.slots → length ys ≤ length s.slots → slice_get ys k ≡ slot → ((j : ℕ) → j ≢ k → slice_get ys j ≡ slice_get (items_from s.slots start) j)
      → LaysOut s (changed s ((start + k) % length s.slots) slot) start (record { items = ys; changes = s.changes + 1; capacity = s.capacity })
  LaysOut-set ys k slot low fit here others =
      let size = length s.slots in let place = (start + k) % size in let same_size = length-set s.slots place slot in
      LaysOut-items (changed s place slot) start ys same_size refl laid_out.start_within fit (λ j within.
      let low' : j < size = rw same_size at within in let same = same_count start j k size laid_out.start_within low' low in
      rw same_size (grind (arith, laid_out.layout j low', same, others j, here, get_or-set_same, get_or-set_other, mod-lt)))

  -- an item is put into the slot after the last
  pub LaysOut-put : (new : Slots X) (place len : ℕ) (x : X) → len ≡ length (items_from s.slots start) → len < length s.slots
      → place ≡ (start + len) % length s.slots → new ≡ changed s place (Some x) → LaysOut s new start (after_put (view_from s start) x)
  LaysOut-put new place len x counted room found is =
      let items = items_from s.slots start in
      rw (is, found, counted) (LaysOut-set (items ++ x ∷ []) (length items) (Some x) (omega arith) (omega (arith, length-append items (x ∷ [])))
      (grind (arith, common_steps, slice_get_cases)) (λ j other. grind (arith, common_steps, slice_get_cases)))

  -- an item is written
  pub LaysOut-write : (k : ℕ) (x : X) → k < length (items_from s.slots start)
      → LaysOut s (changed s ((start + k) % length s.slots) (Some x)) start (after_write (view_from s start) k x)
  LaysOut-write k x there =
      let items = items_from s.slots start in let fit = laid_out.fit in
      LaysOut-set (set items k x) k (Some x) (omega arith) (rw (length-set items k x) fit) (grind (arith, common_steps, slice_get_cases)) (λ j other. grind (arith, common_steps, slice_get_cases))

  -- the last item is taken
  pub LaysOut-pop : (new : Slots X) (place last : ℕ) → last + 1 ≡ length (items_from s.slots start) → place ≡ (start + last) % length s.slots → new ≡ changed s place None
      → LaysOut s new start (after_pop (view_from s start))
  LaysOut-pop new place last counted found is =
      let items = items_from s.slots start in let fit = laid_out.fit in
      let before : length items - 1 ≡ last = omega arith in let one : s.changes + min (length items) 1 ≡ s.changes + 1 = omega arith in
      rw (is, found, before, one) (LaysOut-set (take last items) last None (omega arith) (omega (arith, length-take last items))
      (grind (arith, common_steps, slice_get_cases)) (λ j other. grind (arith, common_steps, slice_get_cases)))

  -- the first item is taken: no place after the start is the start until the count is once round
  pub LaysOut-take : (new : Slots X) (next : ℕ) → 0 < length (items_from s.slots start) → next ≡ (start + 1) % length s.slots → new ≡ changed s start None
      → LaysOut s new next (after_take (view_from s start))
  LaysOut-take new next some found is =
      let items = items_from s.slots start in let fit = laid_out.fit in let starts = laid_out.start_within in let size = length s.slots in
      let one : s.changes + min (length items) 1 ≡ s.changes + 1 = omega arith in let same_size = length-set s.slots start None in
      rw (is, found, one) (LaysOut-items (changed s start None) ((start + 1) % size) (drop 1 items) same_size refl (mod-lt (start + 1) (omega arith)) (omega (arith, length-drop 1 items)) (λ k within.
      let low : k < size = rw same_size at within in
      rw (same_size, count_on start 1 k (suc k) size (omega arith))
      (grind (arith, laid_out.layout (suc k), wrap start (suc k) size starts low, get_or-set_other, get_or-set_same, slice_get-drop 1 k items, slice_get_past))))

  -- an item is put into the slot before the first
  pub LaysOut-put_first : (new : Slots X) (place : ℕ) (x : X) → length (items_from s.slots start) < length s.slots → place ≡ (start + (length s.slots - 1)) % length s.slots
      → new ≡ changed s place (Some x) → LaysOut s new place (after_put_first (view_from s start) x)
  LaysOut-put_first new place x room found is =
      let items = items_from s.slots start in let size = length s.slots in let starts = laid_out.start_within in let same_size = length-set s.slots place (Some x) in
      let placed : place < size = rw found (mod-lt (start + (size - 1)) (omega arith)) in let before = wrap start (size - 1) size starts (omega arith) in
      rw is (LaysOut-items (changed s place (Some x)) place (x ∷ items) same_size refl placed (omega arith) (λ k within.
      let low : k < size = rw same_size at within in let round = wrap place k size placed (omega arith) in let next = wrap start (k - 1) size starts (omega arith) in
      rw same_size (grind (arith, laid_out.layout (k - 1), found, before, round, next, placed, get_or-set_same, get_or-set_other, slice_get-drop 1 (k - 1) (x ∷ items), slice_get_cases))))

  -- the place after the last, seen from the start or from the next
  pub same_place : (len : ℕ) → 0 < len → len ≤ length s.slots → (start + len) % length s.slots ≡ ((start + 1) % length s.slots + (len - 1)) % length s.slots
  same_place len some fit = sym (count_on start 1 (len - 1) len (length s.slots) (omega arith))

  -- past the last item the slots are empty
  pub past_empty : (place k : ℕ) → length (items_from s.slots start) ≤ k → k < length s.slots → place ≡ (start + k) % length s.slots → IsEmptyAt s place
  past_empty place k past low found =
      rw found (mod-lt (start + k) (omega arith), laid_out.layout k low ∙ slice_get_past (items_from s.slots start) k past)

-- an item is put after the last once the first was taken: counted from the next start, the place after the last has not moved
pub LaysOut-over : {X : Type 0} {s taken : Slots X} {start next place len : ℕ} → IsLaidOut s start → len ≡ length (items_from s.slots start) → 0 < len → place ≡ (start + len) % length s.slots
    → next ≡ (start + 1) % length s.slots → LaysOut s taken next (after_take (view_from s start))
    → IsEmptyAt taken place × ((new : Slots X) (x : X) → new ≡ changed taken place (Some x) → LaysOut s new next (after_put (after_take (view_from s start)) x))
LaysOut-over {s = s} {taken = taken} {start = start} {next = next} {place = place} {len = len} laid_out counted some found rotated after =
    let left = length (items_from taken.slots next) in let fit = laid_out.fit in
    let count : left ≡ len - 1 = ap (λ (v : View _). length v.items) after.shows ∙ omega (arith, length-drop 1 (items_from s.slots start)) in
    let room : left < length taken.slots = omega (arith, count, after.same_size) in
    let again : place ≡ (next + left) % length taken.slots = rw (after.same_size, count, rotated) (found ∙ same_place s start laid_out len some (omega arith)) in
    (past_empty taken next after.laid_out place left (omega arith) room again, λ new x is. LaysOut-then (λ v. after_put v x) after (LaysOut-put taken next after.laid_out new place left x refl room again is))

-- in a ring that fills its slots an item is put in the place of the oldest
pub LaysOut-replace : {X : Type 0} (s new : Slots X) (start : ℕ) (x : X) → IsLaidOut s start → length (items_from s.slots start) ≡ length s.slots → new ≡ changed (changed s start None) start (Some x)
    → LaysOut s new ((start + 1) % length s.slots) (after_put (after_take (view_from s start)) x)
LaysOut-replace s new start x laid_out full is =
    let size = length s.slots in let items = items_from s.slots start in let starts = laid_out.start_within in let some : 0 < length items = omega arith in
    let round : (start + length items) % size ≡ start = ap (λ n. (start + n) % size) full ∙ add-mod_right start size ∙ mod-eq_of_lt starts in
    (LaysOut-over laid_out refl some (sym round) refl (LaysOut-take s start laid_out (changed s start None) ((start + 1) % size) some refl refl)).1 new x is

-- items that lie in as many slots, and are no more than the limit, are a sound ring
pub IsSound-after : {X : Type 0} {limit : ℕ → ℕ} {old new : Slots X} {start next len held : ℕ} {v : View X} → IsSound limit old start held → LaysOut old new next v
    → len ≡ length v.items → len ≤ limit old.capacity → IsSound limit new next len
IsSound-after {limit = limit} sound after counted within =
    let same = ap limit after.same_capacity in record {
      laid_out = after.laid_out;
      counted = counted ∙ ap (λ (w : View _). length w.items) (sym after.shows);
      some = rw same sound.some;
      within = rw same within;
      room = rw (same, after.same_size) sound.room;
    }

-- in empty slots no item lies
module _ {X : Type 0} (s : Slots X) (start : ℕ) (empty : s.slots ≡ replicate (length s.slots) None) where
  none_held : SlotsHold s.slots start []
  none_held k low =
      let place = (start + k) % length s.slots in
      ap (λ (places : List (Option X)). get_or places place None) empty ∙ get_or-replicate (length s.slots) place None None (mod-lt (start + k) (omega arith))

  pub items_from-empty : items_from s.slots start ≡ []
  items_from-empty = items_from-SlotsHold s.slots start [] none_held (omega arith)

  pub IsLaidOut-empty : start < length s.slots → IsLaidOut s start
  IsLaidOut-empty within = record { start_within = within; fit = rw items_from-empty (omega arith); layout = rw items_from-empty none_held }

-- where a ring shows no item, every slot is empty
pub all_empty : {X : Type 0} (s : Slots X) (start : ℕ) → IsLaidOut s start → items_from s.slots start ≡ [] → s.slots ≡ replicate (length s.slots) None
all_empty s start laid_out none =
    let size = length s.slots in let long = length-replicate size None in
    SlotsHold-same s.slots start laid_out.start_within (replicate size None) [] (rw none at laid_out.layout) (none_held (record s { slots = replicate size None }) start (rw long refl)) long

-- an empty ring may start at the first slot
pub restart : {X : Type 0} (old new : Slots X) (start : ℕ) (v : View X) → LaysOut old new start v → v.items ≡ [] → LaysOut old new 0 v
restart old new start v b none =
    let empty = all_empty new start b.laid_out (ap (λ (w : View _). w.items) b.shows ∙ none) in let starts = b.laid_out.start_within in
    let shows = view_is (items_from-empty new 0 empty ∙ sym none) (ap (λ (w : View _). w.changes) b.shows) (ap (λ (w : View _). w.capacity) b.shows) in
    record { laid_out = IsLaidOut-empty new 0 empty (omega arith); same_size = b.same_size; same_capacity = b.same_capacity; shows = shows }
