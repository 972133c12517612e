-- How a ring of a fixed capacity lies in its slots.
use Rattle.std.specs.Prelude.{◌≡◌, ◌≢◌, ℕ, ◌+◌, ◌-◌, ◌%◌, ◌<◌, ◌≤◌, Bool, if◌then◌else◌, List, length, slice_index_or, slice_get, Option, None}
use Rattle.std.specs.List.{filter_map, range_with_len}
use Rattle.ring_slots.specs.Slots.{Slots, IsFullAt, slot_at}
use Rattle.ringbuffer.specs.View.{View}
use Rattle.ringbuffer.specs.declared.fixed.Span.{Span}

module _ {X : Type 0} where
  -- what the slot holds that lies k places after the start, counted round the slots
  abbrev pub slot_after : List (Option X) → ℕ → ℕ → Option X
  slot_after slots start k = slice_index_or slots ((start + k) % length slots) None

  -- the layout: the slot k places after the start holds item k, and it is empty where there is no such item
  abbrev pub SlotsHold : List (Option X) → ℕ → List X → Type 0
  SlotsHold slots start items = (k : ℕ) → k < length slots → slot_after slots start k ≡ slice_get items k

  -- what the slots hold, read once round from the start
  unfoldable pub items_from : List (Option X) → ℕ → List X
  items_from slots start = filter_map (slot_after slots start) (range_with_len 0 (length slots))

  -- what a ring shows that begins at this start in these slots, each of which may hold an item
  abbrev pub view_from : Slots X → ℕ → View X
  view_from s start = record { items = items_from s.slots start; changes = s.changes; capacity = s.capacity }

  -- each slot from a place up to another holds an item
  abbrev pub AreFull : Slots X → ℕ → ℕ → Type 0
  AreFull s from to = (place : ℕ) → from ≤ place → place < to → IsFullAt s place

  -- the slots after a call that emptied those from a place up to another, each by one change, and left the others
  pub record Empties (old new : Slots X) (from to : ℕ) : Type 0 where
    pub same_size : length new.slots ≡ length old.slots
    pub same_capacity : new.capacity ≡ old.capacity
    pub counted : new.changes ≡ old.changes + (to - from)
    pub before : (place : ℕ) → place < from → slot_at new place ≡ slot_at old place
    pub emptied : (place : ℕ) → from ≤ place → place < to → slot_at new place ≡ None
    pub behind : (place : ℕ) → to ≤ place → slot_at new place ≡ slot_at old place

-- where the items lie after `count` pushes: onto a full ring the start moves on, otherwise the length grows
abbrev pub after_pushes : Bool → Span → (count size : ℕ) → Span
after_pushes full span count size = if full then record span { start = (span.start + count) % size } else record span { len = span.len + count }

module _ {X : Type 0} where
  -- a ring is laid out in these slots from this start on, and every other slot is empty
  pub record IsLaidOut (s : Slots X) (start : ℕ) : Type 0 where
    pub start_within : start < length s.slots
    pub fit : length (items_from s.slots start) ≤ length s.slots
    pub layout : SlotsHold s.slots start (items_from s.slots start)

  -- the items lie in these slots where the span says
  pub record IsSpanOf (span : Span) (s : Slots X) : Type 0 where
    pub laid_out : IsLaidOut s span.start
    pub len : span.len ≡ length (view_from s span.start).items

  -- the items lie in these slots where the span says, and one can be pushed onto them up to a capacity
  pub record CanPush (s : Slots X) (span : Span) (capacity : ℕ) : Type 0 where
    pub laid_out : IsLaidOut s span.start
    pub len : span.len ≡ length (view_from s span.start).items
    pub some : 0 < capacity
    pub within : span.len ≤ capacity
    pub room : capacity ≤ length s.slots

  -- after a call the slots are laid out from a start of their own, are as many as before, and show this
  pub record LaysOut (old new : Slots X) (start : ℕ) (v : View X) : Type 0 where
    pub laid_out : IsLaidOut new start
    pub same_size : length new.slots ≡ length old.slots
    pub same_capacity : new.capacity ≡ old.capacity
    pub shows : view_from new start ≡ v

  -- after a call the item of one slot lies in another, by two changes, and every other slot is as it was. Both are counted from the start
  pub record Moves (old new : Slots X) (start from to : ℕ) : Type 0 where
    pub same_size : length new.slots ≡ length old.slots
    pub same_capacity : new.capacity ≡ old.capacity
    pub counted : new.changes ≡ old.changes + 2
    pub moved : slot_after new.slots start to ≡ slot_after old.slots start from
    pub left : slot_after new.slots start from ≡ None
    pub others : (k : ℕ) → k < length new.slots → k ≢ from → k ≢ to → slot_after new.slots start k ≡ slot_after old.slots start k

  -- after a call the slots are as many as before, and hold these items from the start on, with a gap of empty ones before the item at an index
  pub record LaysApart (old new : Slots X) (start index gap : ℕ) (v : View X) : Type 0 where
    pub same_size : length new.slots ≡ length old.slots
    pub same_capacity : new.capacity ≡ old.capacity
    pub counted : new.changes ≡ v.changes
    pub before : (k : ℕ) → k < index → slot_after new.slots start k ≡ slice_get v.items k
    pub emptied : (k : ℕ) → index ≤ k → k < index + gap → slot_after new.slots start k ≡ None
    pub behind : (k : ℕ) → index + gap ≤ k → k < length new.slots → slot_after new.slots start k ≡ slice_get v.items (k - gap)

  -- a ring of `len` items is laid out in these slots, within the limit that they were made for
  pub record IsSound (limit : ℕ → ℕ) (s : Slots X) (start len : ℕ) : Type 0 where
    pub laid_out : IsLaidOut s start
    pub counted : len ≡ length (items_from s.slots start)
    pub some : 0 < limit s.capacity
    pub within : len ≤ limit s.capacity
    pub room : limit s.capacity ≤ length s.slots
