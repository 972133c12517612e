-- Items that lie side by side in heap slots, and what a ring ends as where they are lent for writing.
use Rattle.std.specs.Prelude.{ℕ, ◌+◌, ◌-◌, ◌*◌, List, ◌++◌, length, map, nat_le, replicate, if◌then◌else◌, Option, Some, None}
use Rattle.std.specs.List.{refill}
use Rattle.ring_slots.specs.Slots.{Slots}
use Rattle.ringbuffer.specs.Layout.{items_from}

-- where `len` items of a ring begin once they lie side by side: at the first slot, if they went on there
abbrev pub contiguous_start : ℕ → ℕ → ℕ → ℕ
contiguous_start size start len = if nat_le (start + len) size then start else 0

module _ {X : Type 0} where
  -- `size` slots, where those from a place on hold these items, and all others nothing
  abbrev pub beside : ℕ → ℕ → List X → List (Option X)
  beside size start items = replicate start None ++ (map Some items ++ replicate (size - (start + length items)) None)

  -- the slots with those items side by side, with these in their place, after four changes an item
  abbrev pub made_contiguous : Slots X → ℕ → ℕ → List X → Slots X
  made_contiguous s start len xs =
      record s { slots = beside (length s.slots) (contiguous_start (length s.slots) start len) (refill len (items_from s.slots start) xs); changes = s.changes + 4 * len }
