-- What the owner of slots ends as, where one of them changes or some are lent.
use Rattle.std.specs.Prelude.{ℕ, List, Option, Some, slice_set}
use Rattle.std.specs.Borrow.{Array, Lends, Fml, RattleType, MutBor}
use Rattle.ring_slots.specs.Slots.{brought_first, filled, moved_down, refilled}
use Rattle.ring_slots.specs.declared.block.Owner.{Owner}
use Rattle.ring_slots.specs.contracts.block.Owner.{the_row}

-- the slots after one change
abbrev pub owner_with : {X : Type 0} → Owner X → ℕ → Option X → Owner X
owner_with s place slot = record s { slots = slice_set s.slots place slot }

-- the slots with these items in those from a place on
abbrev pub owner_with_items : {X : Type 0} → Owner X → ℕ → List X → Owner X
owner_with_items s place xs = record s { slots = filled s.slots place xs }

-- the slots with those from a place on moved down to another
abbrev pub owner_with_moved_down : {X : Type 0} → Owner X → ℕ → ℕ → Owner X
owner_with_moved_down s from to = record s { slots = moved_down s.slots from to }

-- the slots with those from a place on brought to the first, and the first `len` after them
abbrev pub owner_with_brought_first : {X : Type 0} → Owner X → ℕ → ℕ → Owner X
owner_with_brought_first s from len = record s { slots = brought_first s.slots from len }

-- once the borrow r ends, the slot at the place holds the last value written through r
abbrev pub owner_lends : (R : RattleType) → MutBor (Owner R.Denot) → ℕ → MutBor R.Denot → Fml
owner_lends R s place r = Lends (the_row R) R s r (λ x. owner_with s.now place (Some x))

-- once the borrow r ends, the `len` slots from a place on hold the last items written through r
abbrev pub owner_lends_stretch : (R : RattleType) → MutBor (Owner R.Denot) → ℕ → ℕ → MutBor (List R.Denot) → Fml
owner_lends_stretch R s from len r = Lends (the_row R) (Array R 0) s r (λ xs. record s.now { slots = refilled s.now.slots from len xs })
