-- How the slots of an owner lie in a row of core's.
use Rattle.std.specs.Prelude.{◌≡◌, ℕ, ◌<◌, ◌≤◌, false, if◌then◌else◌, List, length, slice_index_or, slice_get, Option, None}
use Rattle.std.specs.Mem.Slots.{slots_filled, slots_items, slots_len}
use Rattle.core.specs.declared.slots.Slots.{Slots as Row}

-- the slots hold what lies in the first `len` places of the row: an item where the place is filled; and nothing after these
pub record HoldsRow {X : Type 0} (slots : List (Option X)) (row : Row X) (len : ℕ) : Type 0 where
  pub size : length slots ≡ slots_len row
  pub held : (i : ℕ) → i < len → slice_index_or slots i None ≡ (if slice_index_or (slots_filled row) i false then slice_get (slots_items row) i else None)
  pub behind : (i : ℕ) → len ≤ i → slice_index_or slots i None ≡ None
