-- What array slots end as, where one of them is lent for writing.
use Rattle.std.specs.Prelude.{ℕ}
use Rattle.std.specs.Borrow.{Lends, Fml, RattleType, MutBor}
use Rattle.std.specs.contracts.option.Option as option
use Rattle.ring_slots.specs.Slots.{Slots, changed}
use Rattle.ring_slots.specs.contracts.array.ArraySlots as slots

-- once the borrow r ends, the slots are after one change, and the slot at the place is the last value written through r
abbrev pub lends_slot : (T CAP : RattleType) → MutBor (Slots T.Denot) → ℕ → MutBor (option.the_row T).Denot → Fml
lends_slot T CAP s place r = Lends (slots.the_row T CAP) (option.the_row T) s r (λ slot. changed s.now place slot)
