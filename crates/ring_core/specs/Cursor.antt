-- What a step of a cursor lends, and what the cursor is once the write is done.
use Rattle.std.specs.Prelude.{ℕ, ◌+◌, ◌-◌, List, [], Option, length, min}
use Rattle.std.specs.Borrow.{Fml, LendsIf, MutBor, RattleType}
use mir.Syntax.{named}
use Rattle.ring_core.specs.declared.iter_mut.RingBufferMutIterator.{RingBufferMutIterator}
use Rattle.ring_core.specs.contracts.iter_mut.RingBufferMutIterator.{the_row}

-- the cursor between other ends, with the item at an index of its ring replaced
abbrev pub stepped : {T RB : Type 0} → (RB → ℕ → T → RB) → RingBufferMutIterator T RB → ℕ → ℕ → ℕ → T → RingBufferMutIterator T RB
stepped with_item c front back i w = record c { ring = record c.ring { now = with_item c.ring.now i w }; front = front; back = back }

module _ (T RB : RattleType) (c : MutBor (RingBufferMutIterator T.Denot RB.Denot)) where
  -- the first item to come is lent, and the cursor is past it then
  abbrev pub lends_front : (RB.Denot → ℕ → T.Denot → RB.Denot) → Option (MutBor T.Denot) → Fml
  lends_front with_item r = LendsIf (the_row (record { mir = named 1; lft = [] }) T RB) T c r (stepped with_item c.now (c.now.front + 1) c.now.back c.now.front) c.now

  -- the last item to come is lent, and the cursor ends before it afterwards
  abbrev pub lends_back : (RB.Denot → List T.Denot) → (RB.Denot → ℕ → T.Denot → RB.Denot) → Option (MutBor T.Denot) → Fml
  lends_back contents with_item r =
      let last = min c.now.back (length (contents c.now.ring.now)) - 1 in
      LendsIf (the_row (record { mir = named 1; lft = [] }) T RB) T c r (stepped with_item c.now c.now.front last last) c.now
