-- What a test that picks items leaves of a ring of a fixed capacity.
use Rattle.std.specs.Prelude.{◌≡◌, Bool, length}
use Rattle.std.specs.List.Retain.{IsFiltered}
use Rattle.ring_core.specs.Contents.{ChangesSlots}
use Rattle.ringbuffer.specs.View.{View}

-- a test that started as p, and answers by R, picked the items that are left, each by two changes at most; each other one was taken, by one
pub record Retains {A P : Type 0} (R : P → A → Bool → P → Type 0) (p : P) (old new : View A) : Type 0 where
  pub filtered : IsFiltered R p old.items new.items
  pub changes : ChangesSlots old.changes old.items new.changes new.items (length new.items)
  pub same_capacity : new.capacity ≡ old.capacity
