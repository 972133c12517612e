-- What the walks over a ring have still to come.
use Rattle.std.specs.Prelude.{◌≡◌, ℕ, Bool, IsSome, Option, List, length, max, take, drop}
use Rattle.std.specs.Borrow.{Bor}
use Rattle.std.specs.Fn.{Called, CalledAt, Mut}
use Rattle.std.specs.List.{remove_range}
use Rattle.std.specs.Iterator.{YieldsFirst, YieldsFirstRef, YieldsLast, YieldsLastRef}
use Rattle.std.specs.Iterator.Runs.{YieldsInOrder, YieldsInReverse, YieldsRefsInOrder, YieldsRefsInReverse}
use Rattle.std.specs.Range.Bound.{end_index, start_index}
use Rattle.std.specs.declared.ops.Bound.{Bound}
use Rattle.ring_core.specs.Contents.{ChangesSlots}
use Rattle.ring_core.specs.declared.drain.RingBufferDrainingIterator.{RingBufferDrainingIterator}
use Rattle.ring_core.specs.declared.into_iter.RingBufferIntoIterator.{RingBufferIntoIterator}
use Rattle.ring_core.specs.declared.iter.RingBufferIterator.{RingBufferIterator}
use Rattle.ring_core.specs.declared.iter_mut.RingBufferMutIterator.{RingBufferMutIterator}

-- the part of a list from one number up to the other, or up to the list's end
abbrev pub to_come : {A : Type 0} → List A → ℕ → ℕ → List A
to_come xs front back = drop front (take back xs)

-- the items of a list at the indexes in a range, whose ends are cut to the list's length
abbrev pub items_between : {A : Type 0} → Bound ℕ → Bound ℕ → List A → List A
items_between start end xs = to_come xs (start_index start) (end_index end (length xs))

-- the items of a list at the other indexes
abbrev pub items_outside : {A : Type 0} → Bound ℕ → Bound ℕ → List A → List A
items_outside start end xs = remove_range xs (start_index start) (max (start_index start) (end_index end (length xs)))

-- R holds of what is left of a walk, and of each test of an item that calls of f answer, which leave f as it was
abbrev pub ByTest : {T F : Type 0} → Mut F (Bor T × Unit {0}) Bool → F → List T → ((T → Bool) → List T → Type 0) → Type 0
ByTest {T} {F} g f left R = (test : T → Bool) (xs : List T) → left ≡ xs → ((x : Bor T) (b : Bool) (q : F) → Called g f (x, tt) b q → (q ≡ f) × (b ≡ test x.now)) → R test xs

-- the same, where f takes a reference to what the walk gives
abbrev pub ByTestAt : {T F : Type 0} → Mut F (Bor (Bor T) × Unit {0}) Bool → F → List T → ((T → Bool) → List T → Type 0) → Type 0
ByTestAt {T} {F} g f left R = (test : T → Bool) (xs : List T) → left ≡ xs → ((x : Bor T) (b : Bool) (q : F) → CalledAt g f x b q → (q ≡ f) × (b ≡ test x.now)) → R test xs

module _ {T RB : Type 0} (contents : RB → List T) where
  -- what a reading walk has still to come
  abbrev pub iterator_to_come : RingBufferIterator T RB → List T
  iterator_to_come s = to_come (contents s.ring.now) s.front s.back

  -- reading walks give what they have still to come, in order
  abbrev pub ReadsInOrder : Type 0
  ReadsInOrder = YieldsRefsInOrder (YieldsFirstRef iterator_to_come) iterator_to_come

  -- and from the back, in reverse
  abbrev pub ReadsInReverse : Type 0
  ReadsInReverse = YieldsRefsInReverse (YieldsLastRef iterator_to_come) iterator_to_come

  -- what a cursor has still to come
  abbrev pub cursor_to_come : RingBufferMutIterator T RB → List T
  cursor_to_come s = to_come (contents s.ring.now) s.front s.back

  -- a new cursor is before all items
  abbrev pub StartsOver : RingBufferMutIterator T RB → Type 0
  StartsOver s = (s.front ≡ 0) × (s.back ≡ length (contents s.ring.now))

  -- what a drain has still to come: the contents of the ring that it holds
  abbrev pub drain_to_come : RingBufferDrainingIterator T RB → List T
  drain_to_come s = contents s.ring.now

  -- what an owning walk has still to come: the contents of its ring
  abbrev pub into_iter_to_come : RingBufferIntoIterator T RB → List T
  into_iter_to_come s = contents s.ring

module _ {T RB : Type 0} (contents : RB → List T) (limit : RB → Option ℕ) (slot_changes : RB → ℕ) where
  -- what stays of a ring as an item leaves it: its limit, and with one all slots but at most as many as items left it
  abbrev pub OnlyTakes : RB → RB → Type 0
  OnlyTakes r r' = (limit r' ≡ limit r) × (IsSome (limit r) → ChangesSlots (slot_changes r) (contents r) (slot_changes r') (contents r') 0)

  -- a drain takes the first item out of its ring, and does nothing else to it
  abbrev pub DrainsFirst : RingBufferDrainingIterator T RB → Option T → RingBufferDrainingIterator T RB → Type 0
  DrainsFirst s r t = YieldsFirst (drain_to_come contents) s r t × (t.ring.ghost_name ≡ s.ring.ghost_name) × OnlyTakes s.ring.now t.ring.now

  -- an owning walk takes the first item out of its ring, and does nothing else to it
  abbrev pub UnpacksFirst : RingBufferIntoIterator T RB → Option T → RingBufferIntoIterator T RB → Type 0
  UnpacksFirst s r t = YieldsFirst (into_iter_to_come contents) s r t × OnlyTakes s.ring t.ring

  -- drains give what their rings held, in order
  abbrev pub DrainsInOrder : Type 0
  DrainsInOrder = YieldsInOrder DrainsFirst (drain_to_come contents)

  -- owning walks give what their rings held, in order
  abbrev pub UnpacksInOrder : Type 0
  UnpacksInOrder = YieldsInOrder UnpacksFirst (into_iter_to_come contents)

  -- from its other end a drain takes the last item out of its ring, and does nothing else to it
  abbrev pub DrainsLast : RingBufferDrainingIterator T RB → Option T → RingBufferDrainingIterator T RB → Type 0
  DrainsLast s r t = YieldsLast (drain_to_come contents) s r t × (t.ring.ghost_name ≡ s.ring.ghost_name) × OnlyTakes s.ring.now t.ring.now

  -- and so does an owning walk
  abbrev pub UnpacksLast : RingBufferIntoIterator T RB → Option T → RingBufferIntoIterator T RB → Type 0
  UnpacksLast s r t = YieldsLast (into_iter_to_come contents) s r t × OnlyTakes s.ring t.ring

  -- from there drains give what their rings held, in reverse
  abbrev pub DrainsInReverse : Type 0
  DrainsInReverse = YieldsInReverse DrainsLast (drain_to_come contents)

  -- and so do owning walks
  abbrev pub UnpacksInReverse : Type 0
  UnpacksInReverse = YieldsInReverse UnpacksLast (into_iter_to_come contents)
