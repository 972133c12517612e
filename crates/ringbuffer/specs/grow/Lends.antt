-- What a growable ring lends.
use Rattle.std.specs.Prelude.{ℕ, ◌%◌, List, length, slice_set}
use Rattle.std.specs.List.{refill}
use Rattle.std.specs.Borrow.{Array, Fml, Lends, MutBor, RattleType}
use Rattle.std.specs.declared.collections.VecDeque.{VecDeque}
use Rattle.std.specs.contracts.collections.VecDeque as deque
use Rattle.std.specs.declared.alloc.Global.{Global}
use Rattle.std.specs.contracts.alloc.Global as global
use Rattle.std.specs.contracts.impls.GlobalAllocator.TheImpl.{ghosts}
use Rattle.ringbuffer.specs.contracts.grow.GrowableAllocRingBuffer.{the_row}

-- the ring ends with the item at a position replaced
abbrev pub lends_item : (T : RattleType) → MutBor (List T.Denot) → ℕ → MutBor T.Denot → Fml
lends_item T ring position r = Lends (the_row T) T ring r (slice_set ring.now (position % length ring.now))

-- the ring ends as what the deque holds
abbrev pub lends_deque : (T : RattleType) → MutBor (List T.Denot) → MutBor (VecDeque T.Denot Global) → Fml
lends_deque T ring r = Lends (the_row T) (deque.the_row T global.the_row ghosts) ring r (λ q. q.items)

-- once the borrow r ends, the ring holds the last items written through r, of which there are as many as before
abbrev pub lends_items : (T : RattleType) → MutBor (List T.Denot) → MutBor (List T.Denot) → Fml
lends_items T ring r = Lends (the_row T) (Array T 0) ring r (refill (length ring.now) ring.now)
