-- What rings hold that were made of other collections.
use Rattle.std.specs.Prelude.{◌≡◌, ℕ, List, Some, length}
use Rattle.std.specs.List.{AllZip}
use Rattle.ring_core.specs.Contents.{keep_last}
use Rattle.ringbuffer.specs.View.{View}

module _ {X : Type 0} where
  -- an array ring holds the last of the items, at most as many as its capacity
  abbrev pub HoldsLast : ℕ → List X → View X → Type 0
  HoldsLast capacity xs ring = ring.items ≡ keep_last (Some capacity) xs

  -- a heap ring holds all of the items, and has room for no more
  abbrev pub HoldsAll : List X → View X → Type 0
  HoldsAll xs ring = (ring.items ≡ xs) × (ring.capacity ≡ length xs)

  -- clones of the items of a list meet P
  abbrev pub ClonesMeet : (X → X → Type 0) → List X → (List X → Type 0) → Type 0
  ClonesMeet is_clone xs P = (ys : List X) × AllZip is_clone xs ys × P ys
