-- What a window keeps to know its least item.
use Rattle.std.specs.Prelude.{◌≡◌, ◌⊎◌, ℕ, suc, ◌+◌, ◌≤◌, List, [], ◌∷◌, ◌++◌, Option, Some, All, drop, length, map, option_to_list, slice_get}
use Rattle.std.specs.declared.cmp.Ordering.{Ordering}
use Rattle.window.specs.Least.{AtMost, IsBelow, IsLeastFrom}
use Rattle.window.specs.declared.monotonic_queue.Candidate.{Candidate}

abbrev pub item_on : {T : Type 0} → Candidate T → T
item_on r = r.item

-- the items without what is kept beside them
abbrev pub items_on : {T : Type 0} → List (Candidate T) → List T
items_on rs = map item_on rs

-- how many items go up to the first that is named and with it; 0 where none is
abbrev pub next : List ℕ → ℕ
next [] = 0
next (d ∷ ds) = suc d

-- The first item named is the least of all, and stands behind d others; the second is the least of those after it,
-- and so on, and the last one named is the newest. Each but the first says how far it stands behind the one before it; the
-- first may say more by a number, as many items as have left since. Each says how far ahead the next one is, and the last 0.
abbrev pub IsMonotonicQueue : {T : Type 0} → (T → T → Ordering) → ℕ → List ℕ → List (Candidate T) → Type 0
IsMonotonicQueue cmp more [] rs = rs ≡ []
IsMonotonicQueue {T} cmp more (d ∷ ds) rs =
    (r : Candidate T) × (slice_get rs d ≡ Some r) × (r.behind ≡ suc d + more) × (r.ahead ≡ next ds) × IsLeastFrom cmp r.item d (items_on rs) × IsMonotonicQueue cmp 0 ds (drop (suc d) rs)

-- some list of places is the queue, and this is its first place, counted from 1; the comparisons made and the items named are no
-- more than a number
pub record HoldsMonotonicQueue {T : Type 0} (cmp : T → T → Ordering) (rs : List (Candidate T)) (first compared most : ℕ) : Type 0 where
  pub places : List ℕ
  pub more : ℕ
  pub is_queue : IsMonotonicQueue cmp more places rs
  pub first_is : first ≡ next places
  pub counted : compared + length places ≤ most

-- a queue whose first item says how many stand before it, and no more
pub record IsRanked {T : Type 0} (cmp : T → T → Ordering) (rs : List (Candidate T)) (first compared most : ℕ) : Type 0 where
  pub places : List ℕ
  pub is_queue : IsMonotonicQueue cmp 0 places rs
  pub first_is : first ≡ next places
  pub counted : compared + length places ≤ most

-- an item, if there is one, stood before these while the queue was kept
abbrev pub HeldBehind : {T : Type 0} → (T → T → Ordering) → Option (Candidate T) → List (Candidate T) → ℕ → ℕ → ℕ → Type 0
HeldBehind cmp old rs first compared most = HoldsMonotonicQueue cmp (option_to_list old ++ rs) first compared most

-- the candidate looks ahead to the next item named, if there is one
abbrev pub LeadsTo : {T : Type 0} → Candidate T → List ℕ → Type 0
LeadsTo r [] = Unit {0}
LeadsTo r (d ∷ ds) = r.ahead ≡ suc d

-- a queue whose last k items are above x: of these none is named any more
abbrev pub IsPopped : {T : Type 0} → (T → T → Ordering) → T → ℕ → ℕ → List ℕ → List (Candidate T) → Type 0
IsPopped cmp x k more [] rs = (length rs ≡ k) × All (IsBelow cmp x) (items_on rs)
IsPopped {T} cmp x k more (d ∷ ds) rs =
    (r : Candidate T) × (slice_get rs d ≡ Some r) × (r.behind ≡ suc d + more) × LeadsTo r ds × IsLeastFrom cmp r.item d (items_on rs) × IsPopped cmp x k 0 ds (drop (suc d) rs)

-- the newest is below the last items before it, all but the `left` first ones, and of these none is named any more
pub record Reaches {T : Type 0} (cmp : T → T → Ordering) (all : List (Candidate T)) (first left compared most : ℕ) : Type 0 where
  pub rs : List (Candidate T)
  pub r : Candidate T
  pub all_is : all ≡ rs ++ r ∷ []
  pub k : ℕ
  pub left_is : left + k ≡ length rs
  pub places : List ℕ
  pub more : ℕ
  pub is_popped : IsPopped cmp r.item k more places rs
  pub first_is : (places ≡ [] → ⊥) → first ≡ next places
  pub counted : compared + length places ≤ most

-- and the last that is still named is not above it, if there is one
abbrev pub Stops : {T : Type 0} → (T → T → Ordering) → List (Candidate T) → ℕ → ℕ → ℕ → ℕ → Type 0
Stops {T} cmp all first left compared most =
    (so : Reaches cmp all first left compared most) × ((so.places ≡ []) ⊎ ((p : ℕ) × (last : Candidate T) × (p + 1 + so.k ≡ length so.rs) × (slice_get so.rs p ≡ Some last) × AtMost cmp last.item so.r.item))
