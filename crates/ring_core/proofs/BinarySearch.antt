-- What a search among the items of a ring has found out.
use Rattle.ring_core.proofs.Words.{◌≡◌, ℕ, ◌+◌, ◌<◌, Bool, true, false, List, [], ◌∷◌, length, slice_get, Some, arith, slice_get_within, get_or_from_slice_get}
use denote.Param.Members.{Called, Mut}
use Rattle.std.specs.Fn.{AlwaysReturns}
use Rattle.std.specs.List.{AllWithin, HoldsAt}
use Rattle.std.specs.List.Sorted.{IsNonDecreasingBy, IsPartitionPoint, IsPartitionedBy}
use Rattle.std.specs.Ordering.{is_eq, is_lt, ordering_index}
use Rattle.std.proofs.Common.{Ordering, Less, Greater}

-- a call answers, and so will those after it
pub answers_next : {F X R : Type 0} (g : Mut F X R) (P : X → R → Type 0) (f : F) (a : X) (r : R) (f' : F) → Called g f a r f' → AlwaysReturns g P f
    → P a r × AlwaysReturns g P f'
answers_next g P f a r f' call always = ((always.at (a ∷ []) r f' call).0, record { at = λ more. (always.at (a ∷ more) r f' call).1 })

module _ {A : Type 0} where
  -- the item read at a place is the one there
  pub holds_at : (P : A → Type 0) (xs : List A) (i : ℕ) (x : A) → slice_get xs i ≡ Some x → P x → HoldsAt P xs i
  holds_at P xs i x read holds d = rw (get_or_from_slice_get xs i x d read) holds

  module _ (p : A → Bool) (xs : List A) where
    -- where those that pass come first, all below `low` pass, and none from `high` on
    pub record Halves (low high : ℕ) : Type 0 where
      pub below : IsPartitionedBy p xs → AllWithin (λ y. p y ≡ true) xs 0 low
      pub above : IsPartitionedBy p xs → AllWithin (λ y. p y ≡ false) xs high (length xs)

    pub whole : Halves 0 (length xs)
    whole = record { below = λ parted k d from to. absurd (omega arith); above = λ parted k d from to. absurd (omega arith) }

  module _ {p : A → Bool} {xs : List A} {low high : ℕ} (at : Halves p xs low high) (middle : ℕ) (x : A) (read : slice_get xs middle ≡ Some x) where
    within : middle < length xs
    within = slice_get_within xs middle x read

    -- an item that passes shows that all before it do
    pub passed : p x ≡ true → Halves p xs (middle + 1) high
    passed passes = record { below = λ parted k d from to. parted k middle d (omega arith) within (holds_at (λ y. p y ≡ true) xs middle x read passes d); above = at.above }

    -- and one that fails, that none after it does
    pub failed : p x ≡ false → Halves p xs low middle
    failed fails = record {
      below = at.below;
      above = λ parted k d from to. grind (arith, holds_at (λ y. p y ≡ false) xs middle x read fails d, parted middle k d from to);
    }

-- i is the place of the first item that is not less than the one searched for, where the items rise
module _ {A : Type 0} (order : A → Ordering) (xs : List A) (i : ℕ)
    (point : IsPartitionedBy (λ y. is_lt (order y)) xs → IsPartitionPoint (λ y. is_lt (order y) ≡ true) (λ y. is_lt (order y) ≡ false) xs i)
    (rise : IsNonDecreasingBy (λ y. ordering_index (order y)) xs) where
  parted : IsPartitionedBy (λ y. is_lt (order y)) xs
  parted j k d upto in_range lt = grind (arith, rise j k d upto in_range)

  pub less_before : AllWithin (λ y. order y ≡ Less) xs 0 i
  less_before k d from to = grind (arith, (point parted).0 k d from to)

  -- if the item there is not equal either, or there is none, all from there on are greater
  pub greater_from : (i < length xs → HoldsAt (λ y. is_eq (order y) ≡ false) xs i) → AllWithin (λ y. order y ≡ Greater) xs i (length xs)
  greater_from unequal k d from to = grind (arith, rise i k d from to, (point parted).1 i d (omega arith) (omega arith), unequal (omega arith) d)
