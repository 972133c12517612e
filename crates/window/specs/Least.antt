-- The least of some items.
use Rattle.std.specs.Prelude.{◌≡◌, ℕ, List, Some, All, false, slice_get, take, true}
use Rattle.std.specs.Ordering.{is_gt}
use Rattle.std.specs.declared.cmp.Ordering.{Ordering}

-- x is not above y
abbrev pub AtMost : {T : Type 0} → (T → T → Ordering) → T → T → Type 0
AtMost cmp x y = is_gt (cmp x y) ≡ false

-- x is below y
abbrev pub IsBelow : {T : Type 0} → (T → T → Ordering) → T → T → Type 0
IsBelow cmp x y = is_gt (cmp y x) ≡ true

-- x is below the first n items, and above none of all
pub record IsLeastFrom {T : Type 0} (cmp : T → T → Ordering) (x : T) (n : ℕ) (xs : List T) : Type 0 where
  pub below : All (IsBelow cmp x) (take n xs)
  pub at_most : All (AtMost cmp x) xs

-- x stands among the items, is below each that stands before it, and above none
pub record IsFirstLeast {T : Type 0} (cmp : T → T → Ordering) (xs : List T) (x : T) : Type 0 where
  pub place : ℕ
  pub stands : slice_get xs place ≡ Some x
  pub least : IsLeastFrom cmp x place xs

-- x stands among the items, is above each that stands before it, and below none
abbrev pub IsFirstGreatest : {T : Type 0} → (T → T → Ordering) → List T → T → Type 0
IsFirstGreatest cmp xs x = IsFirstLeast (λ y z. cmp z y) xs x
