-- What a window keeps beside its items.
use Rattle.std.specs.Prelude.{ℕ, ◌≤◌, List, [], ◌∷◌, drop, length, map, take}

module _ {K M : Type 0} (item_of after_of : K → M) (folds_to : List M → M → Type 0) where
  -- beside each item stands a fold of those after it
  abbrev pub AreFolded : List K → Type 0
  AreFolded [] = Unit {0}
  AreFolded (k ∷ ks) = folds_to (map item_of ks) (after_of k) × AreFolded ks

  -- the `folded` oldest items are folded among themselves; both folds are kept
  pub record HoldsFolds (ks : List K) (folded : ℕ) (older newer : M) : Type 0 where
    pub within : folded ≤ length ks
    pub are_folded : AreFolded (take folded ks)
    pub older_is : folds_to (map item_of (take folded ks)) older
    pub newer_is : folds_to (map item_of (drop folded ks)) newer
