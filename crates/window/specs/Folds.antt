-- The items of a window that folds, and what they combine to.
use Rattle.std.specs.Prelude.{◌≡◌, List, All, map}
use Rattle.window.specs.Laws.{combined}
use Rattle.window.specs.declared.fold_window.Kept.{Kept}

-- the items without what is kept beside them
abbrev pub items : {M : Type 0} → List (Kept M) → List M
items ks = map (λ k. k.item) ks

-- the values are valid, and combine to x
abbrev pub CombineTo : {M : Type 0} → (M → Type 0) → M → (M → M → M) → List M → M → Type 0
CombineTo valid neutral op xs x = All valid xs × (x ≡ combined neutral op xs)
