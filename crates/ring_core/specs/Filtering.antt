-- What filters of a ring's items leave.
use Rattle.std.specs.Prelude.{◌≡◌, ℕ, Bool, true, false, List, [], ◌∷◌, ◌++◌, IfSome, slice_get, take}
use Rattle.std.specs.List.{FoldsTo}
use Rattle.std.specs.List.Retain.{IsFiltered}

-- a test that started as p, and answers by R, picked from a beginning of the items, up to one that it picked and that was
-- refused: the items after that one stayed, and those picked before it came after them
abbrev pub FiltersPart : {A P : Type 0} → (P → A → Bool → P → Type 0) → P → List A → List A → A → Type 0
FiltersPart {A} R p old new refused = (asked picked rest : List A) × (old ≡ asked ++ refused ∷ rest)
    × IsFiltered R p (asked ++ refused ∷ []) (picked ++ refused ∷ []) × (new ≡ rest ++ picked)

-- a test that started as p, and answers by R, passed the first n items in turn, and failed the next if there is one
abbrev pub PassesFirst : {A P : Type 0} → (P → A → Bool → P → Type 0) → P → ℕ → List A → Type 0
PassesFirst {A} {P} R p n xs = (q : P) × FoldsTo (λ f x g. R f x true g) p (take n xs) q × IfSome (slice_get xs n) (λ x. (last : P) × R q x false last)
