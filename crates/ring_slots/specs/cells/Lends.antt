-- What an array ends as, where elements of it are lent for writing or pass along.
use Rattle.std.specs.Prelude.{◌≡◌, ℕ, ◌+◌, List, ◌++◌, drop, slice_set, take}
use Rattle.std.specs.Borrow.{Array, Lends, Fml, RattleType, MutBor}
use Rattle.std.specs.List.{refill}
use Rattle.ring_slots.specs.contracts.cells.Cells.{the_row}

-- the elements, with these in the `len` of them from a place on
abbrev pub rewritten : {X : Type 0} → List X → ℕ → ℕ → List X → List X
rewritten xs from len ws = take from xs ++ (refill len (take len (drop from xs)) ws ++ drop (from + len) xs)

-- the `len` elements from a place on are others now, and the rest as they were: `passed` says which, given those that were there
abbrev pub PassesCells : {X : Type 0} → List X → List X → ℕ → ℕ → (List X → List X → Type 0) → Type 0
PassesCells {X} old new from len passed =
    (has : List X) × passed (take len (drop from old)) has × (new ≡ take from old ++ (has ++ drop (from + len) old))

-- once the borrow r ends, the element at the place is the last value written through r, and the others are as they were
abbrev pub lends_cell : (X N : RattleType) → MutBor (the_row X N).Denot → ℕ → MutBor X.Denot → Fml
lends_cell X N cells place r =
    Lends (the_row X N) X cells r (λ x. record { xs = slice_set cells.now.xs place x })

-- once the borrow r ends, the `len` elements from a place on are the last ones written through r, and the others are as they were
abbrev pub lends_cells : (X N : RattleType) → MutBor (the_row X N).Denot → ℕ → ℕ → MutBor (List X.Denot) → Fml
lends_cells X N cells from len r =
    Lends (the_row X N) (Array X 0) cells r (λ ws. record { xs = rewritten cells.now.xs from len ws })
