-- What slots of plain items show, which keep no mark beside an item.
use Rattle.std.specs.Prelude.{Bool, if◌then◌else◌, List, [], ◌∷◌, Option, Some, None}

-- what each slot holds: its cell's item where its mark says that it is full, and nothing elsewhere
abbrev pub shown : {X : Type 0} → List Bool → List X → List (Option X)
shown [] xs = []
shown (full ∷ marks) [] = []
shown (full ∷ marks) (x ∷ xs) = (if full then Some x else None) ∷ shown marks xs
