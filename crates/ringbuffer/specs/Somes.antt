-- The items of options.
use Rattle.std.specs.Prelude.{List, Option}
use Rattle.std.specs.List.{filter_map}

-- the items of options that hold one
abbrev pub somes : {X : Type 0} → List (Option X) → List X
somes options = filter_map (λ o. o) options
