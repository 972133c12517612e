-- What floating-point numbers add up to.
use Rattle.std.specs.Prelude.{◌≡◌, pos, Float, List, [], ◌∷◌, ◌++◌, from_bits, length}
use Rattle.std.specs.Float.{binary64}
use Rattle.std.specs.Float.Ieee.{add, div, neg, of_int}

-- a sum written with brackets: of nothing, of one number, or of two such sums
pub data Bracketed : Type 0 where
  nothing : Bracketed
  one : Float → Bracketed
  both : Bracketed → Bracketed → Bracketed

-- the numbers that stand in it, in order
abbrev pub numbers : Bracketed → List Float
numbers nothing = []
numbers (one x) = x ∷ []
numbers (both s t) = numbers s ++ numbers t

-- what it comes to by IEEE additions; nothing is -0.0, which added to a number changes none
abbrev pub value : Bracketed → Float
value nothing = neg (from_bits binary64 0)
value (one x) = x
value (both s t) = add binary64 (value s) (value t)

-- the numbers, in order and by some placing of brackets, add up to x
abbrev pub IsFloatSum : List Float → Float → Type 0
IsFloatSum xs x = (s : Bracketed) × (numbers s ≡ xs) × (value s ≡ x)

-- x is such a sum of the numbers, over how many they are
abbrev pub IsFloatMean : List Float → Float → Type 0
IsFloatMean xs x = (sum : Float) × IsFloatSum xs sum × (x ≡ div binary64 sum (of_int binary64 (pos (length xs))))
