-- What whole numbers and their squares add up to.
use Rattle.std.specs.Prelude.{◌≡◌, ℕ, ◌+◌, ◌*◌, ℤ, List, [], ◌∷◌, All, FitsSigned, unsigned_abs}
use Rattle.std.specs.Int.{w32}
use Rattle.window.specs.Sums.{total}

-- a number times itself
abbrev pub square : ℤ → ℕ
square x = unsigned_abs x * unsigned_abs x

-- the squares of a list's numbers, added up
abbrev pub sum_of_squares : List ℤ → ℕ
sum_of_squares [] = 0
sum_of_squares (x ∷ xs) = square x + sum_of_squares xs

-- these are the sums of some samples, each of which is an i32, and of their squares
pub record AreMomentsOf (xs : List ℤ) (sum : ℤ) (squares : ℕ) : Type 0 where
  pub summed : sum ≡ total xs
  pub squared : squares ≡ sum_of_squares xs
  pub in_range : All (FitsSigned w32) xs
