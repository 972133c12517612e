-- What the samples of a window add up to.
use Rattle.std.specs.Prelude.{◌≡◌, ℤ, pos, ◌+ℤ◌, List, All, FitsSigned, fold}
use Rattle.std.specs.Int.{w64}

-- the numbers of a list, added up
abbrev pub total : List ℤ → ℤ
total xs = fold ◌+ℤ◌ (pos 0) xs

-- this is the sum of some samples, each of which is an i64
pub record IsSumOf (xs : List ℤ) (sum : ℤ) : Type 0 where
  pub summed : sum ≡ total xs
  pub in_range : All (FitsSigned w64) xs
