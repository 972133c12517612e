-- What a contract sees of the tail of a log.
use Rattle.std.specs.Prelude.{ℕ, List}

-- the bytes of each line that is kept, oldest first, and how many lines are kept at most
pub record Log : Type 0 where
  pub lines : List (List ℕ)
  pub limit : ℕ
