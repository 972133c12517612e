-- What a contract sees of an undo history.
use Rattle.std.specs.Prelude.{ℕ, List}

-- the states that can be undone, oldest first, and how many are kept at most
pub record States (X : Type 0) : Type 0 where
  pub states : List X
  pub depth : ℕ
