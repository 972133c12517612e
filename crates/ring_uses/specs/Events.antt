-- What a contract sees of a limit on events.
use Rattle.std.specs.Prelude.{ℕ, List}

-- the times of the last events that were let through, oldest first, how many there are at most, and the span of time
pub record Events : Type 0 where
  pub times : List ℕ
  pub most : ℕ
  pub span : ℕ
