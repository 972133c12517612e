-- What a contract sees of a bounded queue of jobs.
use Rattle.std.specs.Prelude.{ℕ, List}

pub record Jobs (T : Type 0) : Type 0 where
  -- those that wait, the next one first
  pub jobs : List T
  -- how many may wait
  pub most : ℕ
