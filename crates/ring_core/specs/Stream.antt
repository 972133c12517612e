-- What a contract sees of a writer that keeps the newest bytes.
use Rattle.std.specs.Prelude.{ℕ, List, Option}

-- all bytes that were written, and how many of them are kept
pub record Stream : Type 0 where
  pub written : List ℕ
  pub limit : Option ℕ
