-- What a contract sees of a pipe.
use Rattle.std.specs.Prelude.{ℕ, List}

-- the bytes on their way, oldest first, and how many there are at most
pub record Bytes : Type 0 where
  pub bytes : List ℕ
  pub capacity : ℕ
