-- Polynomial hashes of bytes.
use Rattle.std.specs.Prelude.{ℕ, ◌+◌, ◌*◌, ◌%◌, ◌<◌}

-- the hash of some bytes, and the power of the base for their number
pub record HashAndPower : Type 0 where
  pub hash : ℕ
  pub power : ℕ

-- both are below the prime
pub record IsReduced (x : HashAndPower) : Type 0 where
  pub hash : x.hash < 2305843009213693951
  pub power : x.power < 2305843009213693951

abbrev pub of_nothing : HashAndPower
of_nothing = record { hash = 0; power = 1 }

-- the hash of some bytes and of those that follow them
abbrev pub follow : HashAndPower → HashAndPower → HashAndPower
follow x y = record {
  hash = (x.hash * y.power + y.hash) % 2305843009213693951;
  power = (x.power * y.power + 0) % 2305843009213693951;
}
