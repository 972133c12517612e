-- 2x2 matrices modulo 2^64.
use Rattle.std.specs.Prelude.{ℕ, ◌+◌, ◌*◌, ◌%◌, ◌^◌, ◌<◌}
use Rattle.window.specs.declared.matrix.Matrix.{Matrix}

-- each entry is below 2^64
pub record HasEntries (x : Matrix) : Type 0 where
  pub a : x.a < 2 ^ 64
  pub b : x.b < 2 ^ 64
  pub c : x.c < 2 ^ 64
  pub d : x.d < 2 ^ 64

-- an entry of the product: the sum of two products, modulo 2^64
abbrev pub entry : ℕ → ℕ → ℕ → ℕ → ℕ
entry x y z w = (x * y + z * w) % 2 ^ 64

abbrev pub product : Matrix → Matrix → Matrix
product x y = record {
  a = entry x.a y.a x.b y.c;
  b = entry x.a y.b x.b y.d;
  c = entry x.c y.a x.d y.c;
  d = entry x.c y.b x.d y.d;
}

abbrev pub unit_matrix : Matrix
unit_matrix = record { a = 1; b = 0; c = 0; d = 1 }
