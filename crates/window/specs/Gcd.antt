-- The greatest common divisor of two numbers.
use Rattle.std.specs.Prelude.{ℕ, suc, zero, ◌%◌}

-- that of a and b, where b is below n: a if b is 0, and else that of b and the remainder of a by b
unfoldable pub gcd_below : ℕ → ℕ → ℕ → ℕ
gcd_below zero a b = a
gcd_below (suc n) a zero = a
gcd_below (suc n) a (suc b) = gcd_below n (suc b) (a % suc b)

abbrev pub gcd : ℕ → ℕ → ℕ
gcd a b = gcd_below (suc b) a b
