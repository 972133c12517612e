use Rattle.std.proofs.Common.{ℕ}
use Rattle.std.specs.Int.{IsGcd}
use Rattle.window.proofs.gcd.GcdMonoid.combine.Given as goal

-- what is the greatest common divisor now was it at first
abbrev pub invariant-loop-b : goal.invariant-loop-b
invariant-loop-b l = (g : ℕ) → IsGcd l.a l.b g → IsGcd l.self.0 l.later.0 g

abbrev pub decreases-loop-b : goal.decreases-loop-b
decreases-loop-b l = l.b
