use Rattle.std.proofs.Common.{List, ◌++◌, Float, refl}
use Rattle.std.specs.Float.{binary64}
use Rattle.std.specs.Float.Ieee.{add}
use Rattle.window.specs.FloatSums.{Bracketed, IsFloatSum}
use Rattle.window.proofs.float_sum.SummandKeepsFoldF64.combine.Goals as goal

-- Two sums are added in brackets.
sum-append : {xs ys : List Float} {x y : Float} → IsFloatSum xs x → IsFloatSum ys y → IsFloatSum (xs ++ ys) (add binary64 x y)
sum-append (s, of_s, is_s) (t, of_t, is_t) = (Bracketed.both s t, rw (of_s, of_t) refl, rw (is_s, is_t) refl)

pub returns-clause-both : goal.returns-clause-both
returns-clause-both c = λ xs ys. sum-append

pub returns-clause-earlier : goal.returns-clause-earlier
returns-clause-earlier c = (Bracketed.one c.args.earlier.now, refl, refl)

pub returns-clause-later : goal.returns-clause-later
returns-clause-later c = (Bracketed.one c.args.later.now, refl, refl)
