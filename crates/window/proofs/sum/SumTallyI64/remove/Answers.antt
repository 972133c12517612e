use Rattle.std.proofs.Common.{◌≤◌, ◌^◌, refl, length, arith}
use Rattle.std.specs.Prelude.{FitsSigned, ◌-ℤ◌}
use Rattle.std.specs.Int.{w128}
use Rattle.std.proofs.lemmas.Int.{ints}
use Rattle.window.proofs.Sums.{IsSumOf-fits, IsSumOf-rest}
use Rattle.window.proofs.sum.SumTallyI64.remove.Goals as goal

pub overflow_sub-self : goal.overflow_sub-self
overflow_sub-self c =
    let (xs, is, few) = c.requires in
    let count : length xs ≤ 2 ^ 64 = omega (arith, few) in
    let fits : FitsSigned w128 (c.args.self.now.sum -ℤ c.args.oldest.now) = IsSumOf-fits (IsSumOf-rest is refl) count in
    omega (arith, ints, fits, c.from.ensures)

pub returns : goal.returns
returns c = λ xs is.
    let (ys, was, few) = c.requires in
    let count : length ys ≤ 2 ^ 64 = omega (arith, few) in
    let fits : FitsSigned w128 (c.args.self.now.sum -ℤ c.args.oldest.now) = IsSumOf-fits (IsSumOf-rest was refl) count in
    IsSumOf-rest is (omega (arith, ints, fits, c.from.ensures))
