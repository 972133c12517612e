use Rattle.std.proofs.Common.{◌≤◌, ◌^◌, ◌++◌, ◌∷◌, [], refl, length, length-append, arith, rules}
use Rattle.std.specs.Prelude.{FitsSigned, ◌+ℤ◌}
use Rattle.std.specs.Int.{w64, w128}
use Rattle.std.proofs.lemmas.Int.{ints}
use Rattle.window.proofs.Sums.{IsSumOf-append, IsSumOf-fits}
use Rattle.window.proofs.sum.SumTallyI64.add.Goals as goal

pub overflow_add-self : goal.overflow_add-self
overflow_add-self c =
    let (xs, is, few) = c.requires in
    let in_range : FitsSigned w64 c.args.newest.now = search rules in
    let count : length (xs ++ c.args.newest.now ∷ []) ≤ 2 ^ 64 = omega (arith, few, length-append xs (c.args.newest.now ∷ [])) in
    let fits : FitsSigned w128 (c.args.self.now.sum +ℤ c.args.newest.now) = IsSumOf-fits (IsSumOf-append is in_range refl) count in
    omega (arith, ints, fits, c.from.ensures)

pub returns : goal.returns
returns c = λ xs is.
    let (ys, was, few) = c.requires in
    let in_range : FitsSigned w64 c.args.newest.now = search rules in
    let count : length (ys ++ c.args.newest.now ∷ []) ≤ 2 ^ 64 = omega (arith, few, length-append ys (c.args.newest.now ∷ [])) in
    let fits : FitsSigned w128 (c.args.self.now.sum +ℤ c.args.newest.now) = IsSumOf-fits (IsSumOf-append was in_range refl) count in
    IsSumOf-append is in_range (omega (arith, ints, fits, c.from.ensures))
