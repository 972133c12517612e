use Rattle.std.proofs.Common.{◌≤◌, ◌^◌, ◌++◌, ◌∷◌, [], refl, length, length-append, arith, option_to_list, rules}
use Rattle.std.specs.Prelude.{FitsSigned, ◌+ℤ◌, ◌-ℤ◌}
use Rattle.std.specs.Int.{w64, w128}
use Rattle.std.proofs.lemmas.Int.{ints}
use Rattle.window.specs.Sums.{total}
use Rattle.window.proofs.Sums.{IsSumOf-append, IsSumOf-behind, IsSumOf-fits}
use Rattle.window.proofs.sum.SumTallyI64.slide.Goals as goal

pub overflow_add-self : goal.overflow_add-self
overflow_add-self c =
    let (xs, is, few) = c.requires in
    let x = c.args.newest.now in
    let in_range : FitsSigned w64 x = search rules in
    let count : length (xs ++ x ∷ []) ≤ 2 ^ 64 = omega (arith, few, length-append xs (x ∷ [])) in
    let fits : FitsSigned w128 (c.args.self.now.sum -ℤ total (option_to_list c.args.oldest.now) +ℤ x) = IsSumOf-fits (IsSumOf-append (IsSumOf-behind c.args.oldest.now is refl) in_range refl) count in
    omega (arith, ints, fits, c.change.ensures)

pub returns : goal.returns
returns c = λ xs is.
    let (ys, was, few) = c.requires in
    let x = c.args.newest.now in
    let in_range : FitsSigned w64 x = search rules in
    let count : length (ys ++ x ∷ []) ≤ 2 ^ 64 = omega (arith, few, length-append ys (x ∷ [])) in
    let fits : FitsSigned w128 (c.args.self.now.sum -ℤ total (option_to_list c.args.oldest.now) +ℤ x) = IsSumOf-fits (IsSumOf-append (IsSumOf-behind c.args.oldest.now was refl) in_range refl) count in
    IsSumOf-append (IsSumOf-behind c.args.oldest.now is refl) in_range (omega (arith, ints, fits, c.change.ensures))
