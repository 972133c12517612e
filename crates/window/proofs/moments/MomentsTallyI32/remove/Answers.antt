use Rattle.std.proofs.Common.{◌-◌, ◌≤◌, ◌^◌, refl, length, arith, rules}
use Rattle.std.specs.Prelude.{FitsSigned}
use Rattle.std.specs.Int.{w32}
use Rattle.std.proofs.lemmas.Int.{ints, to_z-of_z}
use Rattle.window.proofs.Squares.{moments_fit, moments_rest, square_within}
use Rattle.window.specs.Moments.{square}
use Rattle.window.proofs.moments.MomentsTallyI32.remove.Goals as goal

pub overflow_sub-self : goal.overflow_sub-self
overflow_sub-self c =
    let (xs, is, few) = c.requires in
    let count : length xs ≤ 2 ^ 64 = omega (arith, few) in
    let within = square_within is in
    let (fits, fits_square) = moments_fit (moments_rest {new = c.args.self.now.squares - square c.args.oldest.now} is refl (omega (arith, within))) count in
    omega (arith, ints, fits, c.from.ensures)

pub overflow_sub-self-2 : goal.overflow_sub-self-2
overflow_sub-self-2 c =
    let (xs, is, few) = c.requires in
    let in_range : FitsSigned w32 c.args.oldest.now = search rules in
    let square_is = rw (to_z-of_z w32 c.args.oldest.now in_range) at c.squared.ensures.value in
    omega (arith, square_within is, square_is)

pub returns : goal.returns
returns c = λ xs is.
    let (ys, was, few) = c.requires in
    let count : length ys ≤ 2 ^ 64 = omega (arith, few) in
    let within = square_within is in
    let (fits, fits_square) = moments_fit (moments_rest {new = c.args.self.now.squares - square c.args.oldest.now} was refl (omega (arith, square_within was))) count in
    let in_range : FitsSigned w32 c.args.oldest.now = search rules in
    let square_is = rw (to_z-of_z w32 c.args.oldest.now in_range) at c.squared.ensures.value in
    moments_rest is (omega (arith, ints, fits, c.from.ensures)) (omega (arith, within, square_is))
