use Rattle.std.proofs.Common.{◌≤◌, ◌^◌, ◌++◌, ◌∷◌, [], refl, length, length-append, arith, rules}
use Rattle.std.specs.Prelude.{FitsSigned}
use Rattle.std.specs.Int.{w32}
use Rattle.std.proofs.lemmas.Int.{ints, to_z-of_z}
use Rattle.window.proofs.Squares.{moments_fit, moments_push}
use Rattle.window.proofs.moments.MomentsTallyI32.add.Goals as goal

pub overflow_add-self : goal.overflow_add-self
overflow_add-self c =
    let (xs, is, few) = c.requires in
    let in_range : FitsSigned w32 c.args.newest.now = search rules in
    let count : length (xs ++ c.args.newest.now ∷ []) ≤ 2 ^ 64 = omega (arith, few, length-append xs (c.args.newest.now ∷ [])) in
    let (fits, fits_square) = moments_fit (moments_push is in_range refl refl) count in
    omega (arith, ints, fits, c.from.ensures)

pub overflow_add-self-2 : goal.overflow_add-self-2
overflow_add-self-2 c =
    let (xs, is, few) = c.requires in
    let in_range : FitsSigned w32 c.args.newest.now = search rules in
    let count : length (xs ++ c.args.newest.now ∷ []) ≤ 2 ^ 64 = omega (arith, few, length-append xs (c.args.newest.now ∷ [])) in
    let (fits, fits_square) = moments_fit (moments_push is in_range refl refl) count in
    let square_is = rw (to_z-of_z w32 c.args.newest.now in_range) at c.squared.ensures.value in
    omega (arith, fits_square, square_is)

pub returns : goal.returns
returns c = λ xs is.
    let (ys, was, few) = c.requires in
    let in_range : FitsSigned w32 c.args.newest.now = search rules in
    let count : length (ys ++ c.args.newest.now ∷ []) ≤ 2 ^ 64 = omega (arith, few, length-append ys (c.args.newest.now ∷ [])) in
    let (fits, fits_square) = moments_fit (moments_push was in_range refl refl) count in
    let square_is = rw (to_z-of_z w32 c.args.newest.now in_range) at c.squared.ensures.value in
    moments_push is in_range (omega (arith, ints, fits, c.from.ensures)) (omega (arith, fits_square, square_is))
