use Rattle.std.proofs.Common.{◌≡◌, arith, rules}
use Rattle.std.specs.Prelude.{unsigned_abs}
use Rattle.window.proofs.Squares.{variance_fits}
use Rattle.window.proofs.moments.WindowTally+i32+Moments+R.variance.Goals as goal

pub overflow_mul-count : goal.overflow_mul-count
overflow_mul-count g c =
    let (of_squares, of_sum) = variance_fits c.tally-moments.ensures c.requires in
    rw (c.len-count.ensures.value, c.squares.ensures) (omega (arith, of_squares))

pub overflow_mul-size : goal.overflow_mul-size
overflow_mul-size g c =
    let (of_squares, of_sum) = variance_fits c.tally-moments.ensures c.requires in
    let size_is : c.unsigned_abs-size.result ≡ unsigned_abs c.tally-moments.result.now.sum = search rules in
    rw size_is (omega (arith, of_sum))

pub difference-requires-clause-x : goal.difference-requires-clause-x
difference-requires-clause-x g c =
    let (of_squares, of_sum) = variance_fits c.tally-moments.ensures c.requires in
    rw (c.len-count.ensures.value, c.squares.ensures) (omega (arith, of_squares))

pub difference-requires-clause-y : goal.difference-requires-clause-y
difference-requires-clause-y g c =
    let (of_squares, of_sum) = variance_fits c.tally-moments.ensures c.requires in
    let size_is : c.unsigned_abs-size.result ≡ unsigned_abs c.tally-moments.result.now.sum = search rules in
    rw size_is (omega (arith, of_sum))
