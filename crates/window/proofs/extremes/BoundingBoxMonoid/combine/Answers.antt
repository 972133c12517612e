use Rattle.std.proofs.Common.{◌≡◌, of_z, rules, to_z}
use Rattle.std.specs.Int.{int_max, int_min, w64}
use Rattle.window.proofs.extremes.BoundingBoxMonoid.combine.Goals as goal

-- Each coordinate is in range, so it is read as it was written.
pub returns-in-Some-Some-clause-value : goal.returns-in-Some-Some-clause-value
returns-in-Some-Some-clause-value c =
    let x = c.in-Some-Some.x in
    let y = c.in-Some-Some.y in
    let left : to_z w64 (of_z w64 c.min.result) ≡ int_min x.left y.left = search rules in
    let bottom : to_z w64 (of_z w64 c.min-in-Some-Some.result) ≡ int_min x.bottom y.bottom = search rules in
    let right : to_z w64 (of_z w64 c.max.result) ≡ int_max x.right y.right = search rules in
    let top : to_z w64 (of_z w64 c.max-in-Some-Some.result) ≡ int_max x.top y.top = search rules in
    rw (left, bottom, right, top) (search rules)
