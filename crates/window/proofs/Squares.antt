-- Sums of squares, and how an item that comes or goes changes both sums.
use Rattle.std.proofs.Common.{◌≡◌, ℕ, ◌+◌, ◌*◌, ◌^◌, ◌<◌, ◌≤◌, ℤ, pos, ◌+ℤ◌, ◌-ℤ◌, ◌≤ℤ◌, neg_ℤ, List, [], ◌∷◌, ◌++◌, length, All, sym, arith}
use Rattle.std.specs.Prelude.{FitsSigned, unsigned_abs}
use Rattle.std.specs.Int.{w32, w128}
use Rattle.std.proofs.Math.Nat.{mul-le-mul}
use Rattle.std.proofs.lemmas.Int.{ints}
use Rattle.std.proofs.lemmas.List.Elements.{All-head, All-push, All-tail}
use Rattle.std.proofs.lemmas.List.Sums.{fold_push}
use Rattle.window.proofs.Sums.{total-bounds}
use Rattle.window.specs.SumLaws.{total-cons}
use Rattle.window.specs.Sums.{total}
use Rattle.window.specs.Moments.{AreMomentsOf, square, sum_of_squares}

square-small : (x : ℤ) → FitsSigned w32 x → square x ≤ 4611686018427387904
square-small x fits = let small : unsigned_abs x ≤ 2147483648 = omega (arith, ints, fits) in mul-le-mul small small

-- By induction: the last number's square is one summand.
pub squares_push : (xs : List ℤ) (x : ℤ) → sum_of_squares (xs ++ x ∷ []) ≡ sum_of_squares xs + square x
squares_push [] x = omega arith
squares_push (y ∷ xs) x = omega (arith, squares_push xs x)

squares-bound : (xs : List ℤ) → All (FitsSigned w32) xs → sum_of_squares xs ≤ 4611686018427387904 * length xs
squares-bound [] all = omega arith
squares-bound (x ∷ xs) all = omega (arith, squares-bound xs (All-tail (FitsSigned w32) x xs all), square-small x (All-head (FitsSigned w32) x xs all))

sum-bounds : (xs : List ℤ) → All (FitsSigned w32) xs → (neg_ℤ (pos (length xs * 2147483648)) ≤ℤ total xs) × (total xs ≤ℤ pos (length xs * 2147483647))
sum-bounds = total-bounds (FitsSigned w32) 2147483648 2147483647 (λ x fits. (omega (arith, ints, fits), omega (arith, ints, fits)))

-- Both sums fit.
pub moments_fit : {xs : List ℤ} {sum : ℤ} {squares : ℕ} → AreMomentsOf xs sum squares → length xs ≤ 2 ^ 64 → FitsSigned w128 sum × (squares < 2 ^ 128)
moments_fit {xs} is few =
    let (low, high) = sum-bounds xs is.in_range in
    let fits : FitsSigned w128 (total xs) = omega (arith, ints, low, high) in
    (rw is.summed fits, omega (arith, is.squared, squares-bound xs is.in_range))

pub moments_push : {xs : List ℤ} {sum x more : ℤ} {squares new : ℕ} → AreMomentsOf xs sum squares → FitsSigned w32 x → more ≡ sum +ℤ x → new ≡ squares + square x → AreMomentsOf (xs ++ x ∷ []) more new
moments_push {xs} {sum} {x} is fits adds adds_square = record {
  summed = rw (adds, is.summed) (sym (fold_push ◌+ℤ◌ (pos 0) xs x));
  squared = rw (adds_square, is.squared) (sym (squares_push xs x));
  in_range = All-push (FitsSigned w32) xs x is.in_range fits;
}

pub moments_rest : {xs : List ℤ} {sum x less : ℤ} {squares new : ℕ} → AreMomentsOf (x ∷ xs) sum squares → less ≡ sum -ℤ x → new + square x ≡ squares → AreMomentsOf xs less new
moments_rest {xs} {sum} {x} is takes takes_square = record {
  summed = omega (arith, ints, takes, is.summed, total-cons x xs);
  squared = omega (arith, takes_square, is.squared);
  in_range = All-tail (FitsSigned w32) x xs is.in_range;
}

-- What goes was one summand.
pub square_within : {xs : List ℤ} {sum x : ℤ} {squares : ℕ} → AreMomentsOf (x ∷ xs) sum squares → square x ≤ squares
square_within is = omega (arith, is.squared)

-- Of at most 2^32 samples the parts of the variance's numerator are at most 2^126.
pub variance_fits : {xs : List ℤ} {sum : ℤ} {squares : ℕ} → AreMomentsOf xs sum squares → length xs ≤ 4294967296
    → (length xs * squares ≤ 85070591730234615865843651857942052864) × (square sum ≤ 85070591730234615865843651857942052864)
variance_fits {xs} {sum} {squares} is few =
    let (low, high) = sum-bounds xs is.in_range in
    let small : squares ≤ 19807040628566084398385987584 = omega (arith, is.squared, squares-bound xs is.in_range, few) in
    let size : unsigned_abs sum ≤ 9223372036854775808 = rw is.summed (omega (arith, ints, low, high, few)) in
    (mul-le-mul few small, mul-le-mul size size)
