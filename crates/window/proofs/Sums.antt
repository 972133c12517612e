-- Sums of lists, and how a push and a dequeue change them.
use Rattle.std.proofs.Common.{◌≡◌, ℕ, ◌*◌, ◌^◌, ◌≤◌, ℤ, pos, ◌+ℤ◌, ◌-ℤ◌, ◌≤ℤ◌, neg_ℤ, List, [], ◌∷◌, ◌++◌, Option, None, Some, option_to_list, length, All, sym, arith}
use Rattle.std.specs.Prelude.{FitsSigned}
use Rattle.std.specs.Int.{w64, w128}
use Rattle.std.proofs.lemmas.Int.{ints}
use Rattle.std.proofs.lemmas.List.Elements.{All-head, All-push, All-tail}
use Rattle.std.proofs.lemmas.List.Sums.{fold_push}
use Rattle.window.specs.SumLaws.{total-cons}
use Rattle.window.specs.Sums.{IsSumOf, total}

-- By induction on the list: what lies between two bounds sums up to so many times these, or something between.
pub total-bounds : (InRange : ℤ → Type 0) (below above : ℕ) → ((x : ℤ) → InRange x → (neg_ℤ (pos below) ≤ℤ x) × (x ≤ℤ pos above)) → (xs : List ℤ) → All InRange xs
    → (neg_ℤ (pos (length xs * below)) ≤ℤ total xs) × (total xs ≤ℤ pos (length xs * above))
total-bounds InRange below above bounds [] all = (omega (arith, ints), omega (arith, ints))
total-bounds InRange below above bounds (x ∷ xs) all =
    let (low, high) = total-bounds InRange below above bounds xs (All-tail InRange x xs all) in
    let (x-low, x-high) = bounds x (All-head InRange x xs all) in
    (omega (arith, ints, total-cons x xs, low, x-low), omega (arith, ints, total-cons x xs, high, x-high))

-- At most 2^64 samples of 64 bits sum up to no less than -2^127 and to less than 2^127.
pub IsSumOf-fits : {xs : List ℤ} {sum : ℤ} → IsSumOf xs sum → length xs ≤ 2 ^ 64 → FitsSigned w128 sum
IsSumOf-fits {xs} is few =
    let (low, high) = total-bounds (FitsSigned w64) 9223372036854775808 9223372036854775807 (λ x fits. (omega (arith, ints, fits), omega (arith, ints, fits))) xs is.in_range in
    let fits : FitsSigned w128 (total xs) = omega (arith, ints, low, high) in
    rw is.summed fits

-- One more sample adds itself.
pub IsSumOf-append : {xs : List ℤ} {sum x more : ℤ} → IsSumOf xs sum → FitsSigned w64 x → more ≡ sum +ℤ x → IsSumOf (xs ++ x ∷ []) more
IsSumOf-append {xs} {sum} {x} is fits adds = record {
  summed = rw (adds, is.summed) (sym (fold_push ◌+ℤ◌ (pos 0) xs x));
  in_range = All-push (FitsSigned w64) xs x is.in_range fits;
}

-- Without the first sample the sum is so much less.
pub IsSumOf-rest : {xs : List ℤ} {sum x less : ℤ} → IsSumOf (x ∷ xs) sum → less ≡ sum -ℤ x → IsSumOf xs less
IsSumOf-rest {xs} {sum} {x} is takes = record {
  summed = omega (arith, ints, takes, is.summed, total-cons x xs);
  in_range = All-tail (FitsSigned w64) x xs is.in_range;
}

-- Behind what was in front, which is one sample at most, the sum is so much less.
pub IsSumOf-behind : {xs : List ℤ} {sum less : ℤ} (front : Option ℤ) → IsSumOf (option_to_list front ++ xs) sum → less ≡ sum -ℤ total (option_to_list front) → IsSumOf xs less
IsSumOf-behind None is takes = record { summed = omega (arith, ints, takes, is.summed); in_range = is.in_range }
IsSumOf-behind (Some x) is takes = IsSumOf-rest is (omega (arith, ints, takes))
