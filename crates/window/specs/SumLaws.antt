-- How the sum of a list changes as numbers come and go.
use Rattle.std.proofs.Common.{◌≡◌, ◌∙◌, ℕ, ℤ, pos, ◌+ℤ◌, ◌-ℤ◌, List, [], ◌∷◌, ◌++◌, Option, ap, arith, fold, option_to_list}
use Rattle.std.proofs.lemmas.Int.{ints}
use Rattle.std.proofs.lemmas.List.Sums.{fold-append}
use Rattle.ringbuffer.specs.Contents.{IsWithin, keep_last, overwritten}
use Rattle.ringbuffer.proofs.Limits.{overwritten-keep_last}
use Rattle.window.specs.Sums.{total}

-- By induction on the list: a sum that begins at a number is that much more.
fold-from : (a : ℤ) (xs : List ℤ) → fold ◌+ℤ◌ a xs ≡ a +ℤ total xs
fold-from a [] = omega (arith, ints)
fold-from a (x ∷ xs) = omega (arith, ints, fold-from (a +ℤ x) xs, fold-from (pos 0 +ℤ x) xs)

-- The first number is one summand.
pub total-cons : (x : ℤ) (xs : List ℤ) → total (x ∷ xs) ≡ x +ℤ total xs
total-cons x xs = omega (arith, ints, fold-from (pos 0 +ℤ x) xs)

-- The sum of two lists is that of both sums.
pub total-append : (xs ys : List ℤ) → total (xs ++ ys) ≡ total xs +ℤ total ys
total-append xs ys = fold-append ◌+ℤ◌ (pos 0) xs ys ∙ fold-from (total xs) ys

-- A push adds the new number, and takes away the one that gave way for it.
pub total_pushed : (limit : Option ℕ) (xs : List ℤ) (x : ℤ) → IsWithin xs limit
    → total (keep_last limit (xs ++ x ∷ [])) ≡ total xs +ℤ x -ℤ total (option_to_list (overwritten limit xs))
total_pushed limit xs x within =
    let left = option_to_list (overwritten limit xs) in
    let both = ap total (overwritten-keep_last limit xs x within) in
    omega (arith, ints, both, total-append left (keep_last limit (xs ++ x ∷ [])), total-append xs (x ∷ []), total-cons x [])
