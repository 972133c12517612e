-- What is at the ends of a list that was rotated, so that the items from one index up to another are its first or its last.
use Rattle.ring_core.proofs.Words.{◌≡◌, ℕ, ◌+◌, ◌-◌, ◌≤◌, List, ◌++◌, length, take, drop, ap, ◌∙◌, arith, length-append, length-drop, length-take-le, to_come}
use Rattle.std.proofs.lemmas.Grind.{common_steps}
use Rattle.std.specs.List.{remove_range}
use Rattle.std.proofs.Math.Seq.{drop-append-add, take-append-add}
use Rattle.std.proofs.lemmas.List.{drop-take, take-append-le, take-take}

module _ {A : Type 0} (xs : List A) (start end : ℕ) (order : start ≤ end) (within : end ≤ length xs) where
  -- They are the first once those before them were moved after them.
  pub first_rotated : take (end - start) (drop start xs ++ take start xs) ≡ to_come xs start end
  first_rotated = grind (arith, common_steps, drop-take start (end - start) xs, take-append-le (end - start) (drop start xs) (take start xs))

  -- They are the last once those after them were moved before them, and so many come before them.
  before_last : length (drop end xs ++ take end xs) - (end - start) ≡ length (drop end xs) + start
  before_last = omega (arith, length-append (drop end xs) (take end xs), length-drop end xs, length-take-le end xs within)

  pub last_rotated : drop (length (drop end xs ++ take end xs) - (end - start)) (drop end xs ++ take end xs) ≡ to_come xs start end
  last_rotated = rw before_last (drop-append-add (drop end xs) (take end xs) start)

  -- The others are rotated still, and the items after them come first.
  pub others_rotated : take (length (drop end xs ++ take end xs) - (end - start)) (drop end xs ++ take end xs) ≡ drop end xs ++ take start xs
  others_rotated = rw before_last (take-append-add (drop end xs) (take end xs) start ∙ ap (λ ys. drop end xs ++ ys) (take-take start end xs order))

  -- Rotated back, they are the list without the range.
  pub rotated_back : (after : ℕ) → after ≡ length xs - end → drop after (drop end xs ++ take start xs) ++ take after (drop end xs ++ take start xs) ≡ remove_range xs start end
  rotated_back after is = grind (arith, common_steps)
