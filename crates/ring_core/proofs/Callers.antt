-- What callers conclude from the calls' contracts: of a call that succeeds, of a fill and of a clone.
use Rattle.std.proofs.Common.{◌≡◌, List, [], ◌∷◌, Bool, true, length, All, replicate, refl, arith}
use Rattle.std.specs.Cmp.Lexicographic.{pointwise}
use Rattle.std.specs.List.{AllZip}
use Rattle.std.specs.Prelude.{IsOk, OnOk, Result}
use Rattle.std.proofs.lemmas.List.Elements.{All-head, All-tail}

-- what holds on Ok holds where the result is Ok
pub held_on_ok : {X E P : Type 0} (r : Result X E) → IsOk r → OnOk r P → P
held_on_ok r ok holds = grind arith

module _ {T : Type 0} {IsClone : T → T → Type 0} where
  -- By induction: clones of a value that each equal it are so many of it.
  pub replicate-from_clones : ((x y : T) → IsClone x y → y ≡ x) → (value : T) (xs : List T) → All (IsClone value) xs → xs ≡ replicate (length xs) value
  replicate-from_clones same value [] clones = refl
  replicate-from_clones same value (x ∷ xs) clones =
      grind (arith, same value x (All-head (IsClone value) x xs clones), replicate-from_clones same value xs (All-tail (IsClone value) x xs clones))

  -- By induction: `==` answers true of clones that it holds equal, one by one.
  pub equal_clones : (eq : T → T → Bool) → ((x y : T) → IsClone x y → eq x y ≡ true) → (xs ys : List T) → AllZip IsClone xs ys → pointwise eq xs ys ≡ true
  equal_clones eq same [] ys clones = grind arith
  equal_clones eq same (x ∷ xs) [] clones = absurd clones
  equal_clones eq same (x ∷ xs) (y ∷ ys) clones = rw (same x y clones.0) (equal_clones eq same xs ys clones.1)
