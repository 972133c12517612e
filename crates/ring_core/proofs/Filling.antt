-- What stands while a ring is filled with clones: all items are clones, with a limit as many as turns were taken.
use Rattle.ring_core.proofs.Words.{◌≡◌, ℕ, All, List, length, Option, IfSome, IsSome, ChangesSlots, [], ◌∷◌, ◌++◌, ◌+◌, ◌<◌, arith, keep_last, ◌∙◌}
use Rattle.ring_core.proofs.Limits.{keep_last_within}
use Rattle.std.proofs.lemmas.Grind.{common_steps}

-- xs came from old by this number of turns, while the count of slot changes went from a to b
pub record IsFilled {A : Type 0} (P : A → Type 0) (limit : Option ℕ) (old xs : List A) (a b turns : ℕ) : Type 0 where
  pub items : All P xs
  pub long : IfSome limit (λ _. length xs ≡ turns)
  pub changes : IsSome limit → ChangesSlots a old b xs (length xs)

-- one more clone is pushed, for which the limit has room
pub IsFilled-turn : {A : Type 0} {P : A → Type 0} {limit : Option ℕ} {old xs : List A} {a b turns : ℕ} → IsFilled P limit old xs a b turns
    → (x : A) (next : List A) (c : ℕ) → P x → IfSome limit (λ n. turns < n) → next ≡ keep_last limit (xs ++ x ∷ [])
    → (IsSome limit → ChangesSlots b xs c next 1) → IsFilled P limit old next a c (turns + 1)
IsFilled-turn {limit = limit} {xs = xs} h x next c clone room pushed more =
    let all : next ≡ xs ++ x ∷ [] = pushed ∙ keep_last_within limit (xs ++ x ∷ []) (grind (arith, common_steps, h.long)) in
    record {
      items = rw all (grind (arith, common_steps, h.items));
      long = rw all (grind (arith, common_steps, h.long));
      changes = λ some. rw all (grind (arith, common_steps, h.changes some, rw all at more some));
    }
