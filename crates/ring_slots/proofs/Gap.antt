-- Cells that hold every element of a list but one, which is in hand. It goes into a cell beside the gap, and that cell's own is in hand then.
use Rattle.ring_slots.proofs.Words.{slice_get_cases, ◌≡◌, refl, ap, sym, List, [], ◌∷◌, ◌++◌, ℕ, zero, suc, ◌<◌, arith, length, map, take, cut, get_or, set, Option, IsSome, Some, common_steps}

module _ {X : Type 0} where
  -- the list without its element at a place
  abbrev pub without : List X → ℕ → List X
  without xs i = take i xs ++ cut (suc i) xs

  moved_up : (xs : List X) (i : ℕ) (d : X) → suc i < length xs → set (without xs i) i (get_or xs i d) ≡ without xs (suc i)
  moved_up [] i d within = absurd (omega (arith, within))
  moved_up (x ∷ []) zero d within = absurd (omega (arith, within))
  moved_up (x ∷ y ∷ xs) zero d within = refl
  moved_up (x ∷ xs) (suc i) d within = ap (λ l. x ∷ l) (moved_up xs i d (omega (arith, within)))

  moved_down : (xs : List X) (i : ℕ) (d : X) → suc i < length xs → set (without xs (suc i)) i (get_or xs (suc i) d) ≡ without xs i
  moved_down [] i d within = absurd (omega (arith, within))
  moved_down (x ∷ []) zero d within = absurd (omega (arith, within))
  moved_down (x ∷ y ∷ xs) zero d within = refl
  moved_down (x ∷ xs) (suc i) d within = ap (λ l. x ∷ l) (moved_down xs i d (omega (arith, within)))

  module _ (all cells : List X) (i j : ℕ) (d e put taken : X) (next : j ≡ suc i) (within : suc i < length all) (held : get_or cells i d ≡ taken) where
    pub one_up : cells ≡ without all i → put ≡ get_or all i e → (set cells i put ≡ without all j) × (taken ≡ get_or all j e)
    one_up are is = (rw (are, is, next) (moved_up all i e within), grind (arith, common_steps))

    pub one_down : cells ≡ without all j → put ≡ get_or all j e → (set cells i put ≡ without all i) × (taken ≡ get_or all i e)
    one_down are is = (rw (are, is, next) (moved_down all i e within), grind (arith, common_steps))

module _ {X : Type 0} (xs : List X) (all : List (Option X)) (full : all ≡ map Some xs) where
  full_at : (i : ℕ) (d x : Option X) → i < length all → get_or all i d ≡ x → IsSome x
  full_at i d x within is = let some = slice_get_cases xs i in rw (sym is, full) (grind (arith, common_steps, some))

  pub full_above : (cells : List (Option X)) (i : ℕ) (d : Option X) → suc i < length all → cells ≡ without all i → IsSome (get_or cells i d)
  full_above cells i d within are = full_at (suc i) d (get_or cells i d) within (rw are (grind (arith, common_steps)))

  pub full_below : (cells : List (Option X)) (i : ℕ) (d : Option X) → suc i < length all → cells ≡ without all (suc i) → IsSome (get_or cells i d)
  full_below cells i d within are = full_at i d (get_or cells i d) (omega arith) (rw are (grind (arith, common_steps)))

  -- with one more put before or after them, the one left over is full
  pub last_is_full : (ys : List (Option X)) (over : Option X) → all ≡ ys ++ over ∷ [] → IsSome over
  last_is_full ys over same = full_at (length ys) over over (rw same (grind (arith, common_steps))) (rw same (grind (arith, common_steps)))

  pub first_is_full : (ys : List (Option X)) (over : Option X) → all ≡ over ∷ ys → IsSome over
  first_is_full ys over same = full_at 0 over over (omega (arith, ap length same)) (ap (λ l. get_or l 0 over) same)
