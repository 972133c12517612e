-- What stands while the items of one ring are moved onto another.
use Rattle.ring_core.proofs.Words.{◌≡◌, ℕ, List, [], ◌∷◌, ◌++◌, length, drop, slice_get, Option, Some, IsSome, refl, ◌∙◌, append_assoc, length-append, arith, ChangesSlots, keep_last, slice_get_cases}
use Rattle.std.proofs.lemmas.Grind.{common_steps}
use Rattle.ring_core.proofs.Limits.{keep_last-keep_last}

-- some of the source's items were moved after the old ones, and the others stay; the count of changes went from a to b
pub record HasMoved {T : Type 0} (limit : Option ℕ) (old source now rest : List T) (a b : ℕ) : Type 0 where
  pub moved : List T
  pub parts : source ≡ moved ++ rest
  pub left : now ≡ keep_last limit (old ++ moved)
  pub changes : IsSome limit → ChangesSlots a old b now (length moved)

-- the first item of a list, and the others
first-others : {T : Type 0} (xs : List T) (x : T) → Some x ≡ slice_get xs 0 → xs ≡ x ∷ drop 1 xs
first-others xs x first = grind (arith, common_steps, slice_get_cases)

-- one more item is moved
pub HasMoved-turn : {T : Type 0} {limit : Option ℕ} {old source now rest : List T} {a b : ℕ} → HasMoved limit old source now rest a b
    → (x : T) (next : List T) (c : ℕ) → Some x ≡ slice_get rest 0 → next ≡ keep_last limit (now ++ x ∷ [])
    → (IsSome limit → ChangesSlots b now c next 1) → HasMoved limit old source next (drop 1 rest) a c
HasMoved-turn {rest = rest} h x next c first pushed more = record {
  moved = h.moved ++ x ∷ [];
  parts = rw (append_assoc, ← first-others rest x first) h.parts;
  left = pushed ∙ rw (h.left, keep_last-keep_last, append_assoc) refl;
  changes = λ some. grind (arith, h.changes some, more some, length-append h.moved (x ∷ []));
}
