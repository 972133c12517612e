-- What an extension of a ring by a source of items does, and what a move of a ring's items does that was refused memory.
use Rattle.std.specs.Prelude.{◌≡◌, ℕ, ◌+◌, ◌-◌, ◌≤◌, List, ◌∷◌, ◌++◌, length, take, drop, Option, None, Some, Result, IfOk, IfSome, OnOk, MatchResult}
use Rattle.std.specs.Iterator.{Drains, YieldsThen}
use Rattle.std.specs.List.{AllZip}
use Rattle.ring_core.specs.Contents.{keep_last, ChangesSlots}

module _ {I S A E : Type 0} (becomes : I → S → Type 0) (steps : S → Option A → S → Type 0) where
  -- The source gave xs, and the new contents are what the limit leaves of the old ones followed by xs: on Ok all that
  -- the source has, on Err a part after which one more item came and was refused.
  abbrev pub Extends : I → Option ℕ → List A → List A → ℕ → ℕ → Result (Unit {0}) E → Type 0
  Extends source limit old new a b r = (it : S) × (xs : List A) × becomes source it × (new ≡ keep_last limit (old ++ xs))
      × IfSome limit (λ _. ChangesSlots a old b new (length xs))
      × MatchResult r (λ _. Drains steps it xs) (λ _. (x : A) × (after : S) × YieldsThen steps it xs (Some x) after)

-- as many first items of a list may be passed over where a limit leaves none of them
abbrev pub IsOver : {A : Type 0} → Option ℕ → List A → ℕ → Type 0
IsOver None items over = over ≡ 0
IsOver (Some limit) items over = over ≤ length items - limit

-- clones of a list's items, but for some first ones that are passed over, came after the old ones: on Ok of all the others, on Err of the first of them
abbrev pub ExtendsByClones : {A E : Type 0} → (A → A → Type 0) → Option ℕ → List A → List A → List A → Result (Unit {0}) E → Type 0
ExtendsByClones {A} IsClone limit items old new r = (over : ℕ) × (ys : List A) × IsOver limit items over × AllZip IsClone (take (length ys) (drop over items)) ys
    × (new ≡ keep_last limit (old ++ ys)) × OnOk r (over + length ys ≡ length items)

-- clones of a list's first items took the places of the first ones of an output: on Ok of as many as is said
abbrev pub ClonesOut : {A E : Type 0} → (A → A → Type 0) → List A → List A → List A → Result ℕ E → Type 0
ClonesOut {A} IsClone items old new r = (ys : List A) × AllZip IsClone (take (length ys) items) ys
    × (new ≡ ys ++ drop (length ys) old) × IfOk r (λ n. n ≡ length ys)

-- a beginning of the source's items moved after the old ones, the next one was refused, and the others stayed
abbrev pub MovesPart : {A : Type 0} → List A → List A → List A → List A → A → Type 0
MovesPart {A} old source new rest refused = (moved : List A) × (source ≡ moved ++ refused ∷ rest) × (new ≡ old ++ moved)
