-- What a call took from a source of items.
use Rattle.std.specs.Prelude.{◌≤◌, Bool, List, MatchBool, None, Option}
use Rattle.std.specs.Iterator.{Count, Drains, IsFinite, Yields, YieldsThen, size}

-- the source gave these items, and may give more, no more of them than before; or it ended
abbrev pub Gives : {S A : Type 0} → (S → Type 0) → (S → Option A → S → Type 0) → (S → Count) → Bool → S → List A → S → Type 0
Gives can steps left more s xs t =
    MatchBool more (Yields steps s xs t × can t × IsFinite (left t) × (size (left t) ≤ size (left s))) (YieldsThen steps s xs None t)

-- the source gave all its items, of which P holds
abbrev pub GivesAll : {I S A : Type 0} → (I → S → Type 0) → (S → Option A → S → Type 0) → I → (List A → Type 0) → Type 0
GivesAll {I} {S} {A} becomes steps source P = (s : S) × (xs : List A) × becomes source s × Drains steps s xs × P xs
