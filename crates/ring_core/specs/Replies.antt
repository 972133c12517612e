-- What a run does to the place where it stores its replies.
use Rattle.std.specs.Prelude.{◌≡◌, ℕ, suc, List, [], ◌∷◌, ◌++◌, length}
use Rattle.ring_core.specs.declared.command.Reply.{Reply}

-- `HasTaken first now replies room`: since it was `first`, the store took in these replies, and it has room for `room` more
module _ {S T : Type 0} (HasTaken : S → S → List (Reply T) → ℕ → Type 0) where
  -- the store has room for a reply after `at` others
  abbrev pub CanStore : S → ℕ → Type 0
  CanStore now at = (first : S) × (replies : List (Reply T)) × (room : ℕ) × HasTaken first now replies (suc room) × (at ≡ length replies)

  -- it took in one more reply
  abbrev pub Stores : S → S → ℕ → Reply T → Type 0
  Stores old new at reply = (first : S) (replies : List (Reply T)) (room : ℕ) → HasTaken first old replies (suc room) → at ≡ length replies
      → HasTaken first new (replies ++ reply ∷ []) room
