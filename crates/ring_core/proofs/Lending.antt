-- What a cursor lends.
use Rattle.ring_core.proofs.Words.{◌≡◌, Option, None, Some, IsNone, MutBor, inl, refl, ghost_name_of}
use borrow.Follows.Closed.{read_of}

-- a loan that is made ends as F' says, where F' and F agree
pub lent_as : {D E : Type 0} (r : Option (MutBor E)) (F F' : E → D) (v v' : D) → (IsNone r → ⊥) → ((w : E) → F w ≡ F' w)
    → read_of (ghost_name_of r) F v ≡ read_of (ghost_name_of r) F' v'
lent_as None F F' v v' made same = absurd (made refl)
lent_as (Some x) F F' v v' made same = λ i. inl (x.ghost_name, λ w. same w i)
