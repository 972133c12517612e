-- What owner and deed of a block say of it.
use Rattle.std.specs.Prelude.{◌≡◌, ℕ, length, replicate, None}
use Rattle.std.specs.declared.alloc.Global.{Global}
use denote.RawPtr.{Ptr}
use Rattle.ring_slots.specs.declared.block.Deed.{Deed}
use Rattle.ring_slots.specs.declared.block.Owner.{Owner}

module _ {X : Type 0} (alloc : Global) where
  -- the owner's slots begin at the pointer, and the deed is the right to give all of their memory back
  abbrev pub IsDeedOf : Ptr → Owner X → Deed X → Type 0
  IsDeedOf ptr owner deed = (owner.at ≡ ptr) × (deed.at ≡ ptr) × (deed.len ≡ length owner.slots) × (deed.alloc ≡ alloc)

  -- `size` slots at the pointer, all empty, with the right to give their memory back
  abbrev pub IsNewBlock : ℕ → Ptr → Owner X → Deed X → Type 0
  IsNewBlock size ptr owner deed =
      (owner.at ≡ ptr) × (owner.slots ≡ replicate size None) × (deed.at ≡ ptr) × (deed.len ≡ size) × (deed.alloc ≡ alloc)
