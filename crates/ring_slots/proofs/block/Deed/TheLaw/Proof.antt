-- A `&` to the right to free a block shows nothing.
use Rattle.ring_slots.proofs.Words.{RattleType, RawPtr, Laws, of_Lends, Lends-nothing, copy_shared, nothing_shr_laws, field_copy}
use Rattle.std.specs.contracts.marker.PhantomData as marker
use Rattle.ring_slots.specs.contracts.block.Deed as C
use Rattle.ring_slots.proofs.block.Deed.TheLaw.Statement.{statement}

pub shares : (R : RattleType) (L : Laws R) → statement R L
shares R L = of_Lends (C.struct R) (C.the_codes R.Denot R.coded (marker.the_row RawPtr).coded) (C.the_heap R) (C.the_lent R)
    (λ _ _. nothing_shr_laws) (copy_shared (marker.the_field RawPtr) (field_copy (marker.the_type RawPtr) tt), tt)
    (λ M 𝓤 𝓛 d _. Lends-nothing 𝓛 (C.the_heap R d) (C.the_row R).lives)
