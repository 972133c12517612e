-- A `&` to the slots reaches each item.
use Rattle.ring_slots.proofs.Words.{[], ◌++◌, Incl-trans, RattleType, RawPtr, Laws, of_Lends, copy_shared, field_copy}
use contract.BorrowLft.{meet_⊑_left}
use Rattle.std.specs.contracts.marker.PhantomData as marker
use Rattle.ring_slots.specs.contracts.block.Owner as C
use Rattle.ring_slots.proofs.block.Owner.TheLaw.Statement.{statement}
use Rattle.ring_slots.proofs.SharedSlots.{lent_laws, lends}

pub shares : (R : RattleType) (L : Laws R) → statement R L
shares R L = of_Lends (C.struct R) (C.the_codes R.Denot R.coded (marker.the_row RawPtr).coded) (C.the_heap R) (C.the_lent R)
    (λ s _. lent_laws R L.shr_laws s.at s.slots) (copy_shared (marker.the_field RawPtr) (field_copy (marker.the_type RawPtr) tt), tt)
    (λ M 𝓤 𝓛 s _. lends 𝓛 R L (C.the_row R).lives (Incl-trans (meet_⊑_left (R.lives ++ []) _) (meet_⊑_left R.lives [])) s.at s.slots)
