-- A borrow of heap slots is shared item by item.
use Rattle.ring_slots.proofs.Words.{List, [], ◌∷◌, ℕ, ◌+◌, Ura, Lft, Incl, ftrue, Logic, RattleType, RowLaws, Laws, Ptr, block_ptr, null_ptr, Lends, Lends-both, Lends-nothing, Lends-said, Lends-false, Option, Some, None, type_size, slot, row, slot_shown, row_shown, small, lent, nothing_shr_laws}
use denote.Sharing.{ShrLaws, said}
use denote.SharingLaws.{beside_shr_laws, said_shr_laws}
use denote.Shares.{Shares-less}
use Rattle.ring_slots.specs.block.Memory.{owned}

module _ (R : RattleType) (twice : RowLaws R) where
  slot_laws : (b o : ℕ) (c : Option R.Denot) → ShrLaws (slot_shown R b o c)
  slot_laws b o None = nothing_shr_laws
  slot_laws b o (Some x) = twice x b o

  row_laws : (b o : ℕ) (cs : List (Option R.Denot)) → ShrLaws (row_shown R b o cs)
  row_laws b o [] = nothing_shr_laws
  row_laws b o (c ∷ cs) = beside_shr_laws (slot_shown R b o c) (row_shown R b (o + type_size R) cs) (slot_laws b o c) (row_laws b (o + type_size R) cs)

  pub lent_laws : (p : Ptr) (cs : List (Option R.Denot)) → ShrLaws (lent R p cs)
  lent_laws null_ptr cs = said_shr_laws _ tt
  lent_laws (block_ptr b o) cs = beside_shr_laws (said (small R cs)) (row_shown R b o cs) (said_shr_laws (small R cs) tt) (row_laws b o cs)

module _ {M : Type 1} {𝓤 : Ura M} (𝓛 : Logic 𝓤) (R : RattleType) (L : Laws R) (l : Lft) (within : Incl l R.lives) where
  slot_lends : (b o : ℕ) (c : Option R.Denot) → Lends 𝓛 (slot R b o c) (slot_shown R b o c) l
  slot_lends b o None = Lends-nothing 𝓛 (slot R b o None) l
  slot_lends b o (Some x) = λ κ ts. Shares-less 𝓛 R R.lives l within (L.shares 𝓛) x κ ts b o

  row_lends : (b o : ℕ) (cs : List (Option R.Denot)) → Lends 𝓛 (row R b o cs) (row_shown R b o cs) l
  row_lends b o [] = Lends-nothing 𝓛 ftrue l
  row_lends b o (c ∷ cs) = Lends-both 𝓛 (slot R b o c) (row R b (o + type_size R) cs) (slot_shown R b o c) (row_shown R b (o + type_size R) cs) l
      (slot_lends b o c) (row_lends b (o + type_size R) cs)

  pub lends : (p : Ptr) (cs : List (Option R.Denot)) → Lends 𝓛 (owned R p cs) (lent R p cs) l
  lends null_ptr cs = Lends-false 𝓛 (lent R null_ptr cs) l
  lends (block_ptr b o) cs =
      Lends-both 𝓛 (small R cs) (row R b o cs) (said (small R cs)) (row_shown R b o cs) l (Lends-said 𝓛 (small R cs) tt l) (row_lends b o cs)
