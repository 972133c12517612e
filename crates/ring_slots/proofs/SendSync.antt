-- Heap slots may cross threads as their items may: what they own, and what a `&` to them shows, is the items' and the allocator's.
use Rattle.ring_slots.proofs.Words.{List, [], ◌∷◌, ℕ, ◌+◌, full_share, RattleType, Ptr, block_ptr, null_ptr, Option, Some, None, type_size, Bool, true, false, ty_array, row, row_shown, lent, right_if, Global, IsSend, IsSync}
use mir.Raw.{raw}
use base.Shift.{Keyless}
use denote.Memory.{lone}
use denote.Param.Send.{Common, part_keyless}
use Rattle.std.proofs.Crossing.{frees}
use Rattle.ring_slots.specs.block.Memory.{owned}

module _ (R : RattleType) where
  row-Keyless : IsSend R → (b o : ℕ) (cs : List (Option R.Denot)) → Keyless (row R b o cs)
  row-Keyless s b o [] = tt
  row-Keyless s b o (None ∷ cs) = (tt, row-Keyless s b (o + type_size R) cs)
  row-Keyless s b o (Some x ∷ cs) = (part_keyless R s full_share x b o, row-Keyless s b (o + type_size R) cs)

  row_shown-Common : IsSync R → (b o : ℕ) (cs : List (Option R.Denot)) → Common (row_shown R b o cs)
  row_shown-Common y b o [] κ = tt
  row_shown-Common y b o (None ∷ cs) κ = (tt, row_shown-Common y b (o + type_size R) cs κ)
  row_shown-Common y b o (Some x ∷ cs) κ = (y.shared x b o κ, row_shown-Common y b (o + type_size R) cs κ)

  pub owned-Keyless : IsSend R → (p : Ptr) (cs : List (Option R.Denot)) → Keyless (owned R p cs)
  owned-Keyless s null_ptr cs = tt
  owned-Keyless s (block_ptr b o) cs = (tt, row-Keyless s b o cs)

  pub lent-Common : IsSync R → (p : Ptr) (cs : List (Option R.Denot)) → Common (lent R p cs)
  lent-Common y null_ptr cs κ = tt
  lent-Common y (block_ptr b o) cs κ = (tt, row_shown-Common y b o cs κ)

  pub right_if-Keyless : (sizeless : Bool) (alloc : Global) (p : Ptr) (n : ℕ) → Keyless (right_if R sizeless alloc p n)
  right_if-Keyless true alloc p n = tt
  right_if-Keyless false alloc p n = frees.frees alloc (raw (ty_array (lone R.mir) n)) p
