-- What heap slots own, and what a `&` to them shows, at items of the type R.
use Rattle.std.specs.Prelude.{ℕ, ◌+◌, ◌*◌, ◌^◌, ◌==◌, Bool, true, false, List, [], ◌∷◌, length, Option, Some, None}
use Rattle.std.specs.Mem.{type_size}
use Rattle.std.specs.declared.alloc.Global.{Global}
use Rattle.std.specs.contracts.impls.GlobalAllocator.TheImpl.{ghosts}
use base.Fraction.{full_share}
use base.Fml.{Lft, Fml, ftrue, ffalse, fsep, flt, froom}
use mir.Syntax.{ty_array}
use mir.Raw.{raw}
use denote.RattleType.{RattleType}
use denote.Memory.{lone, part_at, shared_of}
use denote.Sharing.{nothing, said, beside}
use denote.RawPtr.{Ptr, block_ptr, null_ptr}

module _ (R : RattleType) where
  -- a slot, o bytes into the block b: the item that lies there, or room for one
  abbrev pub slot : ℕ → ℕ → Option R.Denot → Fml
  slot b o (Some x) = part_at R full_share x b o
  slot b o None = froom (raw (lone R.mir)) b o

  -- slots side by side, the first of them o bytes into the block b
  abbrev pub row : ℕ → ℕ → List (Option R.Denot) → Fml
  row b o [] = ftrue
  row b o (c ∷ cs) = fsep (slot b o c) (row b (o + type_size R) cs)

  -- what a `&` shows of a slot: its item, if it has one
  abbrev pub slot_shown : ℕ → ℕ → Option R.Denot → Lft → Fml
  slot_shown b o (Some x) = shared_of R x b o
  slot_shown b o None = nothing

  -- what it shows of a row
  abbrev pub row_shown : ℕ → ℕ → List (Option R.Denot) → Lft → Fml
  row_shown b o [] = nothing
  row_shown b o (c ∷ cs) = beside (slot_shown b o c) (row_shown b (o + type_size R) cs)

  -- the slots take fewer than 2 ^ 63 bytes
  abbrev pub small : List (Option R.Denot) → Fml
  small cs = flt (length cs * type_size R) (2 ^ 63)

  -- the right to free a block of n items at p. Items without size have no block
  abbrev pub right_if : Bool → Global → Ptr → ℕ → Fml
  right_if true alloc p n = ftrue
  right_if false alloc p n = ghosts.dealloc_token alloc (raw (ty_array (lone R.mir) n)) p

  abbrev pub right : Global → Ptr → ℕ → Fml
  right = right_if (type_size R == 0)

  -- the slots
  abbrev pub owned : Ptr → List (Option R.Denot) → Fml
  owned (block_ptr b o) cs = fsep (small cs) (row b o cs)
  owned null_ptr cs = ffalse

  -- what a `&` to the slots shows of their items
  abbrev pub lent : Ptr → List (Option R.Denot) → Lft → Fml
  lent (block_ptr b o) cs = beside (said (small cs)) (row_shown b o cs)
  lent null_ptr cs = said ffalse
