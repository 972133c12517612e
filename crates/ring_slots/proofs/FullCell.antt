-- A full cell in memory: its item lies behind the mark, as far from the cell as the item is aligned.
use Rattle.ring_slots.proofs.Words.{◌≡◌, ℕ, ◌+◌, [], ◌∷◌, sym, subst, arith, Args, Ty, a_type, up, align, capped, layout, layouts, param, RattleType}
use mir.Syntax.{Width, w8, w16, w32, w64, w128}
use mir.Val.{bytes}
use prog.Align.{align-bytes}
use denote.Enum.Declared.{Record}
use Rattle.core.specs.contracts.option.Option.{enum, the_row}

behind : (w : Width) (o : ℕ) → o + up (bytes w) (up 1 0 + 1) ≡ capped (bytes w) + o
behind w8 o = omega arith
behind w16 o = omega arith
behind w32 o = omega arith
behind w64 o = omega arith
behind w128 o = omega arith

pub behind_mark : (τ : Ty) (o : ℕ) → o + up (align τ) (up 1 0 + 1) ≡ capped (align τ) + o
behind_mark τ o = subst (λ (a : ℕ). o + up a (up 1 0 + 1) ≡ capped a + o) (sym (align-bytes τ)) (behind _ o)

module _ (X : RattleType) where
  -- the types of an item and of a cell, as the code of a function has them
  abbrev pub Item : RattleType
  Item = param 0 X

  abbrev pub Cell : RattleType
  Cell = the_row Item

  abbrev pub cell_enum : Record
  cell_enum = enum Item

  abbrev pub arguments : Args
  arguments = layouts (a_type ∷ []) (X, tt)

  -- how far from the cell the item lies
  abbrev pub mark_bytes : ℕ
  mark_bytes = up (align (layout X)) 1
