-- What the proofs by hand are written in: the words of lists and numbers, of the program's text, of memory and loans, and
-- of the walk along a function's body.
pub use Rattle.std.proofs.Common.{ℕ, zero, suc, ◌+◌, ◌-◌, ◌*◌, ◌^◌, ◌<◌, ◌≤◌, min, T, eqb, lit<, mul-le-mul_right, mul-zero, one-mul, suc-mul, zero-mul, pow_mono, arith, rules}
pub use Rattle.std.proofs.Common.{Bool, true, false, if◌then◌else◌, is_some, Option, Some, None, IsSome, Ok, Err, Global, ◌≡◌, refl, sym, ap, subst, ◌∙◌, inr}
pub use Rattle.std.proofs.Common.{List, [], ◌∷◌, ◌++◌, map, length, replicate, get_or, set, take, drop as cut, slice_get, slice_index_or, append_assoc}
pub use Rattle.std.proofs.Common.{length-append, length-drop, length-set, length-take, take-append-drop, drop-cons, drop-drop, take_at as take_front, ext_get_or}
pub use base.Fml.{Fml, GName, Incl, Incl-trans, Lft, Share, fat, fauth, fbor, feq, flft, fobor, fobs, froom, fsep, ftrue}
pub use base.Fraction.{full_share}
pub use base.Logic.{SProp, all, all_e, apply∗, emp, ent, ex, fst∗, guard, id⊢, mono_r, never, sep, wand}
pub use borrow.Table.OneValue.{part_in, part_out}
pub use denote.Builtin.{RefMutOf, RefOf, bool, unit, usize}
pub use denote.Exit.{no, yes}
pub use denote.Follow.{follows, lends_Part}
pub use denote.Laws.{Is, Typed, shows}
unfoldable pub use denote.Memory.{cell_at, hidden_shr, mem, part_at, part_of}
pub use denote.Param.{ArrayAt, layout, layouts, number, param}
pub use denote.Param.Laws.{Laws, number_array_laws, param_laws}
pub use denote.Plain.{bool_Tells, bool_vals, uint_Tells, uint_vals}
pub use denote.RattleType.{RattleType, RowLaws, Valss, owns}
pub use denote.RawPtr.{Ptr, RawPtr, block_ptr, in_a_block, null_ptr, ptr_val, rawptr_Tells, rawptr_vals, room_for}
pub use denote.Ref.{MutRef, ShrRef, mut_Tells, mut_vals, shr_Tells, shr_vals}
pub use denote.Shadow.{pure_i}
pub use denote.Signature.{mut_ref_to, plain, types_at}
pub use denote.Steps.{closes, facts, heard, nothing, only, opens, owned, peeks}
pub use denote.Struct.Owning.{shape, to}
pub use denote.Struct.Laws.{field_copy, makes}
pub use denote.Struct.Lending.{Lends, Lends-both, Lends-false, Lends-nothing, Lends-said, of_Lends}
pub use denote.Struct.Struct.{Struct, Struct-Makes, within}
pub use denote.Triple.Call.{calls_at, calls_at_last}
pub use denote.Triple.Entry.{Vals, alive, on_entry}
pub use denote.Triple.Table.{framed}
pub use denote.Triple.Walked.{Goes, Goes-dropped, Goes-none_ref, Goes-ref, Goes-spent_ref, Stays, ends_at, says, stay_dropped, stay_none_ref, stay_ref, walk_of, Stay}
pub use mir.MapTy.{inst_fn}
pub use mir.Syntax.{Args, Body, Fn, Ty, a_number, a_type, given as no_methods, named, ty_array, ty_ptr, ty_unit, w64}
pub use mir.Val.{Val, WT, has_ty, of_list, vcons, vint, vnil, vptr, vstruct, vunit}
pub use package.contract.BorrowLft.{◌⊑◌}
pub use package.contract.Monad.{Fun, fact, fact_i}
pub use package.contract.Running.{tables}
pub use prog.Capped.{capped_fits, capped_is}
pub use prog.Memory.{Memory, align, capped, size, up}
pub use prog.Wp.{Env, Wp, WpFn, after_seq, at_return}
pub use seplogic.Ra.Ura.{Ura}
pub use types.ByLocal.{alloc_all, env, free_all, get, get_in, get_tag, give_at, is, lands_as, lands_last, look_at, pass_all, sets, sets_last, take_at, through}
pub use types.Kit.{ !, Goal, Item, Seq, Soaks, Step, any_q, at_ret, await, by, check, done, drop, feq_i, feq_l, fjoin, fjoin3, flt_i, flt_l, fpack, fpick, frame, fsplit, fsplit3, given, group, join, keep, later, learn, move, now, pick, prop, qed, raw, regoal, rewrite, show, some, split, split3, step, suffices, updating, use0, use1, use2, ‵, ◌$◌, ◌∵◌, ◌⊛◌}
pub use types.Logic.{Logic, sem}
pub use types.Match.{in_variant, live, vrt}
pub use types.Part.{agg, whole}
pub use types.Run.{addr, align_word, and_then, bin, blocks, enter, exec, first, fld, from, lit, load, look, no_more, of_opd, returns, size_lit, size_word, stop, switches_on, unit_lit}
pub use types.SemTy.{cells}
pub use Rattle.std.proofs.RawLayout.{as_raw, as_written}
pub use Rattle.std.proofs.VecSteps.Shapes.{after, arm_body, head}
pub use Rattle.std.proofs.alloc.Calls.{Al, Answer, Answer-typed, Answered, Goes-blank, answer_val, answers, got, lends}
pub use Rattle.std.proofs.raw_atomic.Walks.{proved, proved_at}
pub use Rattle.std.specs.Mem.{type_size}
pub use Rattle.ring_slots.specs.block.Memory.{lent, right, right_if, row, row_shown, slot, slot_shown, small}
pub use denote.Slice.{MutSlice, elements_shared, slice_val}
pub use Rattle.std.proofs.lemmas.List.{drop-take, set_split, length-replicate, set-get_or, get_or_default, length-map, map-append}
pub use Rattle.ring_slots.specs.Slots.{HoldsStretch, IsFullStretch, Passes, Slots, brought_first, filled, moved_down, passed_down, passed_up, refilled}
pub use denote.Array.{Array}
pub use Rattle.ring_slots.specs.block.Lends.{owner_with}
pub use Rattle.std.specs.List.{length_refill, refill}
pub use denote.Param.Send.{whole-keyless, IsSend, IsSync, owning_send, sendable, struct_sync}
pub use Rattle.std.proofs.lemmas.Grind.{common_steps}
pub use Rattle.ring_slots.specs.cells.Lends.{rewritten}
pub use Rattle.ring_slots.specs.copies.Shown.{shown}
pub use denote.SharingLaws.{nothing_shr_laws}
pub use Rattle.std.proofs.lemmas.Option.{slice_get-get_or, slice_get_cases}
pub use Rattle.std.specs.Mem.Slots.{SamePlaces, slots_filled, slots_items, slots_len}
pub use Rattle.std.specs.Mem.Slots.Ownership.{Filled, SameOutside}
pub use Rattle.core.specs.declared.slots.Slots.{Slots as Row}
pub use Rattle.ring_slots.specs.block.Row.{HoldsRow}
pub use types.Mut.{open_ref}
pub use denote.Enum.Declared.{declared}
pub use denote.Opens.{hide, unhide}
pub use denote.Param.Shared.{copy_shared}
pub use denote.FollowSlice.{lends_Elements}
pub use Rattle.core.proofs.slots.Opens.{row_val}
pub use denote.Struct.CellSteps.{first_at}
pub use borrow.Table.Elements.{at_mul}

-- nothing is had of a number at exit, or of a pointer, and nothing is said of it then
abbrev pub stay_number : {n : ℕ} → Stay {n = n} (plain (λ _. usize)) yes
stay_number = stay_dropped (plain (λ _. usize)) yes

abbrev pub stay_pointer : {n : ℕ} → Stay {n = n} (plain (λ _. RawPtr)) yes
stay_pointer = stay_dropped (plain (λ _. RawPtr)) yes

module _ {M : Type 1} {𝓤 : Ura M} (𝓛 : Logic 𝓤) (n : ℕ) where
  pub Goes-number : Goes 𝓛 n (plain (λ _. usize)) yes stay_number
  Goes-number = Goes-dropped 𝓛 n (plain (λ _. usize)) yes (λ κs x w. refl)

  pub Goes-pointer : Goes 𝓛 n (plain (λ _. RawPtr)) yes stay_pointer
  Goes-pointer = Goes-dropped 𝓛 n (plain (λ _. RawPtr)) yes (λ κs x w. refl)
