-- The proof gives the new struct the list behind the reference, and then the slice's bytes.
use Rattle.std.proofs.Common.{refl, [], ◌∷◌, ◌++◌, ◌<◌, ◌^◌, length}
use base.Fml.{ftrue}
use mir.Syntax.{named}
use mir.Val.{vstruct, vnil}
use types.Kit.{‵, raw, ◌⊛◌, ◌$◌, ◌∵◌, !, qed, move, keep, split, suffices, done}
use types.Run.{no_more, returns, enter}
use types.Part.{agg}
use types.ByLocal.{alloc_all, pass_all, free_all, look_at, sets}
use denote.Builtin.{u8}
use denote.Exit.{yes}
use denote.RattleType.{owns}
use denote.Ref.{shr_vals, shr_Tells}
use denote.Shadow.{pure_i}
use denote.Signature.{plain, types_at}
use denote.Slice.{shr_slice_vals, shr_slice_Tells}
use denote.Triple.Entry.{Vals, alive}
use denote.Triple.Walked.{says, ends_at, Stays, stay_none_ref, stay_none_slice, Goes-none_ref, Goes-none_slice}
use Rattle.std.proofs.raw_atomic.Walks.{proved}
use Rattle.ring_core.specs.contracts.written.WrittenBytes.{the_row}
use Rattle.ring_core.specs.contracts.written.WrittenBytes.and as contract
use Rattle.ring_core.proofs.written.WrittenBytes.and.Statement.{statement}
use Rattle.ring_core.proofs.written.WrittenBytes.and.Code as code

abbrev stayed : Stays contract.ended.signature.params contract.ended.kept
stayed = (stay_none_ref (0 ∷ []) tt (plain (λ _. the_row)) yes, (stay_none_slice (1 ∷ []) tt (plain (λ _. u8)) yes, tt))

pub and_spec : {M : Type 1} → statement M
and_spec 𝓤 𝓛 𝓜 𝓡 wired =
    let clauses = contract.clauses 𝓛 𝓜.mem 𝓡.returns in
    proved 𝓛 contract.ended stayed clauses 𝓜 𝓡 (Goes-none_ref 𝓛 2 (0 ∷ []) tt (plain (λ _. the_row)) yes, (Goes-none_slice 𝓛 2 (1 ∷ []) tt (plain (λ _. u8)) yes, tt))
    contract.Key.name code.function (code.unfolded 𝓤 𝓛.H 𝓜 𝓡 wired)
    (λ κs. (shr_vals, (shr_slice_vals, tt))) (λ κs. (shr_Tells (named 0) κs.0 the_row, (shr_slice_Tells (named 1) κs.1.0 u8, tt))) (λ κs qs bounds a _ are.
    let vss : Vals contract.signature κs = (shr_vals a.0, (shr_slice_vals a.1.0, tt)) in let fits : length a.1.0.now < 2 ^ 64 = are.1.0.0.1.0 in
    let after : the_row.Denot = record { bytes = a.0.now.bytes ++ a.1.0.now } in
    qed 𝓛 ((raw (alive 𝓛 contract.signature κs qs) ⊛ ‵ (owns (types_at contract.signature.params κs) a vss)) ∷ ‵ ftrue ∷ []) ∵
    split ! $ keep ! (0 ∷ 1 ∷ []) $
    enter ! _ _ _ _ _ $ alloc_all ! (λ l. pass_all ! refl ((tt, tt), ((tt, (tt, (record { fits = fits }, tt))), tt)) $
    sets ! (agg ! (no_more !)) refl (tt, tt) $ returns ! (look_at ! 0 refl) $ free_all ! refl $
    suffices ! _ (ends_at 𝓛 contract.ended stayed clauses ((κs, qs, bounds, a, vss), tt) (vstruct vnil) after (tt, (tt, tt)) (tt, (tt, tt))) $
    says ! refl $ pure_i ! (the_row.own_val after (vstruct vnil ∷ [])) ((λ _. (tt, tt)), tt) ((tt, (refl, tt)), tt) $
    move ! (1 ∷ 2 ∷ 0 ∷ []) $ done !))
