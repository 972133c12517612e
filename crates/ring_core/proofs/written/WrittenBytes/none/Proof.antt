-- The list that the proof gives the new struct is empty. The struct has no bytes and owns nothing.
use Rattle.std.proofs.Common.{refl, [], ◌∷◌}
use base.Fml.{ftrue}
use mir.Val.{vstruct, vnil}
use types.Kit.{‵, raw, ◌$◌, ◌∵◌, !, qed, drop, suffices, done}
use types.Run.{no_more, returns, enter}
use types.Part.{agg}
use types.ByLocal.{alloc_all, pass_all, free_all, look_at, sets}
use denote.Shadow.{pure_i}
use denote.Steps.{nothing}
use denote.Triple.Entry.{on_entry}
use denote.Triple.Walked.{says, ends_at}
use Rattle.std.proofs.raw_atomic.Walks.{proved}
use Rattle.ring_core.specs.contracts.written.WrittenBytes.{the_row}
use Rattle.ring_core.specs.contracts.written.WrittenBytes.none as contract
use Rattle.ring_core.proofs.written.WrittenBytes.none.Statement.{statement}
use Rattle.ring_core.proofs.written.WrittenBytes.none.Code as code

pub none_spec : {M : Type 1} → statement M
none_spec 𝓤 𝓛 𝓜 𝓡 wired =
    let clauses = contract.clauses 𝓛 𝓜.mem 𝓡.returns in
    proved 𝓛 contract.ended tt clauses 𝓜 𝓡 tt
    contract.Key.name code.function (code.unfolded 𝓤 𝓛.H 𝓜 𝓡 wired)
    (λ κs. tt) (λ κs. tt) (λ κs qs bounds a _ are.
    qed 𝓛 (raw (on_entry 𝓛 contract.signature κs qs a tt) ∷ ‵ ftrue ∷ []) ∵ drop ! $ drop ! $
    enter ! _ _ _ _ _ $ alloc_all ! (λ l. pass_all ! refl tt $
    sets ! (agg ! (no_more !)) refl (tt, tt) $ returns ! (look_at ! 0 refl) $ free_all ! refl $
    suffices ! _ (ends_at 𝓛 contract.ended tt clauses ((κs, qs, bounds, a, tt), tt) (vstruct vnil) (record { bytes = [] }) tt tt) $
    says ! refl $ pure_i ! (the_row.own_val (record { bytes = [] }) (vstruct vnil ∷ [])) ((λ _. (tt, tt)), tt) ((tt, (refl, tt)), tt) $
    nothing ! $ nothing ! $ done !))
