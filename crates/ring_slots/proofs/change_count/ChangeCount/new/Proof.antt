-- The count that a proof gives the new struct is 0. The struct has no bytes and owns nothing.
use Rattle.ring_slots.proofs.Words.{refl, [], ◌∷◌, vstruct, vnil, ftrue, ‵, raw, ◌$◌, ◌∵◌, !, qed, drop, suffices, done, no_more, returns, enter, agg, alloc_all, pass_all, free_all, look_at, sets, pure_i, nothing, on_entry, says, ends_at, proved}
use Rattle.ring_slots.specs.contracts.change_count.ChangeCount.{the_row}
use Rattle.ring_slots.specs.contracts.change_count.ChangeCount.new as contract
use Rattle.ring_slots.proofs.change_count.ChangeCount.new.Statement.{statement}
use Rattle.ring_slots.proofs.change_count.ChangeCount.new.Code as code

pub new_spec : {M : Type 1} → statement M
new_spec 𝓤 𝓛 𝓜 𝓡 wired =
    let clauses = contract.clauses 𝓛 𝓜.mem 𝓡.returns in
    proved 𝓛 contract.ended tt clauses 𝓜 𝓡 tt
    contract.Key.name code.function (code.unfolded 𝓤 𝓛.H 𝓜 𝓡 wired)
    (λ κs. tt) (λ κs. tt) (λ κs qs bounds a _ are.
    qed 𝓛 (raw (on_entry 𝓛 contract.signature κs qs a tt) ∷ ‵ ftrue ∷ []) ∵ drop ! $ drop ! $
    enter ! _ _ _ _ _ $ alloc_all ! (λ l. pass_all ! refl tt $
    sets ! (agg ! (no_more !)) refl (tt, tt) $ returns ! (look_at ! 0 refl) $ free_all ! refl $
    suffices ! _ (ends_at 𝓛 contract.ended tt clauses ((κs, qs, bounds, a, tt), tt) (vstruct vnil) (record { count = 0 }) tt tt) $
    says ! refl $ pure_i ! (the_row.own_val (record { count = 0 }) (vstruct vnil ∷ [])) ((λ _. (tt, tt)), tt) ((tt, (refl, tt)), tt) $
    nothing ! $ nothing ! $ done !))
