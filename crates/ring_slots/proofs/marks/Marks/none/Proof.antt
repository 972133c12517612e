-- The proof gives the new struct an empty mark for each slot.
use Rattle.ring_slots.proofs.Words.{Goes-number, stay_number, refl, drop, nothing, fjoin, uint_vals, uint_Tells, w64, Vals, [], ◌∷◌, vstruct, vnil, ftrue, ‵, raw, ◌⊛◌, ◌$◌, ◌∵◌, !, qed, move, keep, split, suffices, done, no_more, returns, enter, agg, alloc_all, pass_all, free_all, look_at, sets, owns, pure_i, types_at, alive, says, ends_at, Stays, proved, replicate, false}
use Rattle.ring_slots.specs.contracts.marks.Marks.{the_row}
use Rattle.ring_slots.specs.contracts.marks.Marks.none as contract
use Rattle.ring_slots.proofs.marks.Marks.none.Statement.{statement}
use Rattle.ring_slots.proofs.marks.Marks.none.Code as code

pub none_spec : {M : Type 1} → statement M
none_spec 𝓤 𝓛 𝓜 𝓡 wired =
    let clauses = contract.clauses 𝓛 𝓜.mem 𝓡.returns in
    let stayed : Stays contract.ended.signature.params contract.ended.kept = (stay_number, tt) in
    proved 𝓛 contract.ended stayed clauses 𝓜 𝓡 (Goes-number 𝓛 0, tt)
    contract.Key.name code.function (code.unfolded 𝓤 𝓛.H 𝓜 𝓡 wired)
    (λ κs. (uint_vals w64, tt)) (λ κs. (uint_Tells w64, tt)) (λ κs qs bounds a _ are.
    let vss : Vals contract.signature κs = (uint_vals w64 a.0, tt) in let fits = are.0.1 in let made : the_row.Denot = record { full = replicate a.0 false } in
    qed 𝓛 ((raw (alive 𝓛 contract.signature κs qs) ⊛ ‵ (owns (types_at contract.signature.params κs) a vss)) ∷ ‵ ftrue ∷ []) ∵
    split ! $ keep ! (0 ∷ 1 ∷ []) $
    enter ! _ _ _ _ _ $ alloc_all ! (λ l. pass_all ! refl ((tt, record { fits = fits }), tt) $
    sets ! (agg ! (no_more !)) refl (tt, tt) $ returns ! (look_at ! 0 refl) $ free_all ! refl $
    suffices ! _ (ends_at 𝓛 contract.ended stayed clauses ((κs, qs, bounds, a, vss), tt) (vstruct vnil) made (tt, tt) (tt, tt)) $
    says ! refl $ pure_i ! (the_row.own_val made (vstruct vnil ∷ [])) ((λ _. (tt, tt)), tt) ((tt, (refl, tt)), tt) $
    move ! (2 ∷ []) $ drop ! $ nothing ! $ nothing ! $ fjoin ! $ move ! (2 ∷ 0 ∷ 1 ∷ []) $ done !))
