-- The proof gives the new struct the marks behind the reference, with the one at the place as it is told.
use Rattle.ring_slots.proofs.Words.{Goes-number, stay_number}
use Rattle.ring_slots.proofs.Words.{refl, set, drop, nothing, fsplit, fjoin, stay_dropped, Goes-dropped, uint_vals, uint_Tells, w64, Vals, [], ◌∷◌, named, vstruct, vnil, ftrue, ‵, raw, ◌⊛◌, ◌$◌, ◌∵◌, !, qed, move, keep, split, suffices, done, no_more, returns, enter, agg, alloc_all, pass_all, free_all, look_at, sets, yes, owns, shr_vals, shr_Tells, pure_i, plain, types_at, alive, says, ends_at, Stays, stay_none_ref, Goes-none_ref, proved, bool, bool_Tells, bool_vals}
use Rattle.ring_slots.specs.contracts.marks.Marks.{the_row}
use Rattle.ring_slots.specs.contracts.marks.Marks.set as contract
use Rattle.ring_slots.proofs.marks.Marks.set.Statement.{statement}
use Rattle.ring_slots.proofs.marks.Marks.set.Code as code

pub set_spec : {M : Type 1} → statement M
set_spec 𝓤 𝓛 𝓜 𝓡 wired =
    let clauses = contract.clauses 𝓛 𝓜.mem 𝓡.returns in
    let stayed : Stays contract.ended.signature.params contract.ended.kept = (stay_none_ref (0 ∷ []) tt (plain (λ _. the_row)) yes, (stay_number, (stay_dropped (plain (λ _. bool)) yes, tt))) in
    proved 𝓛 contract.ended stayed clauses 𝓜 𝓡 (Goes-none_ref 𝓛 1 (0 ∷ []) tt (plain (λ _. the_row)) yes, (Goes-number 𝓛 1, (Goes-dropped 𝓛 1 (plain (λ _. bool)) yes (λ κs x w. refl), tt)))
    contract.Key.name code.function (code.unfolded 𝓤 𝓛.H 𝓜 𝓡 wired)
    (λ κs. (shr_vals, (uint_vals w64, (bool_vals, tt)))) (λ κs. (shr_Tells (named 0) κs.0 the_row, (uint_Tells w64, (bool_Tells, tt)))) (λ κs qs bounds a _ are.
    let vss : Vals contract.signature κs = (shr_vals a.0, (uint_vals w64 a.1.0, (bool_vals a.1.1.0, tt))) in let fits = are.1.0.1 in let after : the_row.Denot = record { full = set a.0.now.full a.1.0 a.1.1.0 } in
    qed 𝓛 ((raw (alive 𝓛 contract.signature κs qs) ⊛ ‵ (owns (types_at contract.signature.params κs) a vss)) ∷ ‵ ftrue ∷ []) ∵
    split ! $ keep ! (0 ∷ 1 ∷ []) $
    enter ! _ _ _ _ _ $ alloc_all ! (λ l. pass_all ! refl ((tt, tt), ((tt, record { fits = fits }), ((tt, tt), tt))) $
    sets ! (agg ! (no_more !)) refl (tt, tt) $ returns ! (look_at ! 0 refl) $ free_all ! refl $
    suffices ! _ (ends_at 𝓛 contract.ended stayed clauses ((κs, qs, bounds, a, vss), tt) (vstruct vnil) after (tt, (tt, (tt, tt))) (tt, (tt, (tt, tt)))) $
    says ! refl $ pure_i ! (the_row.own_val after (vstruct vnil ∷ [])) ((λ _. (tt, tt)), tt) ((tt, (refl, tt)), tt) $
    move ! (2 ∷ []) $ fsplit ! $ move ! (1 ∷ []) $ drop ! $ nothing ! $ nothing ! $ fjoin ! $ nothing ! $ fjoin ! $ move ! (1 ∷ 0 ∷ []) $ fjoin ! $ move ! (2 ∷ 0 ∷ 1 ∷ []) $ done !))
