-- The row becomes slots again, which the owner closes over.
use Rattle.ring_slots.proofs.Words.{Goes-number, stay_number, ◌≡◌, refl, sym, subst, ◌∙◌, List, [], ◌∷◌, ◌++◌, ℕ, ◌*◌, ◌^◌, ◌<◌, length, Fn, a_type, named, inst_fn, Val, vptr, vunit, SProp, Bool, ftrue, flft, WpFn, ‵, raw, ◌⊛◌, given, later, learn, await, prop, at_ret, ◌$◌, ◌∵◌, !, qed, move, keep, drop, use1, use2, split, split3, join, fsplit, fsplit3, fjoin, fjoin3, feq_i, feq_l, flt_l, regoal, suffices, frame, done, unit_lit, of_opd, and_then, no_more, first, blocks, exec, returns, enter, alloc_all, pass_all, free_all, look_at, get, sets, lands_last, env, ◌⊑◌, fact, tables, usize, no, layouts, MutRef, plain, nothing, heard, says, Stays, stay_dropped, stay_ref, Goes-dropped, Goes-ref, walk_of, ends_at, calls_at_last, framed, type_size, after, proved_at, row, row_val}
use Rattle.core.specs.Mem.Slots.{slots_counts, slots_filled, slots_items, slots_len, slots_ptr}
use Rattle.core.specs.contracts.slots.Slots as C
use Rattle.core.proofs.slots.Opens.{row_had, row_made}
use Rattle.core.proofs.slots.Slots.into_raw_parts.Met as callee
use Rattle.std_alloc.proofs.vec.Blocks.{all, el}
use Rattle.std_alloc.proofs.vec.Spares.{Row, parts_typed, Into, Into-gives, Into-goes, at_into}
use Rattle.ring_slots.proofs.CoreRows.{held_to, items_of, length-slots_to, of_row, slots_to}
use Rattle.ring_slots.proofs.OwnerParts.{R, Seen, slots_opened, slots_closed}
use Rattle.ring_slots.specs.contracts.block.Owner.attach as contract
use Rattle.ring_slots.proofs.block.Owner.attach.Statement.{statement}
use Rattle.ring_slots.proofs.block.Owner.attach.Code as code

pub attach_spec : {M : Type 1} → statement M
attach_spec 𝓤 𝓛 𝓜 𝓡 wired X L =
    let clauses = contract.clauses X 𝓛 𝓜.mem 𝓡.returns in
    let ended = contract.ended X in let stayed : Stays ended.signature.params ended.kept = (stay_ref (0 ∷ []) tt (plain (λ _. Seen X)), (stay_dropped (plain (λ _. C.the_row (R X))) no, (stay_number, tt))) in
    let args = layouts (a_type ∷ []) (X, tt) in let fn : Fn = inst_fn args code.function in
    let 𝓣 = tables 𝓤 𝓛.H 𝓜 𝓡 𝓡.env in let E = items_of X L in
    proved_at 𝓛 ended stayed clauses 𝓜 𝓡
    (Goes-ref 𝓛 2 0 tt (plain (λ _. Seen X)), (Goes-dropped 𝓛 2 (plain (λ _. Row E)) no (λ κs x w. refl), (Goes-number 𝓛 2, tt)))
    (contract.Key.name args) fn (code.unfolded 𝓤 𝓛.H 𝓜 𝓡 wired (X, tt)) (λ y _.
    let κs = y.0.0 in let qs = y.0.1 in let a = y.0.3 in let vss = y.0.4 in let κ = κs.1.0 in let q = qs.1.0 in
    let rb = a.0.ref_ptr.0 in let ro = a.0.ref_ptr.1 in let d = a.0.now in let r : (Row E).Denot = a.1.0 in let len = a.1.1.0 in
    let n : ℕ = slots_len r in let xs : List X.Denot = slots_items r in let fs : List Bool = slots_filled r in
    let Post : Val → SProp 𝓤 = (walk_of 𝓛 ended stayed clauses).post y in
    qed 𝓛 (((‵ (flft κs.0 qs.0) ⊛ ‵ (flft κ q) ⊛ ‵ ftrue)
    ⊛ ‵ ((MutRef (named 0) κs.0 (Seen X)).own_val a.0 vss.0) ⊛ ‵ ((Row E).own_val r vss.1.0) ⊛ ‵ (usize.own_val len vss.1.1.0) ⊛ ‵ ftrue)
    ∷ (raw (fact 𝓤 (κ ⊑ X.lives)) ⊛ raw (fact 𝓤 (slots_ptr r ≡ d.at)) ⊛ raw (fact 𝓤 (d.slots ≡ []))) ∷ []) ∵
    move ! (1 ∷ []) $ split ! $ heard ! _ (λ lives. split ! $ heard ! _ (λ same. heard ! _ (λ out.
    split ! $ split ! $ move ! (2 ∷ []) $ split3 ! $ fsplit3 ! $ feq_l ! (λ refers.
    move ! (2 ∷ []) $ row_had (el E) ! r vss.1.0 (λ b o lies words few fit. row_made (el E) ! r b o lies few fit $
    move ! (3 ∷ []) $ split ! $ fsplit ! $ feq_l ! (λ len_is. flt_l ! (λ fits.
    regoal ! (λ (ws : List Val × List Val × List Val). prop (WpFn 𝓤 𝓛.H 𝓣.C 𝓣.Λ fn (ws.0 ++ (ws.1 ++ (ws.2 ++ []))) Post)) (λ i. (refers i, words i, len_is i)) refl $
    keep ! (1 ∷ 5 ∷ 2 ∷ 3 ∷ 4 ∷ []) $
    enter ! _ _ _ _ _ $ alloc_all ! (λ l. pass_all ! refl ((tt, tt), ((tt, (tt, (record { fits = few }, tt))), ((tt, record { fits = fits }), tt))) $
    let z : (Into E 𝓛 𝓜.mem 𝓡.returns).Ghost = at_into E 𝓛 𝓜.mem 𝓡.returns κ q r b o in
    let counts = slots_counts r in let many : length fs ≡ length xs = sym counts.1 ∙ counts.0 in
    let long : length (slots_to len xs fs) ≡ n = length-slots_to len xs fs many ∙ sym counts.0 in
    let new : (Seen X).Denot = record d { slots = slots_to len xs fs } in
    first ! $ blocks ! $ sets ! (of_opd ! (get ! refl)) refl (tt, (tt, (record { fits = few }, tt))) $
    move ! (1 ∷ []) $ split ! $ move ! (2 ∷ 0 ∷ []) $
    use2 𝓛 (raw ((Into E 𝓛 𝓜.mem 𝓡.returns).pre z)) (Into-goes E 𝓛 𝓜.mem 𝓡.returns κ q r b o lives) $
    calls_at_last ! (framed 𝓤 𝓛.H 𝓜 𝓣) (Into E 𝓛 𝓜.mem 𝓡.returns) (callee.met 𝓤 𝓛 𝓜 𝓡 (code.calls-core::slots::Slots::into_raw_parts 𝓡.env wired) X L) z (and_then ! (get ! refl) (no_more !)) (λ v.
    use1 𝓛 (later (given (v ≡ row_val b o n) (‵ (all E b o xs fs) ⊛ ‵ (flft κ q)))) (Into-gives E 𝓛 𝓜.mem 𝓡.returns κ q r b o v lies) $ await ! tt $ learn ! (λ given_back. split ! $
    lands_last ! refl (parts_typed v b o n given_back few) $ exec ! 𝓣.C 𝓣.Λ (env fn.locals l) (after 1 fn.body) (at_ret _ Post) $
    -- [the places; the other token; nothing; the slots' owner, in two entries; its token]
    sets ! (of_opd ! (get ! refl)) refl (parts_typed v b o n given_back few) $ sets ! (of_opd ! (unit_lit !)) refl (tt, tt) $
    use1 𝓛 (‵ (row (R X) b o new.slots)) (of_row X 𝓛 b len xs fs o) $ move ! (3 ∷ 4 ∷ 5 ∷ []) $
    slots_opened X ! tt d rb ro (λ us none at _ _. drop ! $ move ! (5 ∷ []) $
    slots_closed X ! tt new us b o rb ro (sym same ∙ lies) (subst (λ (k : ℕ). k * type_size (R X) < 2 ^ 63) (sym long) fit) $
    -- [the slots' owner, in two entries; its token; the other token; nothing]
    returns ! (look_at ! 0 refl) $ free_all ! refl $ keep ! (3 ∷ 4 ∷ 2 ∷ 0 ∷ 1 ∷ []) $
    suffices ! _ (ends_at 𝓛 ended stayed clauses y vunit tt (new, (tt, (tt, tt))) (tt, (tt, (tt, tt)))) $
    says ! (refl, record { size = long; held = λ i. (held_to len xs fs i many).0; behind = λ i. (held_to len xs fs i many).1 }) $
    join ! $ move ! (1 ∷ 0 ∷ []) $ join ! $ frame ! $
    feq_i ! (List Val) vss.0 (vptr rb ro ∷ []) refers $ fjoin3 ! $ nothing ! $ nothing ! $ fjoin ! $ nothing ! $ fjoin ! $ move ! (1 ∷ 0 ∷ []) $ fjoin ! $ frame ! $
    feq_i ! (List Val) (vunit ∷ []) (vunit ∷ []) refl $ done !))))))))))))
