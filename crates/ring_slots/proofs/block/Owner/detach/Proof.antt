-- The slots become a row, and none are left.
use Rattle.ring_slots.proofs.Words.{is_some, drop, proved, rawptr_vals, rawptr_Tells, uint_vals, uint_Tells, mut_vals, mut_Tells, w64, Vals, Goes-number, Goes-pointer, stay_number, stay_pointer, ◌≡◌, refl, sym, subst, ◌∙◌, List, [], ◌∷◌, ℕ, ◌*◌, ◌^◌, ◌<◌, zero-mul, arith, length, length-map, map, get_or, false, None, Fn, a_type, named, inst_fn, Val, vptr, full_share, SProp, Bool, ftrue, fat, flft, ‵, raw, ◌⊛◌, some, given, later, learn, await, pick, at_ret, ◌$◌, ◌∵◌, !, qed, move, keep, use1, use2, split, join, fsplit3, fjoin, fjoin3, feq_i, rewrite, suffices, frame, done, of_opd, and_then, no_more, first, blocks, exec, returns, enter, alloc_all, pass_all, free_all, look_at, get, sets, is, lands_last, take_at, give_at, env, ◌⊑◌, fact, tables, usize, layouts, Ptr, RawPtr, ptr_val, MutRef, plain, nothing, heard, Stays, stay_ref, Goes-ref, walk_of, ends_at, calls_at_last, framed, type_size, after, ty_ptr, if◌then◌else◌, slice_get, row_val}
use Rattle.std.proofs.lemmas.List.{get_or_past}
use Rattle.std_alloc.proofs.vec.Blocks.{all}
use Rattle.std_alloc.proofs.vec.Spares.{Row, row_Typed, From, Made, at_from, from_gives, from_goes}
use Rattle.core.proofs.slots.Slots.from_raw_parts.Met as callee
use Rattle.ring_slots.proofs.CoreRows.{held_in, items_of, or_this, to_row}
use Rattle.core.proofs.mem.Facts.{says_two}
use Rattle.ring_slots.proofs.OwnerParts.{R, Seen, pointer_good, slots_opened, slots_closed}
use Rattle.ring_slots.specs.contracts.block.Owner.detach as contract
use Rattle.ring_slots.proofs.block.Owner.detach.Statement.{statement}
use Rattle.ring_slots.proofs.block.Owner.detach.Code as code

pub detach_spec : {M : Type 1} → statement M
detach_spec 𝓤 𝓛 𝓜 𝓡 wired X L =
    let clauses = contract.clauses X 𝓛 𝓜.mem 𝓡.returns in
    let ended = contract.ended X in let stayed : Stays ended.signature.params ended.kept = (stay_ref (0 ∷ []) tt (plain (λ _. Seen X)), (stay_pointer, (stay_number, tt))) in
    let args = layouts (a_type ∷ []) (X, tt) in let fn : Fn = inst_fn args code.function in
    let 𝓣 = tables 𝓤 𝓛.H 𝓜 𝓡 𝓡.env in let E = items_of X L in
    proved 𝓛 ended stayed clauses 𝓜 𝓡 (Goes-ref 𝓛 2 0 tt (plain (λ _. Seen X)), (Goes-pointer 𝓛 2, (Goes-number 𝓛 2, tt)))
    (contract.Key.name args) fn (code.unfolded 𝓤 𝓛.H 𝓜 𝓡 wired (X, tt))
    (λ κs. (mut_vals, (rawptr_vals, (uint_vals w64, tt)))) (λ κs. (mut_Tells (named 0) κs.0 (Seen X), (rawptr_Tells, (uint_Tells w64, tt)))) (λ κs qs bounds a _ are.
    let κ = κs.1.0 in let q = qs.1.0 in let fits = are.1.1.0.1 in
    let rb = a.0.ref_ptr.0 in let ro = a.0.ref_ptr.1 in let d = a.0.now in let ptr = a.1.0 in let n = a.1.1.0 in
    let vss : Vals (contract.signature X) κs = (mut_vals a.0, (rawptr_vals ptr, (uint_vals w64 n, tt))) in
    let y : (walk_of 𝓛 ended stayed clauses).Ghost = ((κs, qs, bounds, a, vss), tt) in let Post : Val → SProp 𝓤 = (walk_of 𝓛 ended stayed clauses).post y in
    qed 𝓛 (((‵ (flft κs.0 qs.0) ⊛ ‵ (flft κ q) ⊛ ‵ ftrue)
    ⊛ ‵ ((MutRef (named 0) κs.0 (Seen X)).own_val a.0 vss.0) ⊛ ‵ (RawPtr.own_val ptr vss.1.0) ⊛ ‵ (usize.own_val n vss.1.1.0) ⊛ ‵ ftrue)
    ∷ (raw (fact 𝓤 (κ ⊑ X.lives)) ⊛ raw (fact 𝓤 (ptr ≡ d.at)) ⊛ raw (fact 𝓤 (n ≡ length d.slots)) ⊛ raw (fact 𝓤 X.Denot)) ∷ []) ∵
    move ! (1 ∷ []) $ split ! $ heard ! _ (λ lives. split ! $ heard ! _ (λ same. split ! $ heard ! _ (λ whole. heard ! _ (λ like.
    split ! $ split ! $ move ! (2 ∷ []) $ split ! $ fsplit3 ! $ drop ! $ keep ! (0 ∷ 1 ∷ 3 ∷ 4 ∷ []) $
    enter ! _ _ _ _ _ $ alloc_all ! (λ l. pass_all ! refl ((tt, tt), (pointer_good ptr, ((tt, record { fits = fits }), tt))) $
    slots_opened X ! tt d rb ro (λ us b o lies fit.
    let xs : List X.Denot = map (or_this like) d.slots in let fs : List Bool = map is_some d.slots in
    let z : (From E 𝓛 𝓜.mem 𝓡.returns).Ghost = at_from E 𝓛 𝓜.mem 𝓡.returns κ q b o n xs fs in
    let few : n * type_size (R X) < 2 ^ 63 = subst (λ (k : ℕ). k * type_size (R X) < 2 ^ 63) (sym whole) fit in
    let none : (Seen X).Denot = record d { slots = [] } in
    take_at ! 2 $ rewrite ! 0 (λ (p : Ptr). ‵ (fat full_share ty_ptr (l 2) 0 (ptr_val p))) (same ∙ lies) refl $ give_at ! 2 $
    use1 𝓛 (‵ (all E b o xs fs)) (to_row X 𝓛 b like d.slots o) $
    first ! $ blocks ! $
    move ! (6 ∷ []) $ split ! $ move ! (2 ∷ 0 ∷ []) $
    use2 𝓛 (raw ((From E 𝓛 𝓜.mem 𝓡.returns).pre z)) (from_goes E 𝓛 𝓜.mem 𝓡.returns κ q b o n xs fs lives (whole ∙ sym (length-map d.slots (or_this like))) (whole ∙ sym (length-map d.slots is_some)) fits few) $
    calls_at_last ! (framed 𝓤 𝓛.H 𝓜 𝓣) (From E 𝓛 𝓜.mem 𝓡.returns) (callee.met 𝓤 𝓛 𝓜 𝓡 (code.calls-core::slots::Slots::from_raw_parts 𝓡.env wired) X L) z (and_then ! (get ! refl) (and_then ! (get ! refl) (no_more !))) (λ v.
    use1 𝓛 (later (some (λ (r : (Row E).Denot). given ((v ≡ row_val b o n) × Made E 𝓛 𝓜.mem 𝓡.returns κ q b o n xs fs r) (‵ ((Row E).own_val r (row_val b o n ∷ [])) ⊛ ‵ (flft κ q)))))
    (from_gives E 𝓛 𝓜.mem 𝓡.returns κ q b o n xs fs v) $ await ! tt $ pick ! (λ r. learn ! (λ made. split ! $
    lands_last ! refl (row_Typed E v b o n made.0 fits) $ exec ! 𝓣.C 𝓣.Λ (env fn.locals l) (after 1 fn.body) (at_ret _ Post) $
    sets ! (is ! (of_opd ! (get ! refl)) made.0) refl (tt, (tt, (record { fits = fits }, tt))) $
    move ! (2 ∷ 3 ∷ 4 ∷ 5 ∷ 6 ∷ 7 ∷ []) $ slots_closed X ! tt none us b o rb ro lies (omega (arith, zero-mul (type_size (R X)))) $
    -- [the slots' owner, in two entries; its token; the row; the other token]
    returns ! (look_at ! 0 refl) $ free_all ! refl $ keep ! (4 ∷ 2 ∷ 0 ∷ 1 ∷ 3 ∷ []) $
    suffices ! _ (ends_at 𝓛 ended stayed clauses y (row_val b o n) r (none, (tt, (tt, tt))) (tt, (tt, (tt, tt)))) $
    says_two ! ((made.1.0 ∙ sym lies, record { size = sym (made.1.1 ∙ whole); held = λ i low. held_in like d.slots i ∙ sym (λ j. if get_or (made.1.3 j) i false then slice_get (made.1.2 j) i else None); behind = λ i late. get_or_past d.slots i None (omega arith) }), (refl, refl)) $
    nothing ! $ move ! (1 ∷ 0 ∷ []) $ join ! $ move ! (1 ∷ 0 ∷ []) $ join ! $ frame ! $
    feq_i ! (List Val) vss.0 (vptr rb ro ∷ []) refl $ fjoin3 ! $ nothing ! $ nothing ! $ fjoin ! $ nothing ! $ fjoin ! $ move ! (1 ∷ 0 ∷ []) $ fjoin ! $ frame ! $ done !))))))))))
