-- What a `&` to the slots shows of a stretch of full ones is a slice of their items.
use Rattle.ring_slots.proofs.Words.{proved, rawptr_vals, rawptr_Tells, uint_vals, uint_Tells, shr_vals, shr_Tells, Vals, Goes-number, Goes-pointer, stay_number, stay_pointer, ◌≡◌, refl, ◌∙◌, List, [], ◌∷◌, ℕ, ◌+◌, ◌*◌, length, Fn, a_type, named, inst_fn, Val, full_share, SProp, never, id⊢, ftrue, fat, flft, ‵, raw, ◌⊛◌, at_ret, ◌$◌, ◌∵◌, !, qed, move, keep, drop, use1, split, join, fsplit, fjoin, feq_i, flt_l, rewrite, suffices, frame, done, of_opd, bin, first, blocks, exec, returns, enter, alloc_all, pass_all, free_all, look_at, get, sets, sets_last, take_at, give_at, env, ◌⊑◌, fact, tables, RefOf, usize, yes, layouts, Ptr, RawPtr, ptr_val, in_a_block, ShrRef, plain, nothing, heard, says, Stays, stay_dropped, Goes-dropped, walk_of, ends_at, type_size, after, ap, sym, agg, and_then, no_more, flt_i, vint, w64, is, size_word, ◌^◌, ty_ptr, elements_shared, slice_val, lent, IsFullStretch, hide, unhide}
use Rattle.ring_slots.proofs.SlotsInMemory.{product_is, stretch_fits, stretch_long, stretch_seen}
use Rattle.ring_slots.proofs.OwnerParts.{R, Seen, pointer_good}
use Rattle.ring_slots.specs.contracts.block.Owner.slice as contract
use Rattle.ring_slots.proofs.block.Owner.slice.Statement.{statement}
use Rattle.ring_slots.proofs.block.Owner.slice.Code as code

pub slice_spec : {M : Type 1} → statement M
slice_spec 𝓤 𝓛 𝓜 𝓡 wired X L =
    let clauses = contract.clauses X 𝓛 𝓜.mem 𝓡.returns in
    let ended = contract.ended X in let stayed : Stays ended.signature.params ended.kept = (stay_dropped (RefOf (0 ∷ []) tt (plain (λ _. Seen X)) (λ _. tt)) yes, (stay_pointer, (stay_number, (stay_number, tt)))) in
    let given = layouts (a_type ∷ []) (X, tt) in let fn : Fn = inst_fn given code.function in
    let 𝓣 = tables 𝓤 𝓛.H 𝓜 𝓡 𝓡.env in
    proved 𝓛 ended stayed clauses 𝓜 𝓡 (Goes-dropped 𝓛 2 (RefOf (0 ∷ []) tt (plain (λ _. Seen X)) (λ _. tt)) yes (λ κs x w. refl), (Goes-pointer 𝓛 2, (Goes-number 𝓛 2, (Goes-number 𝓛 2, tt))))
    (contract.Key.name given) fn (code.unfolded 𝓤 𝓛.H 𝓜 𝓡 wired (X, tt))
    (λ κs. (shr_vals, (rawptr_vals, (uint_vals w64, (uint_vals w64, tt))))) (λ κs. (shr_Tells (named 0) κs.0 (Seen X), (rawptr_Tells, (uint_Tells w64, (uint_Tells w64, tt))))) (λ κs qs bounds a _ are.
    let κ = κs.0 in let fits_from = are.1.1.0.1 in let fits_len = are.1.1.1.0.1 in
    let d = a.0.now in let ptr = a.1.0 in let from = a.1.1.0 in let len = a.1.1.1.0 in let bytes = type_size (R X) in
    let vss : Vals (contract.signature X) κs = (shr_vals a.0, (rawptr_vals ptr, (uint_vals w64 from, (uint_vals w64 len, tt)))) in
    let y : (walk_of 𝓛 ended stayed clauses).Ghost = ((κs, qs, bounds, a, vss), tt) in let Post : Val → SProp 𝓤 = (walk_of 𝓛 ended stayed clauses).post y in
    qed 𝓛 (((‵ (flft κ qs.0) ⊛ ‵ (flft κs.1.0 qs.1.0) ⊛ ‵ ftrue)
    ⊛ ‵ ((ShrRef (named 0) κ (Seen X)).own_val a.0 vss.0) ⊛ ‵ (RawPtr.own_val ptr vss.1.0) ⊛ ‵ (usize.own_val from vss.1.1.0) ⊛ ‵ (usize.own_val len vss.1.1.1.0) ⊛ ‵ ftrue)
    ∷ (raw (fact 𝓤 (κs.1.0 ⊑ X.lives)) ⊛ raw (fact 𝓤 (ptr ≡ d.at)) ⊛ raw (fact 𝓤 (IsFullStretch d.slots from len))) ∷ []) ∵
    move ! (1 ∷ []) $ split ! $ drop ! $ split ! $ heard ! _ (λ same. heard ! _ (λ full.
    split ! $ split ! $ move ! (2 ∷ []) $ split ! $ fsplit ! $ drop ! $ keep ! (0 ∷ 2 ∷ 3 ∷ []) $
    enter ! _ _ _ _ _ $ alloc_all ! (λ l. pass_all ! refl ((tt, tt), (pointer_good ptr, ((tt, record { fits = fits_from }), ((tt, record { fits = fits_len }), tt)))) $
    unhide ! $ fsplit ! $ drop ! $
    in_a_block ! d.at (λ p. lent (R X) p d.slots κ) (id⊢ 𝓤 (never 𝓤)) (λ b o lies. fsplit ! $ flt_l ! (λ fit.
    let xs : List X.Denot = full.1.0 in let holds = full.1.1 in
    let long = stretch_long d.slots from len xs full.0 holds in
    let fits = stretch_fits from len (length d.slots) bytes full.0 fit in
    let at : ℕ = from * bytes + o in
    take_at ! 2 $ rewrite ! 0 (λ (p : Ptr). ‵ (fat full_share ty_ptr (l 2) 0 (ptr_val p))) (same ∙ lies) refl $ give_at ! 2 $
    first ! $ blocks ! $
    sets ! (is ! (bin ! (get ! refl) (size_word !) (record { fits = rw (product_is from bytes fits.0) fits.0 })) (ap (vint w64) (product_is from bytes fits.0))) refl (tt, record { fits = fits.0 }) $
    sets ! (bin ! (get ! refl) (get ! refl) tt) refl (tt, tt) $
    use1 𝓛 (‵ (elements_shared (R X) xs b at κ)) (stretch_seen X b 𝓛 κ d.slots from len o xs full.0 holds) $ hide ! $
    sets_last ! (agg ! (and_then ! (get ! refl) (and_then ! (get ! refl) (no_more !)))) refl (tt, (tt, (record { fits = fits_len }, tt))) $
    exec ! 𝓣.C 𝓣.Λ (env fn.locals l) (after 1 fn.body) (at_ret _ Post) $ sets ! (of_opd ! (get ! refl)) refl (tt, (tt, (record { fits = fits_len }, tt))) $
    -- [the items; the token; the other tokens]
    returns ! (look_at ! 0 refl) $ free_all ! refl $ keep ! (1 ∷ 2 ∷ 0 ∷ []) $
    suffices ! _ (ends_at 𝓛 ended stayed clauses y (slice_val (b, at) len) (record { ref_ptr = (b, at); now = xs }) (tt, (tt, (tt, (tt, tt)))) (tt, (tt, (tt, (tt, tt))))) $ says ! holds $
    join ! $ frame ! $ nothing ! $ nothing ! $ fjoin ! $ nothing ! $ fjoin ! $ nothing ! $ fjoin ! $ nothing ! $ fjoin ! $ frame ! $
    flt_i ! (length xs * bytes) (2 ^ 63) (rw long fits.1) $ flt_i ! (length xs) (2 ^ 64) (rw long fits_len) $ fjoin ! $
    feq_i ! (List Val) (slice_val (b, at) len ∷ []) (slice_val (b, at) (length xs) ∷ []) (ap (λ (k : ℕ). slice_val (b, at) k ∷ []) (sym long)) $ fjoin ! $ fjoin ! $ done !))))))
