-- The stretch is lent apart from the rest, which closes round any items that are written.
use Rattle.ring_slots.proofs.Words.{proved, rawptr_vals, rawptr_Tells, uint_vals, uint_Tells, mut_vals, mut_Tells, Vals, Goes-number, Goes-pointer, stay_number, stay_pointer, ◌≡◌, refl, ap, ◌∙◌, List, [], ◌∷◌, ℕ, ◌+◌, ◌*◌, ◌^◌, ◌<◌, length, Fn, a_type, named, inst_fn, Val, vint, w64, full_share, SProp, ent, sep, Fml, GName, ftrue, fat, flft, sem, ‵, raw, ◌⊛◌, some, later, at_ret, ◌$◌, ◌∵◌, !, qed, move, keep, drop, use1, pick, split, split3, join, fsplit3, fjoin3, rewrite, suffices, frame, group, await, done, of_opd, bin, agg, and_then, no_more, is, size_word, first, blocks, exec, returns, enter, alloc_all, pass_all, free_all, look_at, get, sets, sets_last, take_at, give_at, env, ◌⊑◌, fact, tables, usize, no, follows, mem, cells, layouts, Ptr, RawPtr, ptr_val, MutRef, plain, mut_ref_to, nothing, heard, says, Stays, stay_dropped, Goes-spent_ref, walk_of, ends_at, type_size, after, ty_ptr, take, cut, Array, MutSlice, slice_val, IsFullStretch, row, lends_Elements}
use Rattle.ring_slots.proofs.SlotsInMemory.{around, product_is, stretch_fits, stretch_long, row-cells, stretch_out}
use Rattle.ring_slots.proofs.OwnerParts.{R, Rest, Seen, back, pointer_good, refilled_owner, slots_opened}
use Rattle.ring_slots.specs.contracts.block.Owner.slice_mut as contract
use Rattle.ring_slots.proofs.block.Owner.slice_mut.Statement.{statement}
use Rattle.ring_slots.proofs.block.Owner.slice_mut.Code as code

pub slice_mut_spec : {M : Type 1} → statement M
slice_mut_spec 𝓤 𝓛 𝓜 𝓡 wired X L =
    let clauses = contract.clauses X 𝓛 𝓜.mem 𝓡.returns in
    let ended = contract.ended X in let stayed : Stays ended.signature.params ended.kept = (stay_dropped (mut_ref_to (0 ∷ []) tt (plain (λ _. Seen X))) no, (stay_pointer, (stay_number, (stay_number, tt)))) in
    let given = layouts (a_type ∷ []) (X, tt) in let fn : Fn = inst_fn given code.function in
    let 𝓣 = tables 𝓤 𝓛.H 𝓜 𝓡 𝓡.env in
    proved 𝓛 ended stayed clauses 𝓜 𝓡 (Goes-spent_ref 𝓛 2 (0 ∷ []) tt (plain (λ _. Seen X)), (Goes-pointer 𝓛 2, (Goes-number 𝓛 2, (Goes-number 𝓛 2, tt))))
    (contract.Key.name given) fn (code.unfolded 𝓤 𝓛.H 𝓜 𝓡 wired (X, tt))
    (λ κs. (mut_vals, (rawptr_vals, (uint_vals w64, (uint_vals w64, tt))))) (λ κs. (mut_Tells (named 0) κs.0 (Seen X), (rawptr_Tells, (uint_Tells w64, (uint_Tells w64, tt))))) (λ κs qs bounds a _ are.
    let κ = κs.0 in let q = qs.0 in let γ = a.0.ghost_name in let fits_from = are.1.1.0.1 in let fits_len = are.1.1.1.0.1 in
    let rb = a.0.ref_ptr.0 in let ro = a.0.ref_ptr.1 in let d = a.0.now in let ptr = a.1.0 in let from = a.1.1.0 in let len = a.1.1.1.0 in let bytes = type_size (R X) in
    let vss : Vals (contract.signature X) κs = (mut_vals a.0, (rawptr_vals ptr, (uint_vals w64 from, (uint_vals w64 len, tt)))) in
    let y : (walk_of 𝓛 ended stayed clauses).Ghost = ((κs, qs, bounds, a, vss), tt) in let Post : Val → SProp 𝓤 = (walk_of 𝓛 ended stayed clauses).post y in
    qed 𝓛 (((‵ (flft κ q) ⊛ ‵ (flft κs.1.0 qs.1.0) ⊛ ‵ ftrue)
    ⊛ ‵ ((MutRef (named 0) κ (Seen X)).own_val a.0 vss.0) ⊛ ‵ (RawPtr.own_val ptr vss.1.0) ⊛ ‵ (usize.own_val from vss.1.1.0) ⊛ ‵ (usize.own_val len vss.1.1.1.0) ⊛ ‵ ftrue)
    ∷ (raw (fact 𝓤 (κs.1.0 ⊑ X.lives)) ⊛ raw (fact 𝓤 (ptr ≡ d.at)) ⊛ raw (fact 𝓤 (IsFullStretch d.slots from len))) ∷ []) ∵
    move ! (1 ∷ []) $ split ! $ drop ! $ split ! $ heard ! _ (λ same. heard ! _ (λ full.
    split ! $ split ! $ move ! (2 ∷ []) $ split ! $ fsplit3 ! $ drop ! $ keep ! (0 ∷ 1 ∷ 3 ∷ 4 ∷ []) $
    enter ! _ _ _ _ _ $ alloc_all ! (λ l. pass_all ! refl ((tt, tt), (pointer_good ptr, ((tt, record { fits = fits_from }), ((tt, record { fits = fits_len }), tt)))) $
    slots_opened X ! tt d rb ro (λ us b o lies fit.
    let xs : List X.Denot = full.1.0 in let holds = full.1.1 in
    let long = stretch_long d.slots from len xs full.0 holds in
    let fits = stretch_fits from len (length d.slots) bytes full.0 fit in
    let at : ℕ = from * bytes + o in
    let rest = Rest X 𝓛 d us b o rb ro from len in let out = refilled_owner X 𝓛 d us b o rb ro from len in
    let roomy : length xs < 2 ^ 64 = rw long fits_len in let fitting : length xs * bytes < 2 ^ 63 = rw long fits.1 in
    let way : (ws : List X.Denot) → length ws ≡ length xs → ent 𝓤 (sep 𝓤 (sem 𝓛 (cells (mem (R X)) ws b at)) (sem 𝓛 rest)) (sem 𝓛 ((mem (Seen X)).own_at (out ws) rb ro)) =
    λ ws e. back X 𝓛 d us b o rb ro from len lies fit full.0 ws (e ∙ long) in
    let was = (Seen X).coded.code d in
    take_at ! 2 $ rewrite ! 0 (λ (p : Ptr). ‵ (fat full_share ty_ptr (l 2) 0 (ptr_val p))) (same ∙ lies) refl $ give_at ! 2 $
    first ! $ blocks ! $
    sets ! (is ! (bin ! (get ! refl) (size_word !) (record { fits = rw (product_is from bytes fits.0) fits.0 })) (ap (vint w64) (product_is from bytes fits.0))) refl (tt, record { fits = fits.0 }) $
    sets ! (bin ! (get ! refl) (get ! refl) tt) refl (tt, tt) $
    sets_last ! (agg ! (and_then ! (get ! refl) (and_then ! (get ! refl) (no_more !)))) refl (tt, (tt, (record { fits = fits_len }, tt))) $
    exec ! 𝓣.C 𝓣.Λ (env fn.locals l) (after 1 fn.body) (at_ret _ Post) $ sets ! (of_opd ! (get ! refl)) refl (tt, (tt, (record { fits = fits_len }, tt))) $
    use1 𝓛 (‵ (row (R X) b at (take len (cut from d.slots))) ⊛ ‵ (around X b o d.slots from len)) (stretch_out X b 𝓛 d.slots from len o full.0) $ split ! $
    rewrite ! 0 (λ (cs : List _). ‵ (row (R X) b at cs)) holds refl $ rewrite ! 0 (λ (f : Fml). ‵ f) (row-cells X b xs at) refl $
    -- [the items; the other slots; the mark; its cell; the open borrow, in three entries; the other tokens]
    move ! (1 ∷ 2 ∷ 3 ∷ []) $ fjoin3 ! $ move ! (2 ∷ 3 ∷ 4 ∷ 1 ∷ 0 ∷ []) $ group ! 5 $
    use1 𝓛 (later (some (λ (δ : GName). ‵ ((MutSlice (named 0) κ (R X)).own_val (record { ref_ptr = (b, at); ghost_name = δ; now = xs }) (slice_val (b, at) (length xs) ∷ [])) ⊛ ‵ (flft κ q) ⊛ ‵ (follows (Seen X) (Array (R X) 0) γ δ out))))
    (lends_Elements 𝓛 (Seen X) (R X) out (named 0) κ q rb ro b at γ xs (roomy, fitting) (sem 𝓛 rest) way was was) $ await ! tt $ pick ! (λ δ. split3 ! $
    rewrite ! 0 (λ (k : ℕ). ‵ ((MutSlice (named 0) κ (R X)).own_val (record { ref_ptr = (b, at); ghost_name = δ; now = xs }) (slice_val (b, at) k ∷ []))) long refl $
    returns ! (look_at ! 0 refl) $ free_all ! refl $
    suffices ! _ (ends_at 𝓛 ended stayed clauses y (slice_val (b, at) len) (record { ref_ptr = (b, at); ghost_name = δ; now = xs }) (tt, (tt, (tt, (tt, tt)))) (tt, (tt, (tt, (tt, tt))))) $
    -- [the reference; its token; what the slots end as; the other tokens]
    move ! (1 ∷ 3 ∷ []) $ join ! $ nothing ! $ nothing ! $ join ! $ nothing ! $ join ! $ nothing ! $ join ! $ nothing ! $ join ! $ move ! (1 ∷ 0 ∷ 2 ∷ []) $ group ! 3 $ frame ! $ says ! holds $ done !))))))
