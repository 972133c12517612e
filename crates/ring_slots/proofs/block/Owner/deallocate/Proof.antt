-- The row of empty slots is memory again, which goes back to the heap with the right to free it.
use Rattle.ring_slots.proofs.Words.{Goes-number, Goes-pointer, stay_number, stay_pointer, ◌≡◌, refl, sym, ap, subst, ◌∙◌, Bool, List, [], ◌∷◌, ◌++◌, ℕ, ◌*◌, ◌<◌, ◌^◌, arith, T, length, replicate, length-replicate, Fn, a_type, w64, ty_array, ty_unit, inst_fn, Val, vint, vunit, has_ty, WT, SProp, never, id⊢, ftrue, froom, flft, capped_fits, align, capped, WpFn, ‵, raw, ◌⊛◌, later, given, prop, at_ret, ◌$◌, ◌∵◌, !, qed, move, keep, drop, use1, learn, await, split, join, split3, fsplit, feq_l, flt_l, rewrite, regoal, suffices, group, fjoin, feq_i, done, stop, from, addr, of_opd, bin, size_word, align_word, unit_lit, no_more, and_then, first, blocks, exec, returns, enter, alloc_all, pass_all, free_all, look_at, get, is, sets, take_at, give_at, lands_last, env, ◌⊑◌, fact, tables, usize, yes, no, layout, layouts, Is, shows, Ptr, RawPtr, block_ptr, ptr_val, in_a_block, plain, nothing, heard, peeks, calls_at_last, framed, Stays, stay_dropped, Goes-dropped, walk_of, ends_at, Option, None, type_size, Global, as_raw, after, Goes-blank, proved_at, right, right_if}
use Rattle.std.specs.contracts.alloc.Global as heap
use Rattle.std.proofs.alloc.Global.TheLaws as heap_laws
use Rattle.std.proofs.impls.GlobalAllocator.deallocate.Met.{met}
use Rattle.ring_slots.specs.block.Block.{IsDeedOf}
use Rattle.ring_slots.specs.block.Memory.{owned}
use Rattle.ring_slots.proofs.BlockCalls.{Give, give, gives, gave, block_type, block_laid, handle_lent, handle_back}
use Rattle.ring_slots.proofs.SlotsInMemory.{has_size, product_is, to_room}
use Rattle.ring_slots.proofs.OwnerParts.{R, Seen, Right, mark_had}
use Rattle.ring_slots.specs.contracts.block.Owner.deallocate as contract
use Rattle.ring_slots.proofs.block.Owner.deallocate.Statement.{statement}
use Rattle.ring_slots.proofs.block.Owner.deallocate.Code as code

pub deallocate_spec : {M : Type 1} → statement M
deallocate_spec 𝓤 𝓛 𝓜 𝓡 wired X L =
    let clauses = contract.clauses X 𝓛 𝓜.mem 𝓡.returns in
    let ended = contract.ended X in
    let stayed : Stays ended.signature.params ended.kept = (stay_dropped (plain (λ _. heap.the_row)) yes, (stay_pointer, (stay_number, (stay_dropped (plain (λ _. Seen X)) no, (stay_dropped (plain (λ _. Right X)) no, tt))))) in
    let fn : Fn = inst_fn (layouts (a_type ∷ []) (X, tt)) code.function in
    let 𝓣 = tables 𝓤 𝓛.H 𝓜 𝓡 𝓡.env in
    proved_at 𝓛 ended stayed clauses 𝓜 𝓡
    (Goes-dropped 𝓛 1 (plain (λ _. heap.the_row)) yes (λ κs x w. refl), (Goes-pointer 𝓛 1, (Goes-number 𝓛 1, (Goes-blank 𝓛 1 (plain (λ _. Seen X)) no (λ κs x w. tt), (Goes-blank 𝓛 1 (plain (λ _. Right X)) no (λ κs x w. tt), tt)))))
    (contract.Key.name (layouts (a_type ∷ []) (X, tt))) fn (code.unfolded 𝓤 𝓛.H 𝓜 𝓡 wired (X, tt)) (λ y _.
    let κ = y.0.0.0 in let q = y.0.1.0 in let a = y.0.3 in let vss = y.0.4 in let alloc = a.0 in let ptr = a.1.0 in let n = a.1.1.0 in let slots = a.1.1.1.0 in let deed = a.1.1.1.1.0 in
    let bytes = type_size (R X) in let al = capped (align (layout X)) in
    let Post : Val → SProp 𝓤 = (walk_of 𝓛 ended stayed clauses).post y in
    qed 𝓛 (((‵ (flft κ q) ⊛ ‵ ftrue) ⊛ ‵ (heap.the_row.own_val alloc vss.0) ⊛ ‵ (RawPtr.own_val ptr vss.1.0) ⊛ ‵ (usize.own_val n vss.1.1.0) ⊛ ‵ ((Seen X).own_val slots vss.1.1.1.0) ⊛ ‵ ((Right X).own_val deed vss.1.1.1.1.0) ⊛ ‵ ftrue)
    ∷ (raw (fact 𝓤 (κ ⊑ X.lives)) ⊛ raw (fact 𝓤 (0 < bytes)) ⊛ raw (fact 𝓤 (slots.slots ≡ replicate n None)) ⊛ raw (fact 𝓤 (IsDeedOf alloc ptr slots deed))) ∷ []) ∵
    move ! (1 ∷ []) $ split ! $ drop ! $ split ! $ heard ! _ (λ sized. split ! $ heard ! _ (λ empty. heard ! _ (λ rightful.
    split ! $ split ! $ move ! (2 ∷ []) $ split3 ! $ peeks ! heap.the_row (Is heap.the_row) (shows 𝓛 heap.the_row) alloc vss.0 (λ sane. drop ! $ feq_l ! (λ pointed.
    split3 ! $ fsplit ! $ feq_l ! (λ sent. flt_l ! (λ few. fsplit ! $ mark_had X ! vss.1.1.1.0 (λ first_mark. move ! (1 ∷ []) $ split ! $ fsplit ! $ mark_had X ! vss.1.1.1.1.0 (λ second_mark.
    let long : deed.len ≡ n = rightful.2 ∙ ap (λ (cs : List (Option X.Denot)). length cs) empty ∙ length-replicate n None in
    -- [the right; nothing; the slots; the token]
    keep ! (2 ∷ 0 ∷ 3 ∷ []) $
    rewrite ! 0 (λ (c : Ptr × List (Option X.Denot)). ‵ (owned (R X) c.0 c.1)) (λ i. (rightful.0 i, empty i)) refl $
    rewrite ! 1 (λ (c : Global × Ptr × ℕ). ‵ (right (R X) c.0 c.1 c.2)) (λ i. (rightful.3 i, rightful.1 i, long i)) refl $
    in_a_block ! ptr (λ p. owned (R X) p (replicate n None)) (id⊢ 𝓤 (never 𝓤)) (λ b o lies. fsplit ! $ flt_l ! (λ fit.
    let small : n * bytes < 2 ^ 63 = subst (λ (k : ℕ). k * bytes < 2 ^ 63) (length-replicate n None) fit in let far : n * bytes < 2 ^ 64 = omega arith in
    rewrite ! 1 (λ (p : Ptr). ‵ (right (R X) alloc p n)) lies refl $
    regoal ! (λ (ws : List Val × List Val × List Val × List Val × List Val). prop (WpFn 𝓤 𝓛.H 𝓣.C 𝓣.Λ fn (ws.0 ++ (ws.1 ++ (ws.2 ++ (ws.3 ++ (ws.4 ++ []))))) Post))
    (λ i. (heap_laws.lowers.val_is alloc vss.0 sane i, (pointed ∙ ap (λ (p : Ptr). ptr_val p ∷ []) lies) i, sent i, first_mark i, second_mark i)) refl $
    enter ! _ _ _ _ _ $ alloc_all ! (λ l. pass_all ! refl ((tt, ((tt, tt), tt)), ((tt, tt), ((tt, record { fits = few }), ((tt, (tt, tt)), ((tt, (tt, tt)), tt))))) $
    sets ! (of_opd ! (get ! refl)) refl (tt, ((tt, tt), tt)) $
    first ! $ blocks ! $
    sets ! (addr ! (from ! (stop !))) refl (tt, tt) $
    sets ! (of_opd ! (get ! refl)) refl (tt, tt) $
    sets ! (is ! (bin ! (get ! refl) (size_word !) (record { fits = rw (product_is n bytes far) far })) (ap (vint w64) (product_is n bytes far))) refl (tt, record { fits = far }) $
    use1 𝓛 (‵ (froom (ty_array (layout X) (length (replicate n None))) b o)) (to_room X b 𝓛 (replicate n None) o) $
    rewrite ! 0 (λ (k : ℕ). ‵ (froom (ty_array (layout X) k) b o)) (length-replicate n None) refl $ as_raw ! (ty_array (layout X) n) b o $
    rewrite ! 1 (λ (w : Bool). ‵ (right_if (R X) w alloc (block_ptr b o) n)) (has_size bytes sized) refl $
    -- [the block; the right to free it; the token]
    take_at ! 6 $ move ! (0 ∷ 3 ∷ []) $ handle_lent alloc (l 6) κ q ! tt (λ m.
    -- [the `&` to the handle; its token; its way back; the block; the right to free it]
    let γ = m.0 ∷ κ in let laid = block_laid X n far in
    let Free = Give 𝓛 𝓜.mem 𝓡.returns in let z : Free.Ghost = give 𝓛 𝓜.mem 𝓡.returns γ m.1 (l 6, 0) alloc (n * bytes) al (block_type X n) b o in
    move ! (3 ∷ 4 ∷ 0 ∷ 1 ∷ []) $ group ! 4 $
    use1 𝓛 (raw (Free.pre z)) (gives 𝓛 𝓜.mem 𝓡.returns γ m.1 (l 6, 0) alloc (n * bytes) al (block_type X n) laid far (capped_fits (align (layout X))) b o) $
    calls_at_last ! (framed 𝓤 𝓛.H 𝓜 𝓣) Free (met 𝓤 𝓛 𝓜 𝓡 (code.calls-std_heap::GlobalAllocator::deallocate 𝓡.env wired)) z
    (and_then ! (get ! refl) (and_then ! (get ! refl) (and_then ! (get ! refl) (and_then ! (align_word !) (no_more !))))) (λ v.
    use1 𝓛 (later (given (v ≡ vunit) (‵ (flft γ m.1)))) (gave 𝓛 𝓜.mem 𝓡.returns γ m.1 (l 6, 0) alloc (n * bytes) al (block_type X n) b o v) $ await ! tt $ learn ! (λ is_unit.
    handle_back alloc (l 6) κ q ! tt m $ give_at ! 6 $
    lands_last ! refl (subst (λ (u : Val). T (has_ty ty_unit u) × WT u) (sym is_unit) (tt, tt)) $
    exec ! 𝓣.C 𝓣.Λ (env fn.locals l) (after 2 fn.body) (at_ret _ Post) $ sets ! (of_opd ! (unit_lit !)) refl (tt, tt) $
    returns ! (look_at ! 0 refl) $ free_all ! refl $ keep ! (0 ∷ []) $
    suffices ! _ (ends_at 𝓛 ended stayed clauses y vunit tt (tt, (tt, (tt, (tt, (tt, tt))))) (tt, (tt, (tt, (tt, (tt, tt)))))) $
    nothing ! $ move ! (1 ∷ 0 ∷ []) $ join ! $ feq_i ! (List Val) (vunit ∷ []) (vunit ∷ []) refl $
    nothing ! $ nothing ! $ fjoin ! $ nothing ! $ fjoin ! $ nothing ! $ fjoin ! $ nothing ! $ fjoin ! $ nothing ! $ fjoin ! $
    move ! (2 ∷ 0 ∷ 1 ∷ []) $ group ! 3 $ nothing ! $ move ! (1 ∷ 0 ∷ []) $ done !))))))))))))))))
