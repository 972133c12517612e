-- The new block is room for the items, which is a row of empty slots. The right to free it stays beside the row.
use Rattle.ring_slots.proofs.Words.{Goes-number, stay_number, refl, sym, ap, Bool, true, false, [], ◌∷◌, ◌*◌, ◌<◌, ◌^◌, arith, lit<, replicate, Fn, a_type, w64, ty_array, inst_fn, Val, WT, vint, vstruct, vcons, vnil, SProp, ftrue, flft, capped_fits, align, capped, Env, Wp, after_seq, at_return, any_q, ‵, raw, ◌⊛◌, later, at_ret, ◌$◌, ◌∵◌, !, qed, move, keep, drop, use1, use2, await, split, join, rewrite, suffices, frame, fjoin, done, live, vrt, in_variant, whole, agg, stop, fld, lit, from, addr, of_opd, bin, size_word, align_word, no_more, and_then, first, switches_on, exec, returns, enter, alloc_all, pass_all, free_all, look_at, get, get_in, get_tag, is, sets, sets_last, take_at, give_at, lands_as, env, ◌⊑◌, fact, tables, yes, Is, layout, layouts, uint_vals, uint_Tells, RattleType, owns, block_ptr, plain, types_at, nothing, heard, owned, Struct, Struct-Makes, calls_at, Vals, framed, says, Stays, stay_dropped, Goes-dropped, walk_of, ends_at, None, Ok, Err, type_size, as_written, after, head, arm_body, Answer-typed, Answered, answers, proved, Body, row, right_if}
use types.Kit.{Post as After}
use denote.Struct.Declared as Declared
use Rattle.std.specs.Vec.Ownership.{FitsInBlock}
use Rattle.std.specs.contracts.alloc.AllocError as refusal
use Rattle.std.specs.contracts.alloc.Global as heap
use Rattle.std.specs.contracts.result.Result as result
use Rattle.std.proofs.ResultValues.{ok_of, err_of}
use Rattle.std.proofs.alloc.Global.TheLaws as heap_laws
use Rattle.std.proofs.impls.GlobalAllocator.allocate.Met.{met}
use Rattle.ring_slots.proofs.BlockCalls.{Handle, Ask, ask, asks, asked, block_type, block_laid, handle_lent, handle_back}
use Rattle.ring_slots.proofs.SlotsInMemory.{has_size, product_is, of_room}
use Rattle.ring_slots.proofs.OwnerParts.{R, Three, three, begun, three_made}
use Rattle.ring_slots.specs.contracts.block.Owner.allocate as contract
use Rattle.ring_slots.proofs.block.Owner.allocate.Statement.{statement}
use Rattle.ring_slots.proofs.block.Owner.allocate.Code as code

pub allocate_spec : {M : Type 1} → statement M
allocate_spec 𝓤 𝓛 𝓜 𝓡 wired X L =
    let clauses = contract.clauses X 𝓛 𝓜.mem 𝓡.returns in
    let ended = contract.ended X in
    let stayed : Stays ended.signature.params ended.kept = (stay_dropped (plain (λ _. heap.the_row)) yes, (stay_number, tt)) in
    let fn : Fn = inst_fn (layouts (a_type ∷ []) (X, tt)) code.function in
    let 𝓣 = tables 𝓤 𝓛.H 𝓜 𝓡 𝓡.env in
    let Refusal : RattleType = Struct (Declared.shape refusal.the_type) in
    let Out : RattleType = result.the_row (Three X) refusal.the_row in
    proved 𝓛 ended stayed clauses 𝓜 𝓡
    (Goes-dropped 𝓛 1 (plain (λ _. heap.the_row)) yes (λ κs x w. refl), (Goes-number 𝓛 1, tt))
    (contract.Key.name (layouts (a_type ∷ []) (X, tt))) fn (code.unfolded 𝓤 𝓛.H 𝓜 𝓡 wired (X, tt))
    (λ κs. ((λ h. heap_laws.lowered h ∷ []), (uint_vals w64, tt))) (λ κs. (heap_laws.lowers.val_is, (uint_Tells w64, tt))) (λ κs qs bounds a _ are.
    let alloc = a.0 in let n = a.1.0 in let fits = are.1.0.1 in let τ = layout X in let bytes = type_size (R X) in let al = capped (align τ) in
    let κ = κs.0 in let q = qs.0 in let vss : Vals ended.signature κs = (heap_laws.lowered alloc ∷ [], (uint_vals w64 n, tt)) in
    let y : (walk_of 𝓛 ended stayed clauses).Ghost = ((κs, qs, bounds, a, vss), tt) in let Post : Val → SProp 𝓤 = (walk_of 𝓛 ended stayed clauses).post y in
    qed 𝓛 (((‵ (flft κ q) ⊛ ‵ ftrue) ⊛ ‵ (owns (types_at ended.signature.params κs) a vss))
    ∷ (raw (fact 𝓤 (κ ⊑ X.lives)) ⊛ raw (fact 𝓤 (FitsInBlock (R X) n)) ⊛ raw (fact 𝓤 (0 < bytes))) ∷ []) ∵
    move ! (1 ∷ []) $ split ! $ drop ! $ split ! $ heard ! _ (λ fit. heard ! _ (λ sized. split ! $ split ! $ keep ! (0 ∷ []) $
    let far : n * bytes < 2 ^ 64 = omega (arith, fit.0) in let laid = block_laid X n far in
    enter ! _ _ _ _ _ $ alloc_all ! (λ l. pass_all ! refl ((tt, ((tt, tt), tt)), ((tt, record { fits = fits }), tt)) $
    let En : Env 𝓤 𝓛.H = env fn.locals l in
    let both : Body = head (after 4 fn.body) in
    let Then : After 𝓤 𝓛.H = any_q (after_seq 𝓤 𝓛.H (Wp 𝓤 𝓛.H 𝓣.C 𝓣.Λ En (after 5 fn.body) (at_return 𝓤 𝓛.H En Post)) (at_return 𝓤 𝓛.H En Post)) in
    sets ! (of_opd ! (get ! refl)) refl (tt, ((tt, tt), tt)) $
    sets ! (addr ! (from ! (stop !))) refl (tt, tt) $
    sets ! (is ! (bin ! (get ! refl) (size_word !) (record { fits = rw (product_is n bytes far) far })) (ap (vint w64) (product_is n bytes far))) refl (tt, record { fits = far }) $
    take_at ! 3 $ handle_lent alloc (l 3) κ q ! tt (λ m.
    let γ = m.0 ∷ κ in let Asked = Ask 𝓛 𝓜.mem 𝓡.returns in let z : Asked.Ghost = ask 𝓛 𝓜.mem 𝓡.returns γ m.1 (l 3, 0) alloc (n * bytes) al (block_type X n) in
    use2 𝓛 (raw (Asked.pre z)) (asks 𝓛 𝓜.mem 𝓡.returns γ m.1 (l 3, 0) alloc (n * bytes) al (block_type X n) laid far (capped_fits (align τ))) $
    calls_at ! (framed 𝓤 𝓛.H 𝓜 𝓣) Asked (met 𝓤 𝓛 𝓜 𝓡 (code.calls-std_heap::GlobalAllocator::allocate 𝓡.env wired)) z
    (and_then ! (get ! refl) (and_then ! (get ! refl) (and_then ! (align_word !) (no_more !)))) (λ v.
    use1 𝓛 (later (raw (Answered Handle 𝓛 𝓜.mem 𝓡.returns alloc (block_type X n) v) ⊛ ‵ (flft γ m.1))) (asked 𝓛 𝓜.mem 𝓡.returns γ m.1 (l 3, 0) alloc (n * bytes) al (block_type X n) v) $
    await ! tt $ split ! $ move ! (1 ∷ 2 ∷ []) $ handle_back alloc (l 3) κ q ! tt m $ give_at ! 3 $
    -- [the token; the answer]
    move ! (1 ∷ []) $ answers Handle ! 𝓜.mem 𝓡.returns alloc (block_type X n) v
    (λ b o answer.
    let made : Val = three X b o in let seen = begun X alloc b o n in
    let good : WT made = (tt, ((tt, tt), ((tt, tt), tt))) in
    lands_as ! answer refl (Answer-typed true b o) $ first ! $ switches_on ! (get_tag ! (vrt ! refl (fld ! refl (stop !))) (whole !)) $ exec ! 𝓣.C 𝓣.Λ En (arm_body 0 both) Then $
    sets ! (of_opd ! (get_in ! (vrt ! refl (fld ! refl (stop !))) (in_variant ! 0 0 refl refl (whole !)))) refl (tt, tt) $ sets ! (of_opd ! (get ! refl)) refl (tt, tt) $
    sets ! (agg ! (no_more !)) refl (tt, tt) $ sets ! (agg ! (and_then ! (get ! refl) (no_more !))) refl (tt, (tt, tt)) $
    sets ! (agg ! (no_more !)) refl (tt, tt) $ sets ! (agg ! (and_then ! (get ! refl) (no_more !))) refl (tt, (tt, tt)) $
    sets ! (agg ! (and_then ! (get ! refl) (and_then ! (get ! refl) (and_then ! (get ! refl) (no_more !))))) refl (tt, good) $
    sets_last ! (agg ! (and_then ! (lit ! tt) (and_then ! (get ! refl) (no_more !)))) refl (tt, (record { fits = lit< tt }, (good, tt))) $
    exec ! 𝓣.C 𝓣.Λ En (after 5 fn.body) (at_ret En Post) $ sets ! (of_opd ! (get ! refl)) refl (tt, (record { fits = lit< tt }, (good, tt))) $
    as_written ! (ty_array τ n) b o $ use1 𝓛 (‵ (row (R X) b o (replicate n None))) (of_room X b 𝓛 n o) $
    rewrite ! 1 (λ (w : Bool). ‵ (right_if (R X) w alloc (block_ptr b o) n)) (sym (has_size bytes sized)) refl $
    three_made X ! alloc b o n fit.0 $
    use1 𝓛 (‵ (Out.own_val (Ok seen) (live 0 (vcons made vnil) ∷ []))) (ok_of 𝓛 (Three X) refusal.the_row seen made) $
    returns ! (look_at ! 0 refl) $ free_all ! refl $
    suffices ! _ (ends_at 𝓛 ended stayed clauses y (live 0 (vcons made vnil)) (Ok seen) (tt, (tt, tt)) (tt, (tt, tt))) $ says ! (refl, refl, refl, refl, refl) $
    move ! (1 ∷ []) $ nothing ! $ move ! (1 ∷ 0 ∷ []) $ join ! $ frame ! $ nothing ! $ nothing ! $ fjoin ! $ nothing ! $ fjoin ! $ frame ! $ done !)
    (λ answer.
    let none : Val = live 1 (vcons (vstruct vnil) vnil) in
    lands_as ! answer refl (Answer-typed false 0 0) $ first ! $ switches_on ! (get_tag ! (vrt ! refl (fld ! refl (stop !))) (whole !)) $ exec ! 𝓣.C 𝓣.Λ En (arm_body 1 both) Then $
    sets ! (of_opd ! (get_in ! (vrt ! refl (fld ! refl (stop !))) (in_variant ! 1 0 refl refl (whole !)))) refl (tt, tt) $
    sets_last ! (agg ! (and_then ! (lit ! tt) (and_then ! (get ! refl) (no_more !)))) refl (tt, (record { fits = lit< tt }, (tt, tt))) $
    exec ! 𝓣.C 𝓣.Λ En (after 5 fn.body) (at_ret En Post) $ sets ! (of_opd ! (get ! refl)) refl (tt, (record { fits = lit< tt }, (tt, tt))) $
    owned ! Refusal (Is Refusal) (Struct-Makes 𝓛 (Declared.shape refusal.the_type) tt) tt (vstruct vnil ∷ []) (tt, (refl, tt)) $
    use1 𝓛 (‵ (Out.own_val (Err (record {})) (none ∷ []))) (err_of 𝓛 (Three X) refusal.the_row (record {}) (vstruct vnil)) $
    returns ! (look_at ! 0 refl) $ free_all ! refl $
    suffices ! _ (ends_at 𝓛 ended stayed clauses y none (Err (record {})) (tt, (tt, tt)) (tt, (tt, tt))) $ says ! tt $
    move ! (1 ∷ []) $ nothing ! $ move ! (1 ∷ 0 ∷ []) $ join ! $ frame ! $ nothing ! $ nothing ! $ fjoin ! $ nothing ! $ fjoin ! $ frame ! $ done !)))))))
