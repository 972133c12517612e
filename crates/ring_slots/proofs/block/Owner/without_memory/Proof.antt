-- Room for no item is had for nothing, and is room for any number of items without size.
use Rattle.ring_slots.proofs.Words.{Goes-number, stay_number, ◌≡◌, refl, sym, ap, subst, ◌∙◌, Bool, [], ◌∷◌, ℕ, ◌*◌, ◌<◌, ◌^◌, arith, zero-mul, mul-zero, eqb, replicate, Fn, a_type, w64, ty_array, inst_fn, wand, froom, size, align, ‵, raw, ◌⊛◌, ◌$◌, ◌∵◌, !, qed, move, keep, drop, use0, use1, split, fjoin, frame, rewrite, suffices, done, agg, stop, from, addr, of_opd, no_more, and_then, returns, enter, alloc_all, pass_all, free_all, look_at, get, through, sets, ◌⊑◌, fact, yes, layout, layouts, uint_vals, uint_Tells, owns, block_ptr, plain, types_at, nothing, heard, Vals, alive, says, Stays, stay_dropped, Goes-dropped, ends_at, None, type_size, proved, row, right_if}
use prog.Align.{dv_self}
use Rattle.std.specs.contracts.alloc.Global as heap
use Rattle.std.proofs.alloc.Global.TheLaws as heap_laws
use Rattle.ring_slots.proofs.SlotsInMemory.{of_room}
use Rattle.ring_slots.proofs.OwnerParts.{R, three, begun, three_made}
use Rattle.ring_slots.specs.contracts.block.Owner.without_memory as contract
use Rattle.ring_slots.proofs.block.Owner.without_memory.Statement.{statement}
use Rattle.ring_slots.proofs.block.Owner.without_memory.Code as code

-- a row of items without size takes no bytes
small_rows : (n bytes : ℕ) → bytes ≡ 0 → n * bytes < 2 ^ 63
small_rows n bytes no_size = subst (λ (k : ℕ). n * k < 2 ^ 63) (sym no_size) (omega (arith, mul-zero n))

pub without_memory_spec : {M : Type 1} → statement M
without_memory_spec 𝓤 𝓛 𝓜 𝓡 wired X L =
    let clauses = contract.clauses X 𝓛 𝓜.mem 𝓡.returns in
    let ended = contract.ended X in
    let stayed : Stays ended.signature.params ended.kept = (stay_dropped (plain (λ _. heap.the_row)) yes, (stay_number, tt)) in
    let fn : Fn = inst_fn (layouts (a_type ∷ []) (X, tt)) code.function in
    proved 𝓛 ended stayed clauses 𝓜 𝓡
    (Goes-dropped 𝓛 1 (plain (λ _. heap.the_row)) yes (λ κs x w. refl), (Goes-number 𝓛 1, tt))
    (contract.Key.name (layouts (a_type ∷ []) (X, tt))) fn (code.unfolded 𝓤 𝓛.H 𝓜 𝓡 wired (X, tt))
    (λ κs. ((λ h. heap_laws.lowered h ∷ []), (uint_vals w64, tt))) (λ κs. (heap_laws.lowers.val_is, (uint_Tells w64, tt))) (λ κs qs bounds a _ are.
    let alloc = a.0 in let n = a.1.0 in let fits = are.1.0.1 in let τ = layout X in let vss : Vals ended.signature κs = (heap_laws.lowered alloc ∷ [], (uint_vals w64 n, tt)) in
    qed 𝓛 ((raw (alive 𝓛 ended.signature κs qs) ⊛ ‵ (owns (types_at ended.signature.params κs) a vss))
    ∷ (raw (fact 𝓤 (κs.0 ⊑ X.lives)) ⊛ raw (fact 𝓤 (type_size (R X) ≡ 0))) ∷ []) ∵
    move ! (1 ∷ []) $ split ! $ drop ! $ heard ! _ (λ no_size. split ! $ keep ! (0 ∷ []) $
    enter ! _ _ _ _ _ $ alloc_all ! (λ l. pass_all ! refl ((tt, ((tt, tt), tt)), ((tt, record { fits = fits }), tt)) $
    let b = l 4 in let seen = begun X alloc b 0 n in
    sets ! (agg ! (no_more !)) refl (tt, tt) $
    sets ! (addr ! (from ! (stop !))) refl (tt, tt) $
    sets ! (addr ! (through ! refl (stop !))) refl (tt, tt) $
    sets ! (of_opd ! (get ! refl)) refl (tt, tt) $
    sets ! (agg ! (no_more !)) refl (tt, tt) $ sets ! (agg ! (and_then ! (get ! refl) (no_more !))) refl (tt, (tt, tt)) $
    sets ! (agg ! (no_more !)) refl (tt, tt) $ sets ! (agg ! (and_then ! (get ! refl) (no_more !))) refl (tt, (tt, tt)) $
    sets ! (agg ! (and_then ! (get ! refl) (and_then ! (get ! refl) (and_then ! (get ! refl) (no_more !))))) refl (tt, (tt, ((tt, tt), ((tt, tt), tt)))) $
    returns ! (look_at ! 0 refl) $ free_all ! refl $
    let same : size (ty_array τ n) ≡ size (ty_array τ 0) = ap (λ (k : ℕ). n * k) no_size ∙ mul-zero n ∙ sym (zero-mul (size τ)) in
    nothing ! $ rewrite ! 0 (λ (y : Bool). ‵ (right_if (R X) y alloc (block_ptr b 0) n)) (sym (ap (λ (k : ℕ). eqb k 0) no_size)) refl $
    use0 𝓛 (‵ (froom (ty_array τ 0) b 0)) (𝓛.laws.room_nil τ b 0) $
    use1 𝓛 (‵ (froom (ty_array τ n) b 0) ⊛ raw (wand 𝓤 (𝓛.H.room (ty_array τ n) b 0) (𝓛.H.room (ty_array τ 0) b 0))) (𝓛.laws.room_as (ty_array τ 0) (ty_array τ n) b 0 same (dv_self (align τ))) $
    split ! $ use1 𝓛 (‵ (row (R X) b 0 (replicate n None))) (of_room X b 𝓛 n 0) $ keep ! (0 ∷ 2 ∷ 3 ∷ []) $
    three_made X ! alloc b 0 n (small_rows n (type_size (R X)) no_size) $
    suffices ! _ (ends_at 𝓛 ended stayed clauses ((κs, qs, bounds, a, vss), tt) (three X b 0) seen (tt, (tt, tt)) (tt, (tt, tt))) $ says ! (refl, refl, refl, refl, refl) $
    nothing ! $ nothing ! $ fjoin ! $ nothing ! $ fjoin ! $ move ! (2 ∷ 0 ∷ 1 ∷ []) $ frame ! $ frame ! $ done !)))
