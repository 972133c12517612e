-- The item is lent apart from the rest, which closes round any item that is written.
use Rattle.ring_slots.proofs.Words.{one-mul, ◌<◌, take, cut, refilled, set, set_split, drop-cons, arith, fjoin, proved, rawptr_vals, rawptr_Tells, uint_vals, uint_Tells, mut_vals, mut_Tells, w64, Vals, Goes-number, Goes-pointer, stay_number, stay_pointer, ◌≡◌, refl, sym, ◌∙◌, List, [], ◌∷◌, ℕ, ◌+◌, ◌*◌, ◌^◌, ◌<◌, length, get_or, Fn, a_type, named, inst_fn, Val, vptr, Ura, full_share, SProp, ent, sep, GName, ftrue, fat, flft, Logic, sem, ‵, raw, ◌⊛◌, some, later, at_ret, ◌$◌, ◌∵◌, !, qed, move, keep, drop, use1, use2, pick, split, split3, join, fsplit, fsplit3, fjoin, fjoin3, rewrite, suffices, frame, group, await, done, stop, addr, of_opd, bin, size_lit, first, blocks, exec, returns, enter, alloc_all, pass_all, free_all, look_at, get, through, sets, sets_last, take_at, give_at, env, ◌⊑◌, fact, tables, usize, no, follows, lends_Part, mem, layouts, RattleType, Ptr, RawPtr, block_ptr, ptr_val, MutRef, plain, mut_ref_to, nothing, heard, says, Stays, stay_dropped, Goes-spent_ref, walk_of, ends_at, Option, Some, None, IsSome, type_size, after, ty_ptr, owner_with, slot, row}
use Rattle.std.proofs.Common.{add-one}
use Rattle.ring_slots.proofs.Filled.{refilled_is}
use Rattle.ring_slots.proofs.SlotsInMemory.{item_of, full_within, stretch_fits, around, stretch_out}
use Rattle.ring_slots.proofs.OwnerParts.{R, Rest, Seen, AreSmall, back, pointer_good, refilled_owner, slots_opened}
use Rattle.ring_slots.specs.contracts.block.Owner.get_mut as contract
use Rattle.ring_slots.proofs.block.Owner.get_mut.Statement.{statement}
use Rattle.ring_slots.proofs.block.Owner.get_mut.Code as code

module _ (X : RattleType) {M : Type 1} {𝓤 : Ura M} (𝓛 : Logic 𝓤) (d : (Seen X).Denot) (us : List Val) (b o rb ro place : ℕ) where
  -- one slot is a stretch of one
  back_one : d.at ≡ block_ptr b o → AreSmall X d → place < length d.slots → (w : X.Denot)
      → ent 𝓤 (sep 𝓤 (sem 𝓛 ((mem (R X)).own_at w b (place * type_size (R X) + o))) (sem 𝓛 (Rest X 𝓛 d us b o rb ro place 1))) (sem 𝓛 ((mem (Seen X)).own_at (owner_with d place (Some w)) rb ro))
  back_one lies fit within w =
      let is : refilled d.slots place 1 (w ∷ []) ≡ set d.slots place (Some w) = refilled_is d.slots place (w ∷ []) ∙ rw add-one (sym (set_split d.slots place (Some w) within)) in
      qed 𝓛 (‵ ((mem (R X)).own_at w b (place * type_size (R X) + o)) ∷ ‵ (Rest X 𝓛 d us b o rb ro place 1) ∷ []) ∵ nothing ! $ move ! (1 ∷ 0 ∷ []) $ fjoin ! $
      use2 𝓛 (‵ ((mem (Seen X)).own_at (refilled_owner X 𝓛 d us b o rb ro place 1 (w ∷ [])) rb ro)) (back X 𝓛 d us b o rb ro place 1 lies fit (omega arith) (w ∷ []) refl) $
      rewrite ! 0 (λ (cs : List (Option X.Denot)). ‵ ((mem (Seen X)).own_at (record d { slots = cs }) rb ro)) is refl $ done !

pub get_mut_spec : {M : Type 1} → statement M
get_mut_spec 𝓤 𝓛 𝓜 𝓡 wired X L =
    let clauses = contract.clauses X 𝓛 𝓜.mem 𝓡.returns in
    let ended = contract.ended X in let stayed : Stays ended.signature.params ended.kept = (stay_dropped (mut_ref_to (0 ∷ []) tt (plain (λ _. Seen X))) no, (stay_pointer, (stay_number, tt))) in
    let given = layouts (a_type ∷ []) (X, tt) in let fn : Fn = inst_fn given code.function in
    let 𝓣 = tables 𝓤 𝓛.H 𝓜 𝓡 𝓡.env in
    proved 𝓛 ended stayed clauses 𝓜 𝓡 (Goes-spent_ref 𝓛 2 (0 ∷ []) tt (plain (λ _. Seen X)), (Goes-pointer 𝓛 2, (Goes-number 𝓛 2, tt)))
    (contract.Key.name given) fn (code.unfolded 𝓤 𝓛.H 𝓜 𝓡 wired (X, tt))
    (λ κs. (mut_vals, (rawptr_vals, (uint_vals w64, tt)))) (λ κs. (mut_Tells (named 0) κs.0 (Seen X), (rawptr_Tells, (uint_Tells w64, tt)))) (λ κs qs bounds a _ are.
    let κ = κs.0 in let q = qs.0 in let γ = a.0.ghost_name in
    let rb = a.0.ref_ptr.0 in let ro = a.0.ref_ptr.1 in let d = a.0.now in let ptr = a.1.0 in let place = a.1.1.0 in let bytes = type_size (R X) in
    let vss : Vals (contract.signature X) κs = (mut_vals a.0, (rawptr_vals ptr, (uint_vals w64 place, tt))) in
    let y : (walk_of 𝓛 ended stayed clauses).Ghost = ((κs, qs, bounds, a, vss), tt) in let Post : Val → SProp 𝓤 = (walk_of 𝓛 ended stayed clauses).post y in
    qed 𝓛 (((‵ (flft κ q) ⊛ ‵ (flft κs.1.0 qs.1.0) ⊛ ‵ ftrue)
    ⊛ ‵ ((MutRef (named 0) κ (Seen X)).own_val a.0 vss.0) ⊛ ‵ (RawPtr.own_val ptr vss.1.0) ⊛ ‵ (usize.own_val place vss.1.1.0) ⊛ ‵ ftrue)
    ∷ (raw (fact 𝓤 (κs.1.0 ⊑ X.lives)) ⊛ raw (fact 𝓤 (ptr ≡ d.at)) ⊛ raw (fact 𝓤 (IsSome (get_or d.slots place None)))) ∷ []) ∵
    move ! (1 ∷ []) $ split ! $ drop ! $ split ! $ heard ! _ (λ same. heard ! _ (λ full.
    split ! $ split ! $ move ! (2 ∷ []) $ split ! $ fsplit3 ! $ drop ! $ keep ! (0 ∷ 1 ∷ 3 ∷ 4 ∷ []) $
    enter ! _ _ _ _ _ $ alloc_all ! (λ l. pass_all ! refl ((tt, tt), (pointer_good ptr, ((tt, record { fits = are.1.1.0.1 }), tt))) $
    slots_opened X ! tt d rb ro (λ us b o lies fit.
    let held = item_of (get_or d.slots place None) full in let x : X.Denot = held.0 in
    let within = full_within d.slots place x held.1 in
    let near = stretch_fits place 1 (length d.slots) bytes (omega arith) fit in let small : bytes < 2 ^ 64 = omega (arith, near.1, one-mul bytes) in
    let at : ℕ = place * bytes + o in
    let rest = Rest X 𝓛 d us b o rb ro place 1 in let way = back_one X 𝓛 d us b o rb ro place lies fit within in
    let new = λ (w : X.Denot). owner_with d place (Some w) in let was = (Seen X).coded.code d in
    take_at ! 2 $ rewrite ! 0 (λ (p : Ptr). ‵ (fat full_share ty_ptr (l 2) 0 (ptr_val p))) (same ∙ lies) refl $ give_at ! 2 $
    first ! $ blocks ! $
    sets ! (bin ! (get ! refl) (size_lit ! (record { fits = small })) (record { fits = near.0 })) refl (tt, record { fits = near.0 }) $
    sets ! (bin ! (get ! refl) (get ! refl) tt) refl (tt, tt) $
    sets_last ! (addr ! (through ! refl (stop !))) refl (tt, tt) $
    exec ! 𝓣.C 𝓣.Λ (env fn.locals l) (after 1 fn.body) (at_ret _ Post) $ sets ! (of_opd ! (get ! refl)) refl (tt, tt) $
    use1 𝓛 (‵ (row (R X) b at (take 1 (cut place d.slots))) ⊛ ‵ (around X b o d.slots place 1)) (stretch_out X b 𝓛 d.slots place 1 o (omega arith)) $ split ! $
    rewrite ! 0 (λ (cs : List (Option X.Denot)). ‵ (row (R X) b at (take 1 cs))) (drop-cons d.slots place None within) refl $ fsplit ! $
    rewrite ! 0 (λ (c : Option X.Denot). ‵ (slot (R X) b at c)) held.1 refl $ move ! (1 ∷ []) $ drop ! $
    -- [the item; the other slots; the mark; its cell; the open borrow, in three entries; the other tokens]
    move ! (1 ∷ 2 ∷ 3 ∷ []) $ fjoin3 ! $ move ! (2 ∷ 3 ∷ 4 ∷ 1 ∷ 0 ∷ []) $ group ! 5 $
    use1 𝓛 (later (some (λ (δ : GName). ‵ ((MutRef (named 0) κ (R X)).own_val (record { ref_ptr = (b, at); ghost_name = δ; now = x }) (vptr b at ∷ [])) ⊛ ‵ (flft κ q) ⊛ ‵ (follows (Seen X) (R X) γ δ new))))
    (lends_Part 𝓛 (Seen X) (R X) new (named 0) κ q rb ro b at γ (sem 𝓛 rest) way was was x) $ await ! tt $ pick ! (λ δ. split3 ! $
    returns ! (look_at ! 0 refl) $ free_all ! refl $
    suffices ! _ (ends_at 𝓛 ended stayed clauses y (vptr b at) (record { ref_ptr = (b, at); ghost_name = δ; now = x }) (tt, (tt, (tt, tt))) (tt, (tt, (tt, tt)))) $
    -- [the reference; its token; what the slots end as; the other tokens]
    move ! (1 ∷ 3 ∷ []) $ join ! $ nothing ! $ nothing ! $ join ! $ nothing ! $ join ! $ nothing ! $ join ! $ move ! (1 ∷ 0 ∷ 2 ∷ []) $ group ! 3 $ frame ! $ says ! held.1 $ done !))))))
