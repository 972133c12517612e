-- `item` hands on the `&` to the item that a `&` to a full cell holds, at the place behind the mark, for every item type.
use Rattle.ring_slots.proofs.Words.{refl, List, [], ◌∷◌, ◌+◌, Fn, named, inst_fn, Val, vptr, ftrue, flft, align, capped, hidden_shr, ‵, ◌⊛◌, given, ◌$◌, ◌∵◌, !, qed, move, keep, drop, split, learn, fsplit, fjoin, feq_i, rewrite, suffices, done, at_ret, ◌⊑◌, stop, addr, of_opd, bin, align_word, first, blocks, exec, returns, enter, alloc_all, pass_all, free_all, look_at, get, through, sets, sets_last, env, tables, yes, layout, RefOf, ShrRef, shr_vals, shr_Tells, plain, nothing, says, Stays, stay_dropped, Goes-dropped, walk_of, ends_at, proved, after, IsSome, Option, hide, unhide}
use denote.Memory.{shared_of}
use Rattle.ring_slots.proofs.FullCell.{Cell, Item, arguments, behind_mark}
use Rattle.ring_slots.proofs.SlotsInMemory.{item_of}
use Rattle.ring_slots.specs.contracts.full.item as contract
use Rattle.ring_slots.proofs.full.item.Statement.{statement}
use Rattle.ring_slots.proofs.full.item.Code as code

pub item_spec : {M : Type 1} → statement M
item_spec 𝓤 𝓛 𝓜 𝓡 wired X L =
    let clauses = contract.clauses X 𝓛 𝓜.mem 𝓡.returns in
    let ended = contract.ended X in let stayed : Stays ended.signature.params ended.kept = (stay_dropped (RefOf (0 ∷ []) tt (plain (λ _. Cell X)) (λ _. tt)) yes, tt) in
    let fn : Fn = inst_fn (arguments X) code.function in
    let 𝓣 = tables 𝓤 𝓛.H 𝓜 𝓡 𝓡.env in
    proved 𝓛 ended stayed clauses 𝓜 𝓡 (Goes-dropped 𝓛 2 (RefOf (0 ∷ []) tt (plain (λ _. Cell X)) (λ _. tt)) yes (λ κs x w. refl), tt)
    (contract.Key.name (arguments X)) fn (code.unfolded 𝓤 𝓛.H 𝓜 𝓡 wired (X, tt))
    (λ κs. (shr_vals, tt)) (λ κs. (shr_Tells (named 0) κs.0 (Cell X), tt)) (λ κs qs bounds a _ are.
    let b = a.0.ref_ptr.0 in let o = a.0.ref_ptr.1 in let cell = a.0.now in let self = shr_vals a.0 in let at = capped (align (layout X)) + o in
    let y : (walk_of 𝓛 ended stayed clauses).Ghost = ((κs, qs, bounds, a, (self, tt)), tt) in
    qed 𝓛 (((‵ (flft κs.0 qs.0) ⊛ ‵ (flft κs.1.0 qs.1.0) ⊛ ‵ ftrue) ⊛ ‵ ((ShrRef (named 0) κs.0 (Cell X)).own_val a.0 self) ⊛ ‵ ftrue)
    ∷ (given (κs.1.0 ⊑ X.lives) (‵ ftrue) ⊛ given (IsSome cell) (‵ ftrue)) ∷ []) ∵
    move ! (1 ∷ []) $ split ! $ drop ! $ learn ! (λ full. drop ! $
    let held = item_of cell full in let x : X.Denot = held.0 in
    split ! $ move ! (1 ∷ []) $ split ! $ fsplit ! $ drop ! $
    rewrite ! 0 (λ (c : Option X.Denot). ‵ (hidden_shr (Cell X) κs.0 c b o)) held.1 refl $
    unhide ! $ fsplit ! $ fsplit ! $ drop ! $ fsplit ! $ rewrite ! 0 (λ (k : _). ‵ (shared_of (Item X) x b k κs.0)) (behind_mark (layout X) o) refl $ hide ! $ keep ! (0 ∷ 4 ∷ []) $
    enter ! _ _ _ _ _ $ alloc_all ! (λ l. pass_all ! refl ((tt, tt), tt) $
    first ! $ blocks ! $ sets ! (addr ! (through ! refl (stop !))) refl (tt, tt) $ sets ! (of_opd ! (get ! refl)) refl (tt, tt) $
    sets ! (bin ! (get ! refl) (align_word !) tt) refl (tt, tt) $ sets ! (of_opd ! (get ! refl)) refl (tt, tt) $
    sets_last ! (addr ! (through ! refl (stop !))) refl (tt, tt) $
    exec ! 𝓣.C 𝓣.Λ (env fn.locals l) (after 1 fn.body) (at_ret _ ((walk_of 𝓛 ended stayed clauses).post y)) $ sets ! (of_opd ! (get ! refl)) refl (tt, tt) $
    returns ! (look_at ! 0 refl) $ free_all ! refl $
    suffices ! _ (ends_at 𝓛 ended stayed clauses y (vptr b at) (record { ref_ptr = (b, at); now = x }) (tt, tt) (tt, tt)) $ says ! held.1 $
    feq_i ! (List Val) (vptr b at ∷ []) (vptr b at ∷ []) refl $ fjoin ! $
    nothing ! $ nothing ! $ fjoin ! $ keep ! (2 ∷ 0 ∷ 1 ∷ []) $ done !)))
