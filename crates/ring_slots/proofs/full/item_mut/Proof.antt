-- The item is taken out of a full cell in memory, with a way back at any item, and then lent.
use Rattle.ring_slots.proofs.Words.{refl, sym, ap, List, [], ◌∷◌, ℕ, ◌+◌, Fn, named, inst_fn, vptr, Ura, SProp, ent, sep, GName, ftrue, flft, Logic, sem, ‵, raw, ◌⊛◌, some, given, later, ◌$◌, ◌∵◌, !, qed, move, keep, drop, split, split3, join, learn, fsplit3, use1, await, pick, rewrite, suffices, frame, group, done, at_ret, ◌⊑◌, stop, addr, of_opd, bin, align_word, first, blocks, exec, returns, enter, alloc_all, pass_all, free_all, look_at, get, through, sets, sets_last, is, env, tables, no, follows, lends_Part, mem, layout, Laws, param_laws, RattleType, MutRef, mut_vals, mut_Tells, plain, mut_ref_to, nothing, says, Stays, stay_dropped, Goes-spent_ref, walk_of, ends_at, proved, after, IsSome, Some, Option, open_ref, declared}
use types.Kit.{mean}
use denote.Param.Laws.{row_loose}
use denote.Struct.Field.{Field, row_field}
use denote.Struct.Loose.{Looses}
use borrow.Enum.Known.{at}
use borrow.Enum.Lend.{kept_variant, variant_apart, variant_put}
use Rattle.ring_slots.proofs.FullCell.{Cell, Item, arguments, behind_mark, cell_enum, mark_bytes}
use Rattle.ring_slots.proofs.SlotsInMemory.{item_of}
use Rattle.ring_slots.specs.contracts.full.item_mut as contract
use Rattle.ring_slots.proofs.full.item_mut.Statement.{statement}
use Rattle.ring_slots.proofs.full.item_mut.Code as code

module _ (X : RattleType) (L : Laws X) {M : Type 1} {𝓤 : Ura M} (𝓛 : Logic 𝓤) (b o : ℕ) where
  abbrev fields : List Field
  fields = row_field (Item X) ∷ []

  abbrev loose : Looses fields
  loose = (row_loose (Item X) (param_laws 0 X L), tt)

  -- the cell in memory without its item
  abbrev Rest : X.Denot → SProp 𝓤
  Rest x = mean 𝓛 (kept_variant (declared (cell_enum X)) 1 fields loose (at (cell_enum X) 1) (λ v us. refl) (λ v. refl) refl 0 (mark_bytes X) M 𝓤 𝓛 (x, tt) b o)

  item_out : (x : X.Denot) → ent 𝓤 (sem 𝓛 ((mem (Cell X)).own_at (Some x) b o)) (sep 𝓤 (sem 𝓛 ((mem (Item X)).own_at x b (o + mark_bytes X))) (Rest x))
  item_out x = variant_apart (declared (cell_enum X)) 1 fields loose (at (cell_enum X) 1) (λ v us. refl) (λ v. refl) refl 0 (mark_bytes X) 𝓛 refl refl refl (x, tt) b o

  item_in : (x y : X.Denot) → ent 𝓤 (sep 𝓤 (sem 𝓛 ((mem (Item X)).own_at y b (o + mark_bytes X))) (Rest x)) (sem 𝓛 ((mem (Cell X)).own_at (Some y) b o))
  item_in x y = variant_put (declared (cell_enum X)) 1 fields loose (at (cell_enum X) 1) (λ v us. refl) (λ v. refl) refl 0 (mark_bytes X) 𝓛 refl y (x, tt) b o

pub item_mut_spec : {M : Type 1} → statement M
item_mut_spec 𝓤 𝓛 𝓜 𝓡 wired X L =
    let clauses = contract.clauses X 𝓛 𝓜.mem 𝓡.returns in
    let ended = contract.ended X in let stayed : Stays ended.signature.params ended.kept = (stay_dropped (mut_ref_to (0 ∷ []) tt (plain (λ _. Cell X))) no, tt) in
    let fn : Fn = inst_fn (arguments X) code.function in
    let 𝓣 = tables 𝓤 𝓛.H 𝓜 𝓡 𝓡.env in
    proved 𝓛 ended stayed clauses 𝓜 𝓡 (Goes-spent_ref 𝓛 2 (0 ∷ []) tt (plain (λ _. Cell X)), tt)
    (contract.Key.name (arguments X)) fn (code.unfolded 𝓤 𝓛.H 𝓜 𝓡 wired (X, tt))
    (λ κs. (mut_vals, tt)) (λ κs. (mut_Tells (named 0) κs.0 (Cell X), tt)) (λ κs qs bounds a _ are.
    let b = a.0.ref_ptr.0 in let o = a.0.ref_ptr.1 in let γ = a.0.ghost_name in let cell = a.0.now in let self = mut_vals a.0 in
    let y : (walk_of 𝓛 ended stayed clauses).Ghost = ((κs, qs, bounds, a, (self, tt)), tt) in
    qed 𝓛 (((‵ (flft κs.0 qs.0) ⊛ ‵ (flft κs.1.0 qs.1.0) ⊛ ‵ ftrue) ⊛ ‵ ((MutRef (named 0) κs.0 (Cell X)).own_val a.0 self) ⊛ ‵ ftrue)
    ∷ (given (κs.1.0 ⊑ X.lives) (‵ ftrue) ⊛ given (IsSome cell) (‵ ftrue)) ∷ []) ∵
    move ! (1 ∷ []) $ split ! $ drop ! $ learn ! (λ full. drop ! $
    split ! $ split ! $ move ! (2 ∷ []) $ split ! $ keep ! (0 ∷ 2 ∷ 3 ∷ []) $
    enter ! _ _ _ _ _ $ alloc_all ! (λ l. pass_all ! refl ((tt, tt), tt) $
    first ! $ blocks ! $ sets ! (addr ! (through ! refl (stop !))) refl (tt, tt) $ sets ! (of_opd ! (get ! refl)) refl (tt, tt) $
    sets ! (is ! (bin ! (get ! refl) (align_word !) tt) (ap (vptr b) (sym (behind_mark (layout X) o)))) refl (tt, tt) $ sets ! (of_opd ! (get ! refl)) refl (tt, tt) $
    sets_last ! (addr ! (through ! refl (stop !))) refl (tt, tt) $
    exec ! 𝓣.C 𝓣.Λ (env fn.locals l) (after 1 fn.body) (at_ret _ ((walk_of 𝓛 ended stayed clauses).post y)) $ sets ! (of_opd ! (get ! refl)) refl (tt, tt) $
    let held = item_of cell full in let x : X.Denot = held.0 in let at = o + mark_bytes X in let was = (Cell X).coded.code cell in
    fsplit3 ! $ drop ! $ open_ref ! tt (mem (Cell X)) {b = b} {o = o} $
    rewrite ! 0 (λ (c : Option X.Denot). ‵ ((mem (Cell X)).own_at c b o)) held.1 refl $
    use1 𝓛 (‵ ((mem (Item X)).own_at x b at) ⊛ raw (Rest X L 𝓛 b o x)) (item_out X L 𝓛 b o x) $ split ! $
    move ! (2 ∷ 3 ∷ 4 ∷ 0 ∷ 1 ∷ []) $ group ! 5 $
    use1 𝓛 (later (some (λ (δ : GName). ‵ ((MutRef (named 0) κs.0 (Item X)).own_val (record { ref_ptr = (b, at); ghost_name = δ; now = x }) (vptr b at ∷ [])) ⊛ ‵ (flft κs.0 qs.0) ⊛ ‵ (follows (Cell X) (Item X) γ δ Some))))
    (lends_Part 𝓛 (Cell X) (Item X) Some (named 0) κs.0 qs.0 b o b at γ (Rest X L 𝓛 b o x) (item_in X L 𝓛 b o x) was was x) $
    await ! tt $ pick ! (λ δ. split3 ! $ returns ! (look_at ! 0 refl) $ free_all ! refl $
    -- [the reference; the token of its lifetime; what the cell ends as; the other tokens]
    suffices ! _ (ends_at 𝓛 ended stayed clauses y (vptr b at)
    (record { ref_ptr = (b, at); ghost_name = δ; now = x }) (tt, tt) (tt, tt)) $
    move ! (1 ∷ 3 ∷ []) $ join ! $ nothing ! $ nothing ! $ join ! $ move ! (1 ∷ 0 ∷ []) $
    group ! 3 $ frame ! $ says ! held.1 $ done !))))
