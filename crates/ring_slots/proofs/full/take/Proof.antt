-- The item is moved out of a full cell in memory, and nothing is written over the cell.
use Rattle.ring_slots.proofs.Words.{◌∙◌, refl, sym, ap, List, [], ◌∷◌, ◌++◌, ℕ, ◌+◌, Fn, named, inst_fn, Val, vptr, vcons, vnil, of_list, has_ty, WT, T, full_share, fat, Ura, SProp, ent, sep, ex, guard, all, wand, all_e, apply∗, ftrue, flft, Logic, sem, ‵, raw, ◌⊛◌, some, given, ◌$◌, ◌∵◌, !, qed, by, check, show, move, keep, drop, split, split3, join, learn, fsplit, fsplit3, fjoin, fjoin3, feq_l, feq_i, fpick, use1, use2, pick, rewrite, suffices, done, at_ret, ◌⊑◌, stop, addr, of_opd, bin, align_word, first, blocks, exec, returns, enter, alloc_all, pass_all, free_all, look_at, get, through, sets, sets_last, is, env, tables, mem, part_in, part_out, layout, Laws, param_laws, RattleType, MutRef, mut_vals, mut_Tells, plain, nothing, Stays, stay_ref, Goes-ref, walk_of, ends_at, proved, after, IsSome, Some, None, Option, live, load, agg, no_more, and_then, lit, Is, peeks, shows, only, open_ref, look, lit<, declared}
use mir.Syntax.{tcons, tnil}
use types.Mut.{close_ref}
use types.Run.{assigns, store}
use Rattle.core.proofs.mem.Facts.{says_two}
use borrow.Enum.Known.{at}
use borrow.Enum.Open.{variant_shut}
use Rattle.ring_slots.proofs.FullCell.{Cell, Item, arguments, behind_mark, cell_enum, mark_bytes}
use Rattle.ring_slots.proofs.SlotsInMemory.{item_of, one_value}
use Rattle.ring_slots.specs.contracts.full.take as contract
use Rattle.ring_slots.proofs.full.take.Statement.{statement}
use Rattle.ring_slots.proofs.full.take.Code as code

module _ (X : RattleType) (L : Laws X) {M : Type 1} {𝓤 : Ura M} (𝓛 : Logic 𝓤) (b o : ℕ) where
  open 𝓛 use {H}

  abbrev full : Val → Val
  full v = live 1 (vcons v vnil)

  -- a value of an item's type
  abbrev Good : Val → Type 0
  Good v = T (has_ty (layout X) v) × WT v

  -- the way from any value in the item's place back to the cell
  abbrev Back : Val → SProp 𝓤
  Back v = wand 𝓤 (H.at full_share (layout X) b (o + mark_bytes X) v) (H.at full_share (layout (Cell X)) b o (full v))

  -- the value in the item's place, the way back, and what the item owns
  abbrev Apart : X.Denot → Val → SProp 𝓤
  Apart x v = guard 𝓤 (Good v) (sep 𝓤 (H.at full_share (layout X) b (o + mark_bytes X) v) (sep 𝓤 (all 𝓤 Back) (sem 𝓛 (X.own_val x (v ∷ [])))))

  apart : (x : X.Denot) → ent 𝓤 (sem 𝓛 ((mem (Cell X)).own_at (Some x) b o)) (ex 𝓤 (Apart x))
  apart x =
      qed 𝓛 (‵ ((mem (Cell X)).own_at (Some x) b o) ∷ []) ∵
      use1 𝓛 (some (λ (w : Val). ‵ (fat full_share (layout (Cell X)) b o w) ⊛ ‵ ((Cell X).own_val (Some x) (w ∷ [])))) (part_out 𝓛 (Cell X) refl full_share (Some x) b o) $ pick ! (λ w. split ! $
      move ! (1 ∷ []) $ fpick ! (λ ws. fsplit ! $ feq_l ! (λ e. fpick ! (λ vss. fsplit ! $ feq_l ! (λ e₂. fsplit ! $ move ! (1 ∷ []) $ drop ! $
      peeks ! (Item X) (Is (Item X)) (shows 𝓛 (Item X)) x vss.0 (λ is.
      let (v, (one, good)) = one_value (layout X) vss.0 (((param_laws 0 X L).lawful 𝓛).typed x vss.0 is) in
      rewrite ! 0 (λ (vs : List Val). ‵ (X.own_val x vs)) one refl $
      rewrite ! 1 (λ (c : Val). ‵ (fat full_share (layout (Cell X)) b o c)) (ap only e ∙ ap (λ (vs : List Val). live 1 (of_list vs)) (e₂ ∙ ap (λ (vs : List Val). vs ++ []) one)) refl $ move ! (1 ∷ 0 ∷ []) $
      use1 𝓛 (‵ (fat full_share (layout X) b (o + mark_bytes X) v) ⊛ raw (all 𝓤 Back)) (𝓛.laws.at_variant full_share _ _ 1 (tcons (layout X) tnil) refl 0 (layout X) (mark_bytes X) refl b o (vcons v vnil)) $ split ! $
      show ! (Apart x) v $ check ! good $ done !))))))

  emptied : ent 𝓤 (H.at full_share (layout (Cell X)) b o (live 0 vnil)) (sem 𝓛 ((mem (Cell X)).own_at None b o))
  emptied =
      qed 𝓛 (‵ (fat full_share (layout (Cell X)) b o (live 0 vnil)) ∷ []) ∵ nothing ! $
      use1 𝓛 (‵ ((Cell X).own_val None ((live 0 vnil) ∷ []))) (variant_shut (declared (cell_enum X)) 0 [] tt (at (cell_enum X) 0) (λ v us. refl) (λ v. refl) 𝓛 tt tt) $
      move ! (1 ∷ 0 ∷ []) $ by ! (part_in 𝓛 (Cell X) refl full_share None b o (live 0 vnil))

pub take_spec : {M : Type 1} → statement M
take_spec 𝓤 𝓛 𝓜 𝓡 wired X L =
    let clauses = contract.clauses X 𝓛 𝓜.mem 𝓡.returns in
    let ended = contract.ended X in let stayed : Stays ended.signature.params ended.kept = (stay_ref (0 ∷ []) tt (plain (λ _. Cell X)), tt) in
    let fn : Fn = inst_fn (arguments X) code.function in
    let 𝓣 = tables 𝓤 𝓛.H 𝓜 𝓡 𝓡.env in
    proved 𝓛 ended stayed clauses 𝓜 𝓡 (Goes-ref 𝓛 2 0 tt (plain (λ _. Cell X)), tt)
    (contract.Key.name (arguments X)) fn (code.unfolded 𝓤 𝓛.H 𝓜 𝓡 wired (X, tt))
    (λ κs. (mut_vals, tt)) (λ κs. (mut_Tells (named 0) κs.0 (Cell X), tt)) (λ κs qs bounds a _ are.
    let b = a.0.ref_ptr.0 in let o = a.0.ref_ptr.1 in let γ = a.0.ghost_name in let cell = a.0.now in let self = mut_vals a.0 in
    let y : (walk_of 𝓛 ended stayed clauses).Ghost = ((κs, qs, bounds, a, (self, tt)), tt) in
    let Post : Val → SProp 𝓤 = (walk_of 𝓛 ended stayed clauses).post y in
    qed 𝓛 (((‵ (flft κs.0 qs.0) ⊛ ‵ (flft κs.1.0 qs.1.0) ⊛ ‵ ftrue) ⊛ ‵ ((MutRef (named 0) κs.0 (Cell X)).own_val a.0 self) ⊛ ‵ ftrue)
    ∷ (given (κs.1.0 ⊑ X.lives) (‵ ftrue) ⊛ given (IsSome cell) (‵ ftrue)) ∷ []) ∵
    move ! (1 ∷ []) $ split ! $ drop ! $ learn ! (λ is_full. drop ! $
    split ! $ split ! $ move ! (2 ∷ []) $ split ! $ keep ! (0 ∷ 2 ∷ 3 ∷ []) $
    enter ! _ _ _ _ _ $ alloc_all ! (λ l. pass_all ! refl ((tt, tt), tt) $
    let held = item_of cell is_full in let x : X.Denot = held.0 in let at = o + mark_bytes X in
    fsplit3 ! $ drop ! $ open_ref ! tt (mem (Cell X)) {b = b} {o = o} $
    rewrite ! 0 (λ (c : Option X.Denot). ‵ ((mem (Cell X)).own_at c b o)) held.1 refl $
    use1 𝓛 (some (λ (v : Val). given (Good X L 𝓛 b o v) (‵ (fat full_share (layout X) b at v) ⊛ raw (all 𝓤 (Back X L 𝓛 b o)) ⊛ ‵ (X.own_val x (v ∷ []))))) (apart X L 𝓛 b o x) $ pick ! (λ v. learn ! (λ good. split3 ! $
    -- [the item's cell; the way back; what the item owns; the open borrow; obs; auth; the other tokens]
    sets ! (addr ! (through ! refl (stop !))) refl (tt, tt) $
    first ! $ blocks ! $ sets ! (of_opd ! (get ! refl)) refl (tt, tt) $
    sets ! (is ! (bin ! (get ! refl) (align_word !) tt) (ap (vptr b) (sym (behind_mark (layout X) o)))) refl (tt, tt) $ sets ! (of_opd ! (get ! refl)) refl (tt, tt) $
    sets ! (of_opd ! (load ! (through ! refl (stop !)) (look ! 0 refl))) refl good $
    move ! (1 ∷ []) $ use1 𝓛 (raw (Back X L 𝓛 b o v)) (all_e 𝓤 (Back X L 𝓛 b o) v) $ move ! (1 ∷ 0 ∷ []) $
    use2 𝓛 (‵ (fat full_share (layout (Cell X)) b o (full X L 𝓛 b o v))) (apply∗ 𝓤 (𝓛.H.at full_share (layout X) b at v) (𝓛.H.at full_share (layout (Cell X)) b o (full X L 𝓛 b o v))) $
    sets ! (agg ! (and_then ! (lit ! tt) (no_more !))) refl (tt, (record { fits = lit< tt }, tt)) $
    assigns ! (of_opd ! (get ! refl)) (through ! refl (stop !)) (store ! 0 refl (tt, (record { fits = lit< tt }, tt))) $
    sets_last ! (of_opd ! (get ! refl)) refl good $
    exec ! 𝓣.C 𝓣.Λ (env fn.locals l) (after 2 fn.body) (at_ret _ Post) $ sets ! (of_opd ! (get ! refl)) refl good $
    use1 𝓛 (‵ ((mem (Cell X)).own_at None b o)) (emptied X L 𝓛 b o) $ move ! (0 ∷ 2 ∷ 3 ∷ 4 ∷ []) $ close_ref ! tt (mem (Cell X)) None {b = b} {o = o} $
    returns ! (look_at ! 0 refl) $ free_all ! refl $
    suffices ! _ (ends_at 𝓛 ended stayed clauses y v x (None, tt) (tt, tt)) $ says_two ! (held.1, refl) $
    -- [what the caller watches; the borrow; its token; what the item owns; the other tokens]
    feq_i ! (List Val) (vptr b o ∷ []) (vptr b o ∷ []) refl $ fjoin3 ! $ nothing ! $ move ! (1 ∷ 0 ∷ []) $ fjoin ! $
    move ! (1 ∷ 3 ∷ []) $ join ! $ keep ! (0 ∷ 1 ∷ 2 ∷ []) $ done !)))))
