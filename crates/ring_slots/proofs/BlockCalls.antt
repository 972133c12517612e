-- The heap is asked for a block, and is given it back, by a handle that lies in a local.
use Rattle.ring_slots.proofs.Words.{◌≡◌, refl, ap, ◌∙◌, Bool, true, false, List, [], ◌∷◌, ◌++◌, ℕ, ◌*◌, ◌<◌, ◌^◌, Ura, full_share, SProp, ent, sep, emp, guard, wand, apply∗, id⊢, fst∗, never, Lft, Share, ftrue, fsep, fat, froom, flft, Ty, ty_array, w64, Val, vunit, vptr, vint, of_list, Fun, fact, fact_i, Memory, align, capped, capped_is, part_in, part_out, Logic, sem, live, Item, Goal, Soaks, Seq, Step, step, ‵, raw, ◌⊛◌, some, later, ◌$◌, ◌∵◌, !, qed, move, keep, drop, use0, use1, use2, pick, split, split3, join, rewrite, fsplit, fjoin, fpick, feq_i, feq_l, flt_i, check, show, await, updating, now, done, unit, Is, shows, part_at, hidden_shr, layout, param, RattleType, Ptr, block_ptr, null_ptr, ptr_val, room_for, in_a_block, only, nothing, facts, Ok, Err, type_size, Global, Al, Answer, answer_val, got, Answered, lends, no_methods}
use mir.Raw.{raw as bare}
use prog.RawLaws.{size-raw, align-raw}
use prog.Routine.{Routine}
use denote.Triple.Statement.{Contract}
use denote.Triple.Spec.{triple_of}
use Rattle.std.specs.Allocator.{HasLayout, block_if_ok}
use Rattle.std.specs.contracts.alloc.Global as heap
use Rattle.std.specs.contracts.impls.GlobalAllocator.TheImpl.{ghosts}
use Rattle.std.specs.contracts.impls.GlobalAllocator.allocate as asking
use Rattle.std.specs.contracts.impls.GlobalAllocator.deallocate as giving
use Rattle.std.proofs.alloc.Global.TheLaws as heap_laws
use Rattle.ring_slots.proofs.OwnerParts.{handle_made}

-- the handle as what the library's steps are stated for. They read its row and what frees a block alone
abbrev pub Handle : Al
Handle = record { row = heap.the_row; laws = heap_laws.the_row_laws; g = ghosts; d = no_methods 0; drops = no_methods 0 }

module _ {M : Type 1} {𝓤 : Ura M} (𝓛 : Logic 𝓤) (at_mem : Memory → SProp 𝓤) (run : Routine → Fun 𝓤) where
  open 𝓛 use {H, A}

  abbrev pub Ask : Contract 𝓤
  Ask = triple_of 𝓛 asking.signature (asking.spec 𝓛 at_mem run)

  abbrev pub Give : Contract 𝓤
  Give = triple_of 𝓛 giving.signature (giving.spec 𝓛 at_mem run)

  module _ (κ : Lft) (q : Share) (p : ℕ × ℕ) (a : Global) (s al : ℕ) (τ : Ty) where
    abbrev pub ask : Ask.Ghost
    ask = (((κ, tt), (q, tt), tt, (record { ref_ptr = p; now = a }, (s, (al, tt))), (vptr p.0 p.1 ∷ [], (vint w64 s ∷ [], (vint w64 al ∷ [], tt)))), τ)

    abbrev pub give : ℕ → ℕ → Give.Ghost
    give b o = (((κ, tt), (q, tt), tt, (record { ref_ptr = p; now = a }, (block_ptr b o, (s, (al, tt)))), (vptr p.0 p.1 ∷ [], (vptr b o ∷ [], (vint w64 s ∷ [], (vint w64 al ∷ [], tt))))), τ)

    module _ (laid : HasLayout τ s al) (fits_size : s < 2 ^ 64) (fits_align : al < 2 ^ 64) where
      pub asks : ent 𝓤 (sep 𝓤 (sem 𝓛 (hidden_shr heap.the_row κ a p.0 p.1)) (A.lft κ q)) (Ask.pre ask)
      asks =
          let place = vptr p.0 p.1 ∷ [] in let bytes = vint w64 s ∷ [] in let step = vint w64 al ∷ [] in
          qed 𝓛 (‵ (hidden_shr heap.the_row κ a p.0 p.1) ∷ ‵ (flft κ q) ∷ []) ∵
          use0 𝓛 (raw (fact 𝓤 (HasLayout τ s al))) (fact_i 𝓤 (HasLayout τ s al) (emp 𝓤) laid) $
          nothing ! $ flt_i ! al (2 ^ 64) fits_align $ feq_i ! (List Val) step step refl $ fjoin ! $ fjoin ! $
          flt_i ! s (2 ^ 64) fits_size $ feq_i ! (List Val) bytes bytes refl $ fjoin ! $ fjoin ! $
          move ! (2 ∷ []) $ feq_i ! (List Val) place place refl $ fjoin ! $ fjoin ! $
          nothing ! $ move ! (3 ∷ 0 ∷ []) $ join ! $ join ! $ done !

      pub gives : (b o : ℕ) → ent 𝓤 (sep 𝓤 (H.room τ b o) (sep 𝓤 (sem 𝓛 (ghosts.dealloc_token a τ (block_ptr b o))) (sep 𝓤 (sem 𝓛 (hidden_shr heap.the_row κ a p.0 p.1)) (A.lft κ q)))) (Give.pre (give b o))
      gives b o =
          let place = vptr p.0 p.1 ∷ [] in let block = vptr b o ∷ [] in let bytes = vint w64 s ∷ [] in let step = vint w64 al ∷ [] in
          qed 𝓛 (‵ (froom τ b o) ∷ ‵ (ghosts.dealloc_token a τ (block_ptr b o)) ∷ ‵ (hidden_shr heap.the_row κ a p.0 p.1) ∷ ‵ (flft κ q) ∷ []) ∵ fjoin ! $
          use0 𝓛 (raw (fact 𝓤 (HasLayout τ s al))) (fact_i 𝓤 (HasLayout τ s al) (emp 𝓤) laid) $ join ! $
          nothing ! $ flt_i ! al (2 ^ 64) fits_align $ feq_i ! (List Val) step step refl $ fjoin ! $ fjoin ! $
          flt_i ! s (2 ^ 64) fits_size $ feq_i ! (List Val) bytes bytes refl $ fjoin ! $ fjoin ! $
          feq_i ! (List Val) block block refl $ fjoin ! $
          move ! (2 ∷ []) $ feq_i ! (List Val) place place refl $ fjoin ! $ fjoin ! $
          nothing ! $ move ! (3 ∷ 0 ∷ []) $ join ! $ join ! $ done !

    abbrev answer : Val → Bool × (ℕ × ℕ) → SProp 𝓤
    answer v c = guard 𝓤 (v ≡ answer_val c.0 c.1.0 c.1.1) (sem 𝓛 (got (ghosts.dealloc_token a) τ c.0 c.1.0 c.1.1))

    answered : (v : Val) (r : Answer.Denot) → ent 𝓤 (sep 𝓤 (sem 𝓛 (Answer.own_val r (v ∷ []))) (sem 𝓛 (block_if_ok (ghosts.dealloc_token a) τ r))) (Answered Handle 𝓛 at_mem run a τ v)
    answered v (Ok r) =
        qed 𝓛 (‵ (Answer.own_val (Ok r) (v ∷ [])) ∷ ‵ (fsep (room_for τ r) (ghosts.dealloc_token a τ r)) ∷ []) ∵
        fpick ! (λ _. fsplit ! $ feq_l ! (λ tagged. fpick ! (λ _. fsplit ! $ feq_l ! (λ joined. fsplit ! $ feq_l ! (λ pointed. drop ! $
        in_a_block ! r (λ z. fsep (room_for τ z) (ghosts.dealloc_token a τ z)) (fst∗ 𝓤 (never 𝓤) (sem 𝓛 (ghosts.dealloc_token a τ null_ptr))) (λ b o lies.
        let spelled = pointed ∙ ap (λ (z : Ptr). ptr_val z ∷ []) lies in
        show ! (answer v) (true, (b, o)) $ check ! (ap only tagged ∙ ap (λ (ws : List Val). live 0 (of_list ws)) (joined ∙ ap (λ (ws : List Val). ws ++ []) spelled)) $ done !))))))
    answered v (Err e) =
        qed 𝓛 (‵ (Answer.own_val (Err e) (v ∷ [])) ∷ ‵ ftrue ∷ []) ∵
        fpick ! (λ _. fsplit ! $ feq_l ! (λ tagged. fpick ! (λ _. fsplit ! $ feq_l ! (λ joined. fsplit ! $ fpick ! (λ _. fsplit ! $ feq_l ! (λ refused. keep ! [] $
        show ! (answer v) (false, (0, 0)) $ check ! (ap only tagged ∙ ap (λ (ws : List Val). live 1 (of_list ws)) (joined ∙ ap (λ (ws : List Val). ws ++ []) refused)) $ done !))))))

    pub asked : (v : Val) → ent 𝓤 (Ask.post ask v) (H.⇛ (sep 𝓤 (Answered Handle 𝓛 at_mem run a τ v) (A.lft κ q)))
    asked v = qed 𝓛 (raw (Ask.post ask v) ∷ []) ∵ updating ! $
        use1 𝓛 (later (some (λ (r : Answer.Denot). ((‵ (flft κ q) ⊛ ‵ ftrue) ⊛ ‵ (Answer.own_val r (v ∷ [])))
        ⊛ some (λ (ws : Unit {0} × (Unit {0} × (Unit {0} × Unit {0}))). ‵ (fsep ftrue (fsep ftrue (fsep ftrue ftrue))) ⊛ ‵ (block_if_ok (ghosts.dealloc_token a) τ r))))) (id⊢ 𝓤 _) $
        await ! tt $ pick ! (λ r. split ! $ split ! $ split ! $ move ! (3 ∷ []) $ pick ! (λ _. split ! $ keep ! (4 ∷ 1 ∷ 2 ∷ []) $
        use2 𝓛 (raw (Answered Handle 𝓛 at_mem run a τ v)) (answered v r) $ now ! $ done !))

    pub gave : (b o : ℕ) (v : Val) → ent 𝓤 (Give.post (give b o) v) (H.⇛ (guard 𝓤 (v ≡ vunit) (A.lft κ q)))
    gave b o v = qed 𝓛 (raw (Give.post (give b o) v) ∷ []) ∵ updating ! $
        use1 𝓛 (later (some (λ (r : Unit {0}). ((‵ (flft κ q) ⊛ ‵ ftrue) ⊛ ‵ (unit.own_val r (v ∷ [])))
        ⊛ some (λ (ws : Unit {0} × (Unit {0} × (Unit {0} × (Unit {0} × Unit {0})))). ‵ (fsep ftrue (fsep ftrue (fsep ftrue (fsep ftrue ftrue)))) ⊛ ‵ ftrue)))) (id⊢ 𝓤 _) $
        await ! tt $ pick ! (λ r. split ! $ split ! $ split ! $ move ! (2 ∷ []) $ feq_l ! (λ e. now ! $ check ! (ap only e) $ keep ! (0 ∷ []) $ done !))

module _ (X : RattleType) where
  -- the type of a block for n items
  abbrev pub block_type : ℕ → Ty
  block_type n = bare (ty_array (layout X) n)

  pub block_laid : (n : ℕ) → n * type_size (param 0 X) < 2 ^ 64 → HasLayout (block_type n) (n * type_size (param 0 X)) (capped (align (layout X)))
  block_laid n fits = (ap capped (size-raw (ty_array (layout X) n)) ∙ capped_is (n * type_size (param 0 X)) fits, ap capped (align-raw (ty_array (layout X) n)))

module _ {M : Type 1} {𝓤 : Ura M} (𝓛 : Logic 𝓤) (a : Global) (b : ℕ) (ρ : Lft) (q : Share) where
  open 𝓛 use {H, A}

  -- the way back of the handle, once the `&` to it that lives as long as n.0 is over
  abbrev pub Back : ℕ × Share → Item 𝓤
  Back n = raw (wand 𝓤 (A.lft (n.0 ∷ ρ) n.1) (H.⇛ (sep 𝓤 (sem 𝓛 (part_at (param 0 heap.the_row) full_share a b 0)) (A.lft ρ q))))

module _ {M : Type 1} {𝓤 : Ura M} {𝓛 : Logic 𝓤} {K : Type 0} {Γ : List (Item 𝓤)} {G : Goal 𝓤 𝓛.H} (a : Global) (b : ℕ) (ρ : Lft) (q : Share) where
  open 𝓛 use {H, A}

  pub handle_lent : K → Soaks G
      → ((n : ℕ × Share) → Seq K 𝓛 (‵ (hidden_shr heap.the_row (n.0 ∷ ρ) a b 0) ∷ ‵ (flft (n.0 ∷ ρ) n.1) ∷ Back 𝓛 a b ρ q n ∷ Γ) G)
      → Seq K 𝓛 (‵ (fat full_share heap_laws.mir b 0 (heap_laws.lowered a)) ∷ ‵ (flft ρ q) ∷ Γ) G
  handle_lent t z next =
      handle_made t a $ move t (1 ∷ 0 ∷ []) $
      use2 𝓛 (‵ (part_at (param 0 heap.the_row) full_share a b 0)) (part_in 𝓛 (param 0 heap.the_row) refl full_share a b 0 (heap_laws.lowered a)) $
      use2 𝓛 (later (some (λ (n : ℕ × Share). ‵ (hidden_shr heap.the_row (n.0 ∷ ρ) a b 0) ⊛ ‵ (flft (n.0 ∷ ρ) n.1) ⊛ Back 𝓛 a b ρ q n))) (lends Handle 𝓛 ρ q (heap_laws.the_within ρ) (b, 0) a) $
      await t z $ pick t (λ n. split3 t $ next n)

  pub handle_back : K → Soaks G → (n : ℕ × Share)
      → Step K 𝓛 (‵ (fat full_share heap_laws.mir b 0 (heap_laws.lowered a)) ∷ ‵ (flft ρ q) ∷ Γ) G (‵ (flft (n.0 ∷ ρ) n.1) ∷ Back 𝓛 a b ρ q n ∷ Γ) G
  handle_back t z n = step (λ k.
      let whole = part_at (param 0 heap.the_row) full_share a b 0 in
      use2 𝓛 (later (‵ whole ⊛ ‵ (flft ρ q))) (apply∗ 𝓤 (A.lft (n.0 ∷ ρ) n.1) (H.⇛ (sep 𝓤 (sem 𝓛 whole) (A.lft ρ q)))) $ await t z $ split t $
      use1 𝓛 (some (λ (v : Val). ‵ (fat full_share heap_laws.mir b 0 v) ⊛ ‵ (heap.the_row.own_val a (v ∷ [])))) (part_out 𝓛 (param 0 heap.the_row) refl full_share a b 0) $
      pick t (λ v. split t $ move t (1 ∷ []) $ facts t heap.the_row (Is heap.the_row) (shows 𝓛 heap.the_row) a (v ∷ []) (λ is.
      rewrite t 0 (λ (w : Val). ‵ (fat full_share heap_laws.mir b 0 w)) (ap only (heap_laws.lowers.val_is a (v ∷ []) is)) refl $ k)))
