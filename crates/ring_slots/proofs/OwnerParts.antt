-- The owner of slots is taken apart into their row and its mark, and is made of these again.
use Rattle.ring_slots.proofs.Words.{Fml, fsep, fsplit3, part_of, refilled, length-map, map, Some, take, cut, ◌+◌, ◌≤◌, arith, cells, sep, sem, qed, ◌∵◌, !, use2, done, shape, ◌≡◌, refl, sym, ap, subst, ◌∙◌, List, [], ◌∷◌, ◌++◌, ℕ, ◌*◌, ◌^◌, ◌<◌, T, lit<, length, replicate, length-replicate, Ura, full_share, ent, emp, never, id⊢, Lft, GName, Share, flft, fobs, fauth, fbor, fobor, Val, vunit, vptr, vstruct, vcons, vnil, of_list, has_ty, WT, Logic, sem, Item, Goal, Soaks, Seq, Step, step, ‵, ◌$◌, move, drop, use0, rewrite, fsplit, fjoin, fpick, fpack, feq_i, feq_l, flt_i, flt_l, Is, mem, cell_at, param, RattleType, Valss, Ptr, RawPtr, block_ptr, null_ptr, ptr_val, in_a_block, nothing, opens, closes, makes, Struct, within, None, type_size, Global, ty_ptr, row, right}
use base.Stored.{Gv}
use types.SemTy.{Body}
use denote.Shadow.{makes_shadow}
use denote.Steps.{owned as made}
use denote.Struct.Declared as Declared
use denote.Struct.Tuple.{Tuple, tuple_type}
use Rattle.std.specs.contracts.alloc.Global as heap
use Rattle.std.proofs.alloc.Global.TheLaws as heap_laws
use Rattle.ring_slots.proofs.Filled.{length-filled, refilled_is}
use Rattle.ring_slots.proofs.SlotsInMemory.{around, row-cells, stretch_in}
use Rattle.ring_slots.specs.block.Memory.{owned}
use Rattle.ring_slots.specs.contracts.block.Deed as D
use Rattle.ring_slots.specs.contracts.block.Owner as O

pub pointer_good : (p : Ptr) → T (has_ty ty_ptr (ptr_val p)) × WT (ptr_val p)
pointer_good (block_ptr b o) = (tt, tt)
pointer_good null_ptr = (tt, record { fits = lit< tt })

module _ (X : RattleType) where
  abbrev pub R : RattleType
  R = param 0 X

  abbrev pub Seen : RattleType
  Seen = O.the_row R

  -- the mark alone, which takes no bytes
  abbrev pub Mark : RattleType
  Mark = Struct (shape (O.the_type R))

  abbrev pub AreSmall : Seen.Denot → Type 0
  AreSmall s = length s.slots * type_size R < 2 ^ 63

  module _ {M : Type 1} {𝓤 : Ura M} {𝓛 : Logic 𝓤} {K : Type 0} {Γ : List (Item 𝓤)} {G : Goal 𝓤 𝓛.H} where
    -- [the row; the mark; its cell; the open borrow, in three entries]
    pub slots_opened : K → Soaks G → {κ : Lft} {q : Share} {γ : GName} (s : Seen.Denot) (rb ro : ℕ)
        → ((us : List Val) (b o : ℕ) → s.at ≡ block_ptr b o → AreSmall s
        → Seq K 𝓛 (‵ (row R b o s.slots) ∷ ‵ (Mark.own_val (tt, tt) us) ∷ ‵ (cell_at full_share Seen.mir us rb ro)
        ∷ ‵ (fobor κ q (Body (mem Seen) rb ro γ)) ∷ ‵ (fobs γ (Seen.coded.code s)) ∷ ‵ (fauth γ (Seen.coded.code s)) ∷ Γ) G)
        → Seq K 𝓛 (‵ (fobs γ (Seen.coded.code s)) ∷ ‵ (fbor κ (Body (mem Seen) rb ro γ)) ∷ ‵ (flft κ q) ∷ Γ) G
    slots_opened t z s rb ro next = opens t z Seen {h = s} rb ro (λ us. move t (1 ∷ []) $ fsplit t $ move t (1 ∷ []) $
        in_a_block t s.at (λ p. owned R p s.slots) (id⊢ 𝓤 (never 𝓤)) (λ b o lies. fsplit t $ flt_l t (λ small. next us b o lies small)))

    -- and back, at other slots and another count
    pub slots_closed : K → Soaks G → {κ : Lft} {q : Share} {u v : Gv} {γ : GName} (s : Seen.Denot) (us : List Val) (b o rb ro : ℕ) → s.at ≡ block_ptr b o → AreSmall s
        → Step K 𝓛 (‵ (fobs γ (Seen.coded.code s)) ∷ ‵ (fbor κ (Body (mem Seen) rb ro γ)) ∷ ‵ (flft κ q) ∷ Γ) G
        (‵ (row R b o s.slots) ∷ ‵ (Mark.own_val (tt, tt) us) ∷ ‵ (cell_at full_share Seen.mir us rb ro)
        ∷ ‵ (fobor κ q (Body (mem Seen) rb ro γ)) ∷ ‵ (fobs γ u) ∷ ‵ (fauth γ v) ∷ Γ) G
    slots_closed t z s us b o rb ro lies small = step (λ k.
        flt_i t (length s.slots * type_size R) (2 ^ 63) small $ fjoin t $ rewrite t 0 (λ (p : Ptr). ‵ (owned R p s.slots)) (sym lies) refl $
        move t (1 ∷ 0 ∷ []) $ fjoin t $ move t (1 ∷ 0 ∷ []) $ closes t z Seen s us rb ro $ k)

  abbrev pub mark : Val
  mark = vstruct (vcons (vstruct vnil) vnil)

  abbrev pub Right : RattleType
  Right = D.the_row R

  -- a pointer to slots, their owner and the right to free their block
  abbrev pub Three : RattleType
  Three = Tuple (RawPtr ∷ Seen ∷ Right ∷ [])

  abbrev pub three : ℕ → ℕ → Val
  three b o = vstruct (vcons (vptr b o) (vcons mark (vcons mark vnil)))

  abbrev pub begun : Global → ℕ → ℕ → ℕ → Three.Denot
  begun a b o n =
      let p = block_ptr b o in
      (p, record { mark = record {}; at = p; slots = replicate n None }, record { mark = record {}; at = p; len = n; alloc = a })

  mark_made : {M : Type 1} {𝓤 : Ura M} (𝓛 : Logic 𝓤) → ent 𝓤 (emp 𝓤) (sem 𝓛 (Mark.own_val (tt, tt) (mark ∷ [])))
  mark_made 𝓛 = makes_shadow 𝓛 (Mark.own_val (tt, tt) (mark ∷ [])) (λ vss. (tt, ((λ uss. (tt, tt)), tt))) ((vstruct vnil ∷ [], tt), (refl, ((tt, (refl, tt)), tt)))

-- a stretch of the slots is lent apart from the rest, which closes round any items that are written
module _ (X : RattleType) {M : Type 1} {𝓤 : Ura M} (𝓛 : Logic 𝓤) (d : (Seen X).Denot) (us : List Val) (b o rb ro from len : ℕ) where
  -- the owner with these items in a stretch of its slots
  abbrev pub refilled_owner : List X.Denot → (Seen X).Denot
  refilled_owner xs = record d { slots = refilled d.slots from len xs }

  -- all but the stretch
  abbrev pub Rest : Fml
  Rest = fsep (around X b o d.slots from len) (fsep ((Mark X).own_val (tt, tt) us) (cell_at full_share (Seen X).mir us rb ro))

  pub back : d.at ≡ block_ptr b o → AreSmall X d → from + len ≤ length d.slots
      → (ws : List X.Denot) → length ws ≡ len → ent 𝓤 (sep 𝓤 (sem 𝓛 (cells (mem (R X)) ws b (from * type_size (R X) + o))) (sem 𝓛 Rest)) (sem 𝓛 ((mem (Seen X)).own_at (refilled_owner ws) rb ro))
  unfolding part_of
  back lies fit within ws long =
      let at = from * type_size (R X) + o in let many : length (map Some ws) ≡ len = length-map ws Some ∙ long in
      let is : take from d.slots ++ (map Some ws ++ cut (from + len) d.slots) ≡ (refilled_owner ws).slots = rw (sym long) (sym (refilled_is d.slots from ws)) in
      let same : length (refilled_owner ws).slots ≡ length d.slots = ap length (sym is) ∙ rw (sym long) (length-filled d.slots from ws (omega arith)) in
      qed 𝓛 (‵ (cells (mem (R X)) ws b at) ∷ ‵ Rest ∷ []) ∵ rewrite ! 0 (λ (f : Fml). ‵ f) (sym (row-cells X b ws at)) refl $ move ! (1 ∷ []) $ fsplit3 ! $ move ! (3 ∷ 0 ∷ []) $
      use2 𝓛 (‵ (row (R X) b o (take from d.slots ++ (map Some ws ++ cut (from + len) d.slots)))) (stretch_in X b 𝓛 d.slots from len o (map Some ws) (omega arith) many) $
      rewrite ! 0 (λ (l : List _). ‵ (row (R X) b o l)) is refl $
      flt_i ! (length (refilled_owner ws).slots * type_size (R X)) (2 ^ 63) (subst (λ (k : ℕ). k * type_size (R X) < 2 ^ 63) (sym same) fit) $ fjoin ! $
      rewrite ! 0 (λ (p : Ptr). ‵ (owned (R X) p (refilled_owner ws).slots)) (sym lies) refl $ move ! (1 ∷ 0 ∷ []) $ fjoin ! $
      move ! (1 ∷ 0 ∷ []) $ fjoin ! $ fpack ! (List Val) (λ vs. fsep (cell_at full_share (Seen X).mir vs rb ro) ((Seen X).own_val (refilled_owner ws) vs)) us $ done !

-- a mark is one machine value
module _ (X : RattleType) {M : Type 1} {𝓤 : Ura M} {𝓛 : Logic 𝓤} {K : Type 0} {Γ : List (Item 𝓤)} {G : Goal 𝓤 𝓛.H} where
  pub mark_had : K → (us : List Val) → (us ≡ mark X ∷ [] → Seq K 𝓛 Γ G) → Seq K 𝓛 (‵ ((Mark X).own_val (tt, tt) us) ∷ Γ) G
  mark_had t us next = fpick t (λ outer. fsplit t $ feq_l t (λ whole. fsplit t $ fpick t (λ inner. fsplit t $ feq_l t (λ empty. drop t $ drop t $
      next (whole ∙ ap (λ (ws : List Val). vstruct (of_list (ws ++ [])) ∷ []) empty)))))

-- [the row; the right to free its block]
module _ (X : RattleType) {M : Type 1} {𝓤 : Ura M} {𝓛 : Logic 𝓤} {K : Type 0} {Γ : List (Item 𝓤)} {G : Goal 𝓤 𝓛.H} where
  pub three_made : K → (a : Global) (b o n : ℕ) → n * type_size (R X) < 2 ^ 63
      → Step K 𝓛 (‵ ((Three X).own_val (begun X a b o n) (three X b o ∷ [])) ∷ Γ) G (‵ (row (R X) b o (replicate n None)) ∷ ‵ (right (R X) a (block_ptr b o) n) ∷ Γ) G
  three_made t a b o n small = step (λ k.
      flt_i t (length (replicate n None) * type_size (R X)) (2 ^ 63) (subst (λ (k : ℕ). k * type_size (R X) < 2 ^ 63) (sym (length-replicate n None)) small) $ fjoin t $
      use0 𝓛 (‵ ((Mark X).own_val (tt, tt) (mark X ∷ []))) (mark_made X 𝓛) $ fjoin t $ move t (1 ∷ 0 ∷ []) $
      use0 𝓛 (‵ ((Mark X).own_val (tt, tt) (mark X ∷ []))) (mark_made X 𝓛) $ fjoin t $
      nothing t $ move t (1 ∷ 0 ∷ []) $ fjoin t $ move t (1 ∷ 0 ∷ []) $ fjoin t $
      feq_i t (List Val) (vptr b o ∷ []) (vptr b o ∷ []) refl $ fjoin t $
      feq_i t (List Val) (three X b o ∷ []) (three X b o ∷ []) refl $ fjoin t $
      fpack t (Valss (RawPtr ∷ Seen X ∷ Right X ∷ [])) (within (Declared.shape (tuple_type (RawPtr ∷ Seen X ∷ Right X ∷ []))) (block_ptr b o, ((begun X a b o n).1, ((begun X a b o n).2, tt))) (three X b o ∷ [])) (vptr b o ∷ [], (mark X ∷ [], (mark X ∷ [], tt))) $ k)

-- a handle of the heap is made of nothing
module _ {M : Type 1} {𝓤 : Ura M} {𝓛 : Logic 𝓤} {K : Type 0} {Γ : List (Item 𝓤)} {G : Goal 𝓤 𝓛.H} where
  pub handle_made : K → (a : Global) → Step K 𝓛 (‵ (heap.the_row.own_val a (heap_laws.lowered a ∷ [])) ∷ Γ) G Γ G
  handle_made t a = step (λ k. made t heap.the_row (Is heap.the_row) (makes heap.the_type heap_laws.the_plain 𝓛) a (heap_laws.lowered a ∷ [])
      ((vstruct (vcons vunit vnil) ∷ [], tt), (refl, (((vunit ∷ [], tt), (refl, (refl, tt))), tt))) $ k)
