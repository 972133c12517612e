-- A stretch of slots of a row is taken out and put back, and a row is made of memory and gives it back.
use Rattle.ring_slots.proofs.Words.{drop-cons, ◌≡◌, refl, sym, ap, ◌∙◌, false, List, [], ◌∷◌, ℕ, zero, suc, ◌+◌, ◌*◌, ◌^◌, ◌<◌, ◌≤◌, zero-mul, suc-mul, mul-le-mul_right, arith, T, eqb, length, get_or, replicate, Ura, full_share, ent, sep, Fml, Lft, fsep, fat, froom, Ty, ty_array, Val, has_ty, WT, Logic, sem, ‵, ◌⊛◌, some, ◌$◌, ◌∵◌, !, qed, by, move, keep, drop, use1, use2, pick, split, rewrite, fsplit, fjoin, frame, done, Typed, mem, cells, part_at, layout, param, RattleType, nothing, capped_is, capped, part_out, Option, Some, None, IsSome, type_size, ◌++◌, cut, take, take-append-drop, length-take, length-drop, map, elements_shared, length-map, HoldsStretch, IsFullStretch, slot, row, row_shown, common_steps}
use types.SemTy.{SemTy}
use Rattle.std.proofs.lemmas.Bool.Decides.{nat_tests}
use Rattle.core.specs.contracts.option.Option as option
use Rattle.ring_slots.proofs.Stretch as stretch

-- the item of a full slot
pub item_of : {A : Type 0} (c : Option A) → IsSome c → (x : A) × (c ≡ Some x)
item_of None full = cc
item_of (Some x) full = (x, refl)

-- a slot that holds an item is one of the row's
pub full_within : {A : Type 0} (cs : List (Option A)) (i : ℕ) (x : A) → get_or cs i None ≡ Some x → i < length cs
full_within cs i x holds = grind (arith, common_steps)

-- a full slot is a stretch of one
pub full_stretch : {A : Type 0} (cs : List (Option A)) (i : ℕ) → IsSome (get_or cs i None) → IsFullStretch cs i 1
full_stretch cs i full =
    let (x, is) = item_of (get_or cs i None) full in let low = full_within cs i x is in (omega (arith, low), (x ∷ [], ap (take 1) (drop-cons cs i None low) ∙ ap (λ c. c ∷ []) is))

-- where n sizes fit a block, so do a stretch of slots, and the way to it
pub stretch_fits : (from len n bytes : ℕ) → from + len ≤ n → n * bytes < 2 ^ 63 → (from * bytes < 2 ^ 64) × (len * bytes < 2 ^ 63)
stretch_fits from len n bytes within fit =
    let before : from * bytes ≤ n * bytes = mul-le-mul_right bytes (omega arith) in
    let all : len * bytes ≤ n * bytes = mul-le-mul_right bytes (omega arith) in
    (omega arith, omega arith)

-- a stretch has as many items as slots
pub stretch_long : {A : Type 0} (cs : List (Option A)) (from len : ℕ) (xs : List A) → from + len ≤ length cs → HoldsStretch cs from len xs → length xs ≡ len
stretch_long cs from len xs within holds =
    omega (arith, ap (λ (l : List (Option _)). length l) holds, length-map xs Some, length-take len (cut from cs), length-drop from cs)

-- capping a size at the greatest word leaves its product, where that product fits a word
pub product_is : (k bytes : ℕ) → k * bytes < 2 ^ 64 → k * capped bytes ≡ k * bytes
product_is zero bytes fits = zero-mul (capped bytes) ∙ sym (zero-mul bytes)
product_is (suc k) bytes fits =
    let once = suc-mul k bytes in ap (λ (j : ℕ). suc k * j) (capped_is bytes (omega arith))

-- a size above 0 is not 0
pub has_size : (bytes : ℕ) → 0 < bytes → eqb bytes 0 ≡ false
has_size bytes sized = grind (arith, nat_tests)

-- what is owned of an item is one machine value
pub one_value : (τ : Ty) (vs : List Val) → Typed (τ ∷ []) vs → (v : Val) × ((vs ≡ v ∷ []) × (T (has_ty τ v) × WT v))
one_value τ [] typed = absurd typed
one_value τ (v ∷ []) typed = (v, (refl, typed.0))
one_value τ (v ∷ w ∷ vs) typed = absurd typed.1

module _ (X : RattleType) where
  abbrev pub R : RattleType
  R = param 0 X

  abbrev pub bytes : ℕ
  bytes = type_size R

  -- a slot as cells are of
  abbrev Slot : SemTy
  Slot = record { rep = Option X.Denot; coded = (option.the_row R).coded; size = bytes; own_at = λ c b o. slot R b o c }

  module _ (b : ℕ) where
    row_is : (cs : List (Option X.Denot)) (o : ℕ) → row R b o cs ≡ cells Slot cs b o
    row_is [] o = refl
    row_is (c ∷ cs) o = ap (fsep (slot R b o c)) (row_is cs (o + bytes))

    -- the slots outside a stretch of them
    abbrev pub around : ℕ → List (Option X.Denot) → ℕ → ℕ → Fml
    around o cs from len = stretch.around Slot b cs from len o

    -- full slots hold their items as a slice does
    pub row-cells : (xs : List X.Denot) (o : ℕ) → row R b o (map Some xs) ≡ cells (mem R) xs b o
    row-cells [] o = refl
    row-cells (x ∷ xs) o = ap (fsep (part_at R full_share x b o)) (row-cells xs (o + bytes))

    module _ {M : Type 1} {𝓤 : Ura M} (𝓛 : Logic 𝓤) where
      -- a stretch of slots is taken out and put back
      pub stretch_out : (cs : List (Option X.Denot)) (from len o : ℕ) → from + len ≤ length cs
          → ent 𝓤 (sem 𝓛 (row R b o cs)) (sep 𝓤 (sem 𝓛 (row R b (from * bytes + o) (take len (cut from cs)))) (sem 𝓛 (around o cs from len)))
      stretch_out cs from len o within =
          let at = from * bytes + o in let inner = take len (cut from cs) in
          qed 𝓛 (‵ (row R b o cs) ∷ []) ∵ rewrite ! 0 (λ (f : Fml). ‵ f) (row_is cs o) refl $
          use1 𝓛 (‵ (cells Slot inner b at) ⊛ ‵ (around o cs from len)) (stretch.stretch_out Slot b 𝓛 cs from len o within) $ split ! $
          rewrite ! 0 (λ (f : Fml). ‵ f) (sym (row_is inner at)) refl $ done !

      pub stretch_in : (cs : List (Option X.Denot)) (from len o : ℕ) (new : List (Option X.Denot)) → from ≤ length cs → length new ≡ len
          → ent 𝓤 (sep 𝓤 (sem 𝓛 (row R b (from * bytes + o) new)) (sem 𝓛 (around o cs from len))) (sem 𝓛 (row R b o (take from cs ++ (new ++ cut (from + len) cs))))
      stretch_in cs from len o new within long =
          let at = from * bytes + o in let all = take from cs ++ (new ++ cut (from + len) cs) in
          qed 𝓛 (‵ (row R b at new) ∷ ‵ (around o cs from len) ∷ []) ∵ rewrite ! 0 (λ (f : Fml). ‵ f) (row_is new at) refl $
          use2 𝓛 (‵ (cells Slot all b o)) (stretch.stretch_in Slot b 𝓛 cs from len o new within long) $ rewrite ! 0 (λ (f : Fml). ‵ f) (sym (row_is all o)) refl $ done !

      -- room for n items is a row of n empty slots
      pub of_room : (n o : ℕ) → ent 𝓤 (sem 𝓛 (froom (ty_array (layout X) n) b o)) (sem 𝓛 (row R b o (replicate n None)))
      of_room zero o = qed 𝓛 (‵ (froom (ty_array (layout X) 0) b o) ∷ []) ∵ drop ! $ nothing ! $ done !
      of_room (suc n) o = qed 𝓛 (‵ (froom (ty_array (layout X) (suc n)) b o) ∷ []) ∵
          use1 𝓛 (‵ (froom (layout X) b o) ⊛ ‵ (froom (ty_array (layout X) n) b (o + bytes))) (𝓛.laws.room_uncons (layout X) n b o) $ split ! $
          use1 𝓛 (‵ (slot R b o None)) (𝓛.laws.room-raw (layout X) b o) $ frame ! $ by ! (of_room n (o + bytes))

      -- a slot is room for an item, whatever it holds
      pub room_of : (c : Option X.Denot) (o : ℕ) → ent 𝓤 (sem 𝓛 (slot R b o c)) (sem 𝓛 (froom (layout X) b o))
      room_of None o = 𝓛.laws.raw-room (layout X) b o
      room_of (Some x) o = qed 𝓛 (‵ (part_at R full_share x b o) ∷ []) ∵
          use1 𝓛 (some (λ (v : Val). ‵ (fat full_share (layout X) b o v) ⊛ ‵ (X.own_val x (v ∷ [])))) (part_out 𝓛 R refl full_share x b o) $
          pick ! (λ v. split ! $ keep ! (0 ∷ []) $ by ! (𝓛.laws.at_room (layout X) b o v))

      -- and a row is room for as many items as it has slots
      pub to_room : (cs : List (Option X.Denot)) (o : ℕ) → ent 𝓤 (sem 𝓛 (row R b o cs)) (sem 𝓛 (froom (ty_array (layout X) (length cs)) b o))
      to_room [] o = 𝓛.laws.room_nil (layout X) b o
      to_room (c ∷ cs) o = qed 𝓛 (‵ (row R b o (c ∷ cs)) ∷ []) ∵ fsplit ! $
          use1 𝓛 (‵ (froom (layout X) b o)) (room_of c o) $ move ! (1 ∷ []) $
          use1 𝓛 (‵ (froom (ty_array (layout X) (length cs)) b (o + bytes))) (to_room cs (o + bytes)) $ move ! (1 ∷ 0 ∷ []) $
          by ! (𝓛.laws.room_cons (layout X) (length cs) b o)

      -- full slots show their items as a slice does, whatever comes after them
      items_seen : (κ : Lft) (xs : List X.Denot) (after : List (Option X.Denot)) (o : ℕ)
          → ent 𝓤 (sem 𝓛 (row_shown R b o (map Some xs ++ after) κ)) (sem 𝓛 (elements_shared R xs b o κ))
      items_seen κ [] after o = qed 𝓛 (‵ (row_shown R b o after κ) ∷ []) ∵ keep ! [] $ done !
      items_seen κ (x ∷ xs) after o = qed 𝓛 (‵ (row_shown R b o (map Some (x ∷ xs) ++ after) κ) ∷ []) ∵ fsplit ! $ move ! (1 ∷ []) $
          use1 𝓛 (‵ (elements_shared R xs b (o + bytes) κ)) (items_seen κ xs after (o + bytes)) $ move ! (1 ∷ 0 ∷ []) $ fjoin ! $ done !

      -- and so does a stretch of them anywhere in a row
      pub stretch_seen : (κ : Lft) (cs : List (Option X.Denot)) (from len o : ℕ) (xs : List X.Denot) → from + len ≤ length cs → HoldsStretch cs from len xs
          → ent 𝓤 (sem 𝓛 (row_shown R b o cs κ)) (sem 𝓛 (elements_shared R xs b (from * bytes + o) κ))
      stretch_seen κ cs zero len o xs within holds = qed 𝓛 (‵ (row_shown R b o cs κ) ∷ []) ∵
          rewrite ! 0 (λ (l : List (Option X.Denot)). ‵ (row_shown R b o l κ)) (sym (take-append-drop len cs) ∙ ap (λ (l : List (Option X.Denot)). l ++ cut len cs) holds) refl $
          use1 𝓛 (‵ (elements_shared R xs b o κ)) (items_seen κ xs (cut len cs) o) $
          rewrite ! 0 (λ (k : ℕ). ‵ (elements_shared R xs b k κ)) (omega (arith, zero-mul bytes)) refl $ done !
      stretch_seen κ [] (suc from) len o xs within holds = absurd (omega arith)
      stretch_seen κ (c ∷ cs) (suc from) len o xs within holds =
          let inner : from + len ≤ length cs = omega arith in
          qed 𝓛 (‵ (row_shown R b o (c ∷ cs) κ) ∷ []) ∵ fsplit ! $ keep ! (1 ∷ []) $
          use1 𝓛 (‵ (elements_shared R xs b (from * bytes + (o + bytes)) κ)) (stretch_seen κ cs from len (o + bytes) xs inner holds) $
          rewrite ! 0 (λ (k : ℕ). ‵ (elements_shared R xs b k κ)) (omega (arith, suc-mul from bytes)) refl $ done !
