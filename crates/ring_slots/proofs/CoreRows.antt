-- The slots of an owner become a row of core's, and a row becomes slots.
use Rattle.ring_slots.proofs.Words.{ap, is_some, ◌≡◌, refl, Bool, true, false, List, [], ◌∷◌, ℕ, zero, suc, ◌+◌, ◌<◌, ◌≤◌, arith, length, map, get_or, Ura, ent, emp, id⊢, Fml, Logic, sem, ‵, ◌$◌, ◌∵◌, !, qed, use1, frame, by, layout, froom, RattleType, Option, Some, None, row, slot, mono_r, Laws, block_ptr, if◌then◌else◌, slice_get}
use Rattle.core.specs.Mem.Slots.Ownership.{slots}
use Rattle.std_alloc.proofs.VecSteps.El.{El, no_al}
use Rattle.ring_slots.proofs.SlotsInMemory.{R, bytes, room_of}

-- items of this type, as the library's steps name them
abbrev pub items_of : (X : RattleType) → Laws X → El
items_of X L = record { row = X; laws = L; al = no_al }

module _ {A : Type 0} where
  -- the item of a slot, or this where it is empty
  abbrev pub or_this : A → Option A → A
  or_this x None = x
  or_this x (Some y) = y

  -- the slots of a row, of which those from the n-th on are empty
  abbrev pub slots_to : ℕ → List A → List Bool → List (Option A)
  slots_to n [] fs = []
  slots_to n (x ∷ xs) [] = []
  slots_to zero (x ∷ xs) (f ∷ fs) = None ∷ slots_to zero xs fs
  slots_to (suc n) (x ∷ xs) (f ∷ fs) = (if f then Some x else None) ∷ slots_to n xs fs

  pub length-slots_to : (n : ℕ) (xs : List A) (fs : List Bool) → length fs ≡ length xs → length (slots_to n xs fs) ≡ length xs
  length-slots_to n [] fs same = refl
  length-slots_to n (x ∷ xs) [] same = absurd (omega arith)
  length-slots_to zero (x ∷ xs) (f ∷ fs) same = ap suc (length-slots_to zero xs fs (omega arith))
  length-slots_to (suc n) (x ∷ xs) (f ∷ fs) same = ap suc (length-slots_to n xs fs (omega arith))

  -- a slot holds what its place of the row says
  pub held_in : (x : A) (cs : List (Option A)) (i : ℕ) → get_or cs i None ≡ (if get_or (map is_some cs) i false then slice_get (map (or_this x) cs) i else None)
  held_in x [] i = refl
  held_in x (None ∷ cs) zero = refl
  held_in x (Some y ∷ cs) zero = refl
  held_in x (c ∷ cs) (suc i) = held_in x cs i

  pub held_to : (n : ℕ) (xs : List A) (fs : List Bool) (i : ℕ) → length fs ≡ length xs
      → (i < n → get_or (slots_to n xs fs) i None ≡ (if get_or fs i false then slice_get xs i else None)) × (n ≤ i → get_or (slots_to n xs fs) i None ≡ None)
  held_to n [] [] i same = (λ low. refl, λ late. refl)
  held_to n [] (f ∷ fs) i same = absurd (omega arith)
  held_to n (x ∷ xs) [] i same = absurd (omega arith)
  held_to zero (x ∷ xs) (f ∷ fs) zero same = (λ low. absurd (omega arith), λ late. refl)
  held_to zero (x ∷ xs) (f ∷ fs) (suc i) same = (λ low. absurd (omega arith), λ late. (held_to zero xs fs i (omega arith)).1 (omega arith))
  held_to (suc n) (x ∷ xs) (f ∷ fs) zero same = (λ low. refl, λ late. absurd (omega arith))
  held_to (suc n) (x ∷ xs) (f ∷ fs) (suc i) same = let rest = held_to n xs fs i (omega arith) in (λ low. rest.0 (omega arith), λ late. rest.1 (omega arith))

module _ (X : RattleType) {M : Type 1} {𝓤 : Ura M} (𝓛 : Logic 𝓤) (b : ℕ) where
  abbrev places : ℕ → List X.Denot → List Bool → Fml
  places o xs fs = slots (R X) (block_ptr b o) xs fs

  pub to_row : (x : X.Denot) (cs : List (Option X.Denot)) (o : ℕ) → ent 𝓤 (sem 𝓛 (row (R X) b o cs)) (sem 𝓛 (places o (map (or_this x) cs) (map is_some cs)))
  to_row x [] o = id⊢ 𝓤 (emp 𝓤)
  to_row x (None ∷ cs) o = mono_r 𝓤 (sem 𝓛 (slot (R X) b o None)) (to_row x cs (o + bytes X))
  to_row x (Some y ∷ cs) o = mono_r 𝓤 (sem 𝓛 (slot (R X) b o (Some y))) (to_row x cs (o + bytes X))

  pub of_row : (n : ℕ) (xs : List X.Denot) (fs : List Bool) (o : ℕ) → ent 𝓤 (sem 𝓛 (places o xs fs)) (sem 𝓛 (row (R X) b o (slots_to n xs fs)))
  of_row n [] fs o = id⊢ 𝓤 (emp 𝓤)
  of_row n (x ∷ xs) [] o = id⊢ 𝓤 (emp 𝓤)
  of_row zero (x ∷ xs) (true ∷ fs) o = qed 𝓛 (‵ (slot (R X) b o (Some x)) ∷ ‵ (places (o + bytes X) xs fs) ∷ []) ∵
      use1 𝓛 (‵ (froom (layout X) b o)) (room_of X b 𝓛 (Some x) o) $ use1 𝓛 (‵ (slot (R X) b o None)) (𝓛.laws.room-raw (layout X) b o) $ frame ! $ by ! (of_row zero xs fs (o + bytes X))
  of_row zero (x ∷ xs) (false ∷ fs) o = mono_r 𝓤 (sem 𝓛 (slot (R X) b o None)) (of_row zero xs fs (o + bytes X))
  of_row (suc n) (x ∷ xs) (true ∷ fs) o = mono_r 𝓤 (sem 𝓛 (slot (R X) b o (Some x))) (of_row n xs fs (o + bytes X))
  of_row (suc n) (x ∷ xs) (false ∷ fs) o = mono_r 𝓤 (sem 𝓛 (slot (R X) b o None)) (of_row n xs fs (o + bytes X))
