-- Full slots, once one more item is put before or after theirs.
use Rattle.ring_slots.proofs.Words.{◌≡◌, refl, sym, ap, ◌∙◌, List, [], ◌∷◌, ◌++◌, ℕ, ◌+◌, arith, length, length-append, map, take, cut, Option, Some, IsFullStretch, map-append, Passes, passed_down, passed_up}
use Rattle.ring_slots.proofs.SlotsInMemory.{stretch_long}

module _ {X : Type 0} where
  -- as many items go on as stood there
  pub as-many_up : (item over : X) (had has : List X) → passed_up item over had has → length has ≡ length had
  as-many_up item over had has passed = omega (arith, ap length passed, length-append has (over ∷ []))

  pub as-many_down : (item over : X) (had has : List X) → passed_down item over had has → length has ≡ length had
  as-many_down item over had has passed = omega (arith, ap length passed, length-append had (item ∷ []))

  -- of full slots all but the last hold items, and so do all but the first
  but_last : (zs : List X) (ys : List (Option X)) (x : X) → map Some zs ≡ ys ++ Some x ∷ [] → (has : List X) × (ys ≡ map Some has) × (zs ≡ has ++ x ∷ [])
  but_last [] ys x same = absurd (omega (arith, ap length same, length-append ys (Some x ∷ [])))
  but_last (z ∷ []) [] x same = ([], refl, cc)
  but_last (z ∷ w ∷ zs) [] x same = absurd (omega (arith, ap length same))
  but_last (z ∷ zs) (y ∷ ys) x same =
      let first : y ≡ Some z = cc in let (has, are, all) = but_last zs ys x (ap (cut 1) same) in (z ∷ has, cc, ap (λ l. z ∷ l) all)

  but_first : (zs : List X) (ys : List (Option X)) (x : X) → map Some zs ≡ Some x ∷ ys → (has : List X) × (ys ≡ map Some has) × (zs ≡ x ∷ has)
  but_first [] ys x same = absurd (omega (arith, ap length same))
  but_first (z ∷ zs) ys x same = let first : z ≡ x = cc in (zs, sym (ap (cut 1) same), ap (λ y. y ∷ zs) first)

  module _ (cells new ys : List (Option X)) (from len : ℕ) (item x : X) (full : IsFullStretch cells from len) (after : new ≡ take from cells ++ (ys ++ cut (from + len) cells)) (cap changes counted : ℕ) (count : counted ≡ changes + len) where
    -- each slot of the stretch has one change
    passes : (has : List X) (passed : X → List X → List X → Type 0) → length has ≡ length full.1.0 → ys ≡ map Some has → passed x full.1.0 has
        → Passes (record { slots = cells; changes = changes; capacity = cap }) (record { slots = new; changes = counted; capacity = cap }) from len (passed x)
    passes has passed many are order =
        let long : length has ≡ len = many ∙ stretch_long cells from len full.1.0 full.0 full.1.1 in
        (full.1.0, has, full.1.1, order, rw (after, are, count, sym long) refl)

    pub passes_up : Some item ∷ take len (cut from cells) ≡ ys ++ Some x ∷ [] → Passes (record { slots = cells; changes = changes; capacity = cap }) (record { slots = new; changes = counted; capacity = cap }) from len (passed_up item x)
    passes_up put =
        let (has, are, all) = but_last (item ∷ full.1.0) ys x (ap (λ l. Some item ∷ l) (sym full.1.1) ∙ put) in
        passes has (passed_up item) (as-many_up item x full.1.0 has all) are all

    pub passes_down : take len (cut from cells) ++ Some item ∷ [] ≡ Some x ∷ ys → Passes (record { slots = cells; changes = changes; capacity = cap }) (record { slots = new; changes = counted; capacity = cap }) from len (passed_down item x)
    passes_down put =
        let (has, are, all) = but_first (full.1.0 ++ item ∷ []) ys x (map-append Some full.1.0 (item ∷ []) ∙ ap (λ l. l ++ Some item ∷ []) (sym full.1.1) ∙ put) in
        passes has (passed_down item) (as-many_down item x full.1.0 has all) are all
