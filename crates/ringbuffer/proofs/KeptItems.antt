-- What stands while the items of a ring are asked about in turn, and each that is kept moves down after those kept before it.
use Rattle.ringbuffer.proofs.Words.{◌≡◌, ℕ, ◌+◌, ◌-◌, ◌%◌, ◌<◌, ◌≤◌, Bool, true, false, List, [], ◌∷◌, ◌++◌, if◌then◌else◌, inr, length, drop, nat_lt, None, Some, refl, sym, ap, ◌∙◌, arith, append-nil, common_steps, append_assoc, length-append, length-set, slice_get, slice_get_cases, slot_at, Slots, changed, Moves, View, IsLaidOut, IsFullAt, LaysApart, LaysOut, items_from, view_from, subst, nat_tests, places, items_where_true}
use Rattle.ring_core.proofs.RetainedItems.{Asks, asks_all, asks_more, asks_none, none_left, picked, picked_few, picked_more, rest_more, some_left}
use Rattle.ringbuffer.specs.Retaining.{Retains}
use Rattle.ringbuffer.proofs.Gap.{all_before, goes_over, lays_apart, read_set, reads}
use Rattle.ringbuffer.proofs.LaysOut.{slice_get_some}

-- the items after one that is taken come a place before
one_less : {A : Type 0} (xs ys : List A) (y : A) (k : ℕ) → slice_get (xs ++ ys) k ≡ (if nat_lt k (length xs) then slice_get (xs ++ y ∷ ys) k else slice_get (xs ++ y ∷ ys) (k + 1))
one_less xs ys y k = grind (arith, nat_tests, places, slice_get_cases)

module _ {A P : Type 0} (R : P → A → Bool → P → Type 0) (p : P) (s : Slots A) (start : ℕ) where
  -- what the slots show while these items are left
  abbrev shown : Slots A → List A → View A
  shown a xs = record { items = xs; changes = a.changes; capacity = s.capacity }

  -- the first items were asked about, by a test that was p and is q: those kept lie from the start on, and the others after the gap that was left
  pub record ClosesUp (a : Slots A) (q : P) (turns count : ℕ) : Type 0 where
    pub asks : Asks R p (items_from s.slots start) q turns
    pub counted : length (picked R asks) ≡ count
    pub apart : LaysApart s a start count (turns - count) (shown a (picked R asks ++ asks.rest))
    pub grows : s.changes ≤ a.changes
    pub few : a.changes ≤ s.changes + turns + count

  -- none was asked about yet
  pub closes_none : IsLaidOut s start → ClosesUp s p 0 0
  closes_none laid_out = record {
    asks = asks_none R p (items_from s.slots start);
    counted = refl;
    apart = lays_apart refl refl refl (omega arith) (λ k low. grind (arith, nat_tests, laid_out.layout k));
    grows = omega arith;
    few = omega arith;
  }

  module _ {a : Slots A} {q : P} {turns count : ℕ} (laid_out : IsLaidOut s start) (at : ClosesUp a q turns count) where
    abbrev kept : List A
    kept = picked R at.asks

    within : count ≤ turns
    within = omega (arith, picked_few R at.asks, at.counted)

    -- those kept, the gap and the rest are as many as there were
    fits : (length (kept ++ at.asks.rest) + (turns - count) ≡ length (items_from s.slots start)) × (length (kept ++ at.asks.rest) + (turns - count) ≤ length s.slots)
    fits =
        let fit = laid_out.fit in let parts = ap length at.asks.parts in
        (grind (arith, common_steps, within, at.counted, at.asks.counted), grind (arith, common_steps, within, at.counted, at.asks.counted))

    -- all were asked about
    pub closed : length (items_from s.slots start) ≡ turns → (v : View A) × LaysOut s a start v × Retains R p (view_from s start) v × (count ≡ length v.items)
    closed all =
        let none = none_left R at.asks (omega (arith, all)) in let same : kept ++ at.asks.rest ≡ kept = ap (λ l. kept ++ l) none ∙ append-nil kept in (
          shown a kept,
          subst (λ l. LaysOut s a start (shown a l)) same (all_before at.apart laid_out fits.1 refl (rw same (sym at.counted))),
          record { filtered = asks_all R at.asks (omega (arith, all)); changes = (at.grows, omega (arith, at.few, at.counted, all)); same_capacity = refl },
          sym at.counted,
        )

    -- one more is asked about, whose place is the next after the gap
    module _ (more : turns < length (items_from s.slots start)) (place : ℕ) (found : place ≡ (start + turns) % length a.slots) where
      low : turns < length s.slots
      low = let fit = laid_out.fit in omega (arith, more, fit)

      held : slot_at a place ≡ slice_get (kept ++ at.asks.rest) count
      held = let back : turns - (turns - count) ≡ count = omega (arith, within) in rw found (grind (arith, nat_tests, within, back, reads at.apart turns low))

      pub full : IsFullAt a place
      full = rw held (slice_get_some (kept ++ at.asks.rest) count (omega (arith, at.counted, length-append kept at.asks.rest, some_left R at.asks more)))

      module _ (x : A) (is : slot_at a place ≡ Some x) where
        abbrev rest : List A
        rest = drop 1 at.asks.rest

        next : at.asks.rest ≡ x ∷ rest
        next = let some = some_left R at.asks more in let first = sym held ∙ is in grind (arith, common_steps, slice_get_cases, at.counted)

        before : LaysApart s a start count (turns - count) (shown a (kept ++ x ∷ rest))
        before = subst (λ l. LaysApart s a start count (turns - count) (shown a (kept ++ l))) next at.apart

        -- the answer leaves x among those kept, or leaves it out
        turn : (b : Bool) (u : P) → R q x b u → (a' : Slots A) (count' : ℕ) → let left = items_where_true (b ∷ []) (x ∷ []) in
            count' ≡ count + length left → a.changes ≤ a'.changes → a'.changes ≤ a.changes + 1 + length left
            → LaysApart s a' start count' (turns + 1 - count') (shown a' (kept ++ (left ++ rest))) → ClosesUp a' u (turns + 1) count'
        turn b u answer a' count' more grows few apart =
            let left = items_where_true (b ∷ []) (x ∷ []) in let picks = picked_more R at.asks x next b u answer in record {
              asks = asks_more R at.asks x next b u answer;
              counted = omega (arith, ap length picks, length-append kept left, at.counted);
              apart = rw (picks, rest_more R at.asks x next b u answer, append_assoc) apart;
              grows = omega (arith, at.grows);
              few = omega (arith, at.few);
            }

        pub dropped : (b : Slots A) (u : P) → R q x false u → b ≡ changed a place None → ClosesUp b u (turns + 1) count
        dropped b u answer taken =
            let same = at.apart.same_size in let sizes = length-set a.slots place None in let one = ap (λ (c : Slots A). c.changes) taken in
            turn false u answer b count (omega arith) (omega arith) (omega arith)
            (lays_apart (rw taken (sizes ∙ same)) (rw taken at.apart.same_capacity) refl (omega (arith, low, within)) (λ k here.
            let read = read_set a.slots start turns k None (rw same laid_out.start_within) (rw same low) (rw same here) in
            rw (taken, found) (read ∙ grind (arith, nat_tests, within, at.counted, reads before k here, one_less kept rest x k, one_less kept rest x (k - (turns + 1 - count))))))

        pub stayed : count ≡ turns → (u : P) → R q x true u → ClosesUp a u (turns + 1) (count + 1)
        stayed all u answer =
            turn true u answer a (count + 1) refl (omega arith) (omega arith)
            (lays_apart at.apart.same_size at.apart.same_capacity refl (omega (arith, low)) (λ k here. grind (arith, nat_tests, all, reads before k here)))

        pub moved : count < turns → (b : Slots A) (u : P) → R q x true u → Moves a b start turns count → ClosesUp b u (turns + 1) (count + 1)
        moved some b u answer moves =
            let two = moves.counted in let left = length-append kept (x ∷ rest) in let wide : turns - count ≡ turns + 1 - (count + 1) = omega arith in
            turn true u answer b (count + 1) refl (omega arith) (omega arith)
            (rw wide at (goes_over before (rw next at fits.1) (omega arith) turns count (count + 1) (inr (omega arith, refl, refl))
            (omega (arith, left, at.counted)) (omega (arith, left, at.counted)) b (shown b (kept ++ x ∷ rest)) moves refl (sym two)))
