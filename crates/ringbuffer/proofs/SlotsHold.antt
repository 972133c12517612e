-- What a change of one slot does to the items that lie in the slots.
use Rattle.ringbuffer.proofs.Words.{◌≡◌, ℕ, zero, suc, ◌+◌, ◌-◌, ◌%◌, ◌<◌, ◌≤◌, ◌⊎◌, inl, inr, List, [], ◌∷◌, length, ext_get_or, Option, None, refl, sym, ap, ◌∙◌, arith, add-mod-mod, add-mod_right, mod-add-mod, mod-eq_of_lt, mod-eq-sub-mod, mod-lt, mod_self, dec_lt, slice_get, filter_map, range_with_len, slot_after, SlotsHold, items_from}

-- a place counted round is the sum, less the size where the sum reaches it
pub wrap : (start k size : ℕ) → start < size → k ≤ size → ((start + k < size) × ((start + k) % size ≡ start + k)) ⊎ ((size ≤ start + k) × ((start + k) % size ≡ start + k - size))
wrap start k size within low =
    elim (dec_lt (start + k) size) [
      | yes below ↦ inl (below, mod-eq_of_lt below)
      | no above ↦ let reaches : size ≤ start + k = omega arith in inr (reaches, mod-eq-sub-mod reaches ∙ mod-eq_of_lt (omega arith))
    ]

-- two counts below the size that reach one place are equal
pub same_count : (start j k size : ℕ) → start < size → j < size → k < size → (start + j) % size ≡ (start + k) % size → j ≡ k
same_count start j k size within low low' same = grind (arith, wrap start j size within, wrap start k size within)

-- a count from a place that lies k further on is k more from this one
pub count_on : (start k j n size : ℕ) → k + j ≡ n → ((start + k) % size + j) % size ≡ (start + n) % size
count_on start k j n size sum = mod-add-mod (start + k) size j ∙ ap (λ p. p % size) {x = start + k + j} {y = start + n} (omega arith)

-- a count of none stays
pub count_none : (start size : ℕ) → start < size → start ≡ (start + 0) % size
count_none start size within = grind (arith, mod-eq_of_lt)

-- after the last slot the first one follows
pub round : (start k place j size : ℕ) → place ≡ (start + k) % size → place + j ≡ size → 0 ≡ (start + (k + j)) % size
round start k place j size found ends = grind (arith, mod_self, count_on start k j (k + j) size refl)

-- a contiguous way on from the place after len items
pub contiguous_on : (start len place size i : ℕ) → place ≡ (start + len) % size → place + i < size → place + i ≡ (start + (len + i)) % size
contiguous_on start len place size i found low = sym (mod-eq_of_lt low) ∙ ap (λ p. (p + i) % size) found ∙ count_on start len i (len + i) size refl

-- rows of one size that hold the same items from one start are equal: as many places lead to a place as lead on from it to the start, counted round
pub SlotsHold-same : {X : Type 0} (slots : List (Option X)) (start : ℕ) → start < length slots → (others : List (Option X)) (xs : List X) → SlotsHold slots start xs → SlotsHold others start xs → length others ≡ length slots → slots ≡ others
SlotsHold-same slots start within others xs lie lie' same =
    ext_get_or None slots others (sym same) (λ place low.
    let size = length slots in let far : ℕ = place + (size - start) in let near = mod-lt far {m = size} (omega arith) in
    let there : (start + far % size) % size ≡ place = add-mod-mod start far size ∙ ap (λ n. n % size) {x = start + far} {y = place + size} (omega arith) ∙ add-mod_right place size ∙ mod-eq_of_lt low in
    rw there at (lie (far % size) near ∙ sym (rw same at (lie' (far % size) (rw same near)))))

-- reading once round gives the items that lie there
items_until : {X : Type 0} (f : ℕ → Option X) (xs : List X) (from count : ℕ) → length xs ≤ count → ((k place : ℕ) → from + k ≡ place → k < count → f place ≡ slice_get xs k)
    → filter_map f (range_with_len from count) ≡ xs
items_until f [] from zero fit reads = refl
items_until f (x ∷ xs) from zero fit reads = absurd (omega arith)
items_until f [] from (suc count) fit reads =
    rw (reads 0 from (omega arith) (omega arith)) (items_until f [] (from + 1) count (omega arith) (λ k place at low. reads (suc k) place (omega arith) (omega arith)))
items_until f (x ∷ xs) from (suc count) fit reads =
    rw (reads 0 from (omega arith) (omega arith), items_until f xs (from + 1) count (omega arith) (λ k place at low. reads (suc k) place (omega arith) (omega arith))) refl

pub items_from-SlotsHold : {X : Type 0} (slots : List (Option X)) (start : ℕ) (xs : List X) → SlotsHold slots start xs → length xs ≤ length slots → items_from slots start ≡ xs
unfolding items_from
items_from-SlotsHold slots start xs lie fit = items_until (slot_after slots start) xs 0 (length slots) fit (λ k place at low. ap (slot_after slots start) {x = place} {y = k} (omega arith) ∙ lie k low)
