-- What lists and stretches of full slots hold, read from the front, copied item by item, and compared pair by pair.
use Rattle.ringbuffer.proofs.Words.{length-take, slice_get-drop, set, clone_out, nat_tests, add-one, option_to_list, take-suc_get, ◌≡◌, ℕ, ◌+◌, ◌<◌, ◌≤◌, false, true, zero, min, List, [], ◌∷◌, ◌++◌, Bool, ◌&&◌, length, length-drop, take, take-append-drop, drop, drop-drop, get_or, nat_eq, Option, None, Some, IsSome, refl, sym, subst, ap, ◌∙◌, suc, arith, drop-length, slice_get, pointwise, HoldsStretch, IsFullStretch, drop_more, common_prefix_len-le, get_or_from_slice_get, slice_get_within, common_prefix_len, common_steps, list_any, list_any-append}
use Rattle.std.proofs.Math.Bool.{and_assoc, cond}
use Rattle.ringbuffer.proofs.LaysOut.{slice_get_some}
use Rattle.ringbuffer.proofs.Stretches.{stretch_at, stretch_long}

-- the items of a list from a place on begin with the one there
pub drop_item : {X : Type 0} (xs : List X) (k : ℕ) (x : X) → slice_get xs k ≡ Some x → drop k xs ≡ x ∷ drop (k + 1) xs
drop_item xs k x is = drop_more xs k x (slice_get_within xs k x is) ∙ ap (λ y. y ∷ drop (k + 1) xs) (get_or_from_slice_get xs k x x is)

-- and the items up to there end with it
pub take_item : {X : Type 0} (xs : List X) (k : ℕ) (x : X) → slice_get xs k ≡ Some x → take (k + 1) xs ≡ take k xs ++ x ∷ []
take_item xs k x is = rw add-one (take-suc_get xs k ∙ ap (λ r. take k xs ++ option_to_list r) is)

-- item number n lands after those before it
pub set-copied : {A : Type 0} (items output : List A) (n : ℕ) (x : A) → slice_get items n ≡ Some x → n < length output
    → set (take n items ++ drop n output) n x ≡ take (n + 1) items ++ drop (n + 1) output
set-copied items output n x is room =
    rw (take_item items n x is) (clone_out output (take n items) n x (omega (arith, length-take n items, slice_get_within items n x is)) room)

-- so does the first of those that are left
pub set-popped : {A : Type 0} (items output rest : List A) (n : ℕ) (x : A) → drop n items ≡ x ∷ rest → n < length output
    → set (take n items ++ drop n output) n x ≡ take (n + 1) items ++ drop (n + 1) output
set-popped items output rest n x first room =
    set-copied items output n x (ap (λ k. slice_get items k) {x = n} {y = n + 0} (omega arith) ∙ sym (slice_get-drop n 0 items) ∙ ap (λ l. slice_get l 0) first) room

-- the answer for the pair at a place decides what the pairs from there on say
pub next_pair : {X : Type 0} (eq : X → X → Bool) (xs ys : List X) (k : ℕ) {x y : X} {same : Bool} → slice_get xs k ≡ Some x → slice_get ys k ≡ Some y → same ≡ eq x y
    → common_prefix_len eq (drop k xs) (drop k ys) ≡ cond same (1 + common_prefix_len eq (drop (k + 1) xs) (drop (k + 1) ys)) 0
next_pair eq xs ys k {x} {y} is other_is answered = rw (drop_item xs k x is, drop_item ys k y other_is, answered) refl

module _ {X : Type 0} (cs : List (Option X)) (from n : ℕ) where
  -- each slot of a full stretch holds an item
  pub full_at : IsFullStretch cs from n → (k : ℕ) → k < n → IsSome (get_or cs (from + k) None)
  full_at (fit, (xs, holds)) k low =
      subst (λ o. IsSome o) (sym (stretch_at cs from n k xs holds low)) (slice_get_some xs k (omega (arith, stretch_long cs from n xs holds fit)))

  module _ (full : IsFullStretch cs from n) (xs : List X) (holds : HoldsStretch cs from n xs) where
    -- the next item, and those after it
    pub ahead : (k : ℕ) (x : X) → k < n → get_or cs (from + k) None ≡ Some x → drop k xs ≡ x ∷ drop (k + 1) xs
    ahead k x low is = drop_item xs k x (sym (stretch_at cs from n k xs holds low) ∙ is)

    -- none is left after all
    pub none_left : drop n xs ≡ []
    none_left = rw (sym (stretch_long cs from n xs holds full.0)) (drop-length xs)

module _ {X : Type 0} (eq : X → X → Bool) (cs ds : List (Option X)) (from other n : ℕ) where
  -- the first k pairs of two stretches are equal
  abbrev pub AreEqual : ℕ → Type 0
  AreEqual k = (xs ys : List X) → HoldsStretch cs from n xs → HoldsStretch ds other n ys
      → common_prefix_len eq xs ys ≡ k + common_prefix_len eq (drop k xs) (drop k ys)

  -- and the next pair is, or it differs
  module _ (k : ℕ) (so_far : AreEqual k) (low : k < n) {x y : X} (at : get_or cs (from + k) None ≡ Some x) (other_at : get_or ds (other + k) None ≡ Some y)
      {same : Bool} (answered : same ≡ eq x y) where
    pub goes_on : same ≡ true → AreEqual (k + 1)
    goes_on equal = λ xs ys held others_held.
        let next = next_pair eq xs ys k (sym (stretch_at cs from n k xs held low) ∙ at) (sym (stretch_at ds other n k ys others_held low) ∙ other_at) answered in
        let one = rw equal at next in omega (arith, so_far xs ys held others_held, one)

    pub ends : same ≡ false → (xs ys : List X) → HoldsStretch cs from n xs → HoldsStretch ds other n ys → k ≡ common_prefix_len eq xs ys
    ends differ = λ xs ys held others_held.
        let next = next_pair eq xs ys k (sym (stretch_at cs from n k xs held low) ∙ at) (sym (stretch_at ds other n k ys others_held low) ∙ other_at) answered in
        let none = rw differ at next in omega (arith, so_far xs ys held others_held, none)

-- beginnings of equal length are compared apart from what follows them
pub pointwise-append : {A : Type 0} (eq : A → A → Bool) (xs ys vs ws : List A) → length xs ≡ length ys
    → pointwise eq (xs ++ vs) (ys ++ ws) ≡ (pointwise eq xs ys && pointwise eq vs ws)
pointwise-append eq [] [] vs ws same = refl
pointwise-append eq [] (y ∷ ys) vs ws same = cc
pointwise-append eq (x ∷ xs) [] vs ws same = cc
pointwise-append eq (x ∷ xs) (y ∷ ys) vs ws same = rw (pointwise-append eq xs ys vs ws (omega arith), and_assoc) refl

-- a list that is cut in two is compared part by part
pub pointwise-cut : {A : Type 0} (eq : A → A → Bool) (xs vs ys front back : List A) (n : ℕ) → front ≡ take n ys → back ≡ drop n ys → length xs ≡ length front
    → pointwise eq (xs ++ vs) ys ≡ (pointwise eq xs front && pointwise eq vs back)
pointwise-cut eq xs vs ys front back n first second long = let parts = pointwise-append eq xs front vs back long in let whole = take-append-drop n ys in cc

module _ {X : Type 0} (eq : X → X → Bool) where
  -- where one of the lists has ended, no pair is left
  pub prefix_past : (n : ℕ) (xs ys : List X) → min (length xs) (length ys) ≤ n → common_prefix_len eq (drop n xs) (drop n ys) ≡ 0
  prefix_past n xs ys past = omega (arith, common_prefix_len-le eq (drop n xs) (drop n ys), length-drop n xs, length-drop n ys, past)

  -- Lists are compared by their first parts, and where all pairs of these are equal, by what follows.
  prefix_parts : (n : ℕ) (xs ys : List X) → n ≤ length xs → n ≤ length ys → let most = common_prefix_len eq (take n xs) (take n ys) in
      (most < n → common_prefix_len eq xs ys ≡ most) × (n ≤ most → common_prefix_len eq xs ys ≡ n + common_prefix_len eq (drop n xs) (drop n ys))
  prefix_parts zero xs ys low other_low = (λ short. absurd (omega (arith, short)), λ long. omega arith)
  prefix_parts (suc n) [] ys low other_low = absurd (omega (arith, low))
  prefix_parts (suc n) (x ∷ xs) [] low other_low = absurd (omega (arith, other_low))
  prefix_parts (suc n) (x ∷ xs) (y ∷ ys) low other_low =
      let rest = prefix_parts n xs ys (omega (arith, low)) (omega (arith, other_low)) in (λ short. grind (arith, rest, short), λ long. grind (arith, rest, long))

  -- The n pairs after the first k, which are equal, are compared: what follows these counts where all of them are equal.
  abbrev pub GoesOn : (xs ys : List X) (k n more : ℕ) → Type 0
  GoesOn xs ys k n more = (more < n → common_prefix_len eq xs ys ≡ k + more)
      × (n ≤ more → common_prefix_len eq xs ys ≡ k + n + common_prefix_len eq (drop (k + n) xs) (drop (k + n) ys))

  pub prefix_on : (xs ys : List X) (k n more : ℕ) → k + n ≤ length xs → k + n ≤ length ys → common_prefix_len eq xs ys ≡ k + common_prefix_len eq (drop k xs) (drop k ys)
      → more ≡ common_prefix_len eq (take n (drop k xs)) (take n (drop k ys)) → GoesOn xs ys k n more
  prefix_on xs ys k n more low other_low so_far compared =
      let parts = rw (drop-drop n k xs, drop-drop n k ys, sym compared) at (prefix_parts n (drop k xs) (drop k ys) (grind (arith, length-drop)) (grind (arith, length-drop))) in
      (λ short. omega (arith, so_far, parts.0 short), λ long. omega (arith, so_far, parts.1 long))

  -- lists of one length are equal where all their pairs are
  pub pointwise_prefix : (xs ys : List X) → length xs ≡ length ys → pointwise eq xs ys ≡ nat_eq (common_prefix_len eq xs ys) (length xs)
  pointwise_prefix [] [] same = refl
  pointwise_prefix [] (y ∷ ys) same = absurd (omega (arith, same))
  pointwise_prefix (x ∷ xs) [] same = absurd (omega (arith, same))
  pointwise_prefix (x ∷ xs) (y ∷ ys) same = grind (arith, nat_tests, pointwise_prefix xs ys (omega (arith, same)))

-- where the next n pairs are equal, those after them decide
pub pointwise-past : {A : Type 0} (eq : A → A → Bool) (xs ys : List A) (k n : ℕ) → length xs ≡ length ys
    → pointwise eq (take n (drop k xs)) (take n (drop k ys)) ≡ true → pointwise eq (drop (k + n) xs) (drop (k + n) ys) ≡ pointwise eq (drop k xs) (drop k ys)
pointwise-past eq xs ys k n long equal =
    let vs = drop k xs in let ws = drop k ys in
    let parts = pointwise-append eq (take n vs) (take n ws) (drop n vs) (drop n ws) (grind (arith, common_steps)) in
    sym (rw (take-append-drop n vs, take-append-drop n ws, equal, drop-drop n k xs, drop-drop n k ys) at parts)

-- where none of the next n items passes, those after them decide
pub list_any-past : {A : Type 0} (p : A → Bool) (xs : List A) (k n : ℕ) → list_any p (take n (drop k xs)) ≡ false → list_any p (drop (k + n) xs) ≡ list_any p (drop k xs)
list_any-past p xs k n none =
    sym (rw (take-append-drop n (drop k xs), none, drop-drop n k xs) at (list_any-append p (take n (drop k xs)) (drop n (drop k xs))))
