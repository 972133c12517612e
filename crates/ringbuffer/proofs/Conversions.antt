-- What rings hold that were made of other collections.
use Rattle.ringbuffer.proofs.Words.{MatchResult, ℕ, suc, ◌-◌, ◌≤◌, All, Bor, IfOk, IsOk, IsSome, IsUtf8, Result, Ok, Err, is_ok, true, chars, List, [], ◌∷◌, length, map, Option, None, Drains, AllZip, YieldsList, YieldsList-turn, YieldsThen, shown_drained, ClonesMeet, somes, map-id, All-head, All-tail}
-- the names that the answers of conversions write, too
pub use Rattle.ringbuffer.proofs.Words.{YieldsList-from_chars, YieldsList-from_rest, YieldsList-from_slice, YieldsList-from_vec, YieldsList-unpacked, chars_rest, held_on_ok, IfOk-weaker, View, keep_last, Some, ◌≡◌, ◌++◌, ◌∙◌, ap, refl, sym, arith, rules}
use Rattle.std.proofs.lemmas.Str.{encodes-chars, length-le-encodes}

-- the items of a source that was taken to its end are the list that it yields
pub items_drained : {S A : Type 0} {steps : S → Option A → S → Type 0} {s : S} (xs all : List A) → Drains steps s xs → YieldsList steps (λ x. x) s all → xs ≡ all
items_drained xs all drained yields = sym (map-id xs) ∙ shown_drained (λ x. x) xs all drained yields

-- a ring with room for all items that were pushed onto it when it was empty holds them
pub all_kept : {A : Type 0} {old new xs : List A} (limit : ℕ) → old ≡ [] → new ≡ keep_last (Some limit) (old ++ xs) → length xs ≤ limit → new ≡ xs
all_kept {xs = xs} limit empty kept fit = let none_over : length xs - limit ≡ 0 = omega arith in kept ∙ rw (empty, none_over) refl

module _ {S A : Type 0} {steps : S → Option A → S → Type 0} {gives : S → Type 0} {all : List A} where
  -- a ring with a limit that was made of a source holds the last of the list that it yields
  pub last_made : {items : List A} (capacity : ℕ) → (it : S) × (xs : List A) × gives it × Drains steps it xs × (items ≡ keep_last (Some capacity) xs)
      → ((it : S) → gives it → YieldsList steps (λ x. x) it all) → items ≡ keep_last (Some capacity) all
  last_made capacity (it, xs, from, drained, is) yields = is ∙ ap (keep_last (Some capacity)) (items_drained xs all drained (yields it from))

  -- a heap ring with room for the whole list holds it
  pub all_made : {E : Type 0} (made : Result (View A) E) (capacity : ℕ) {room : ℕ}
      → IfOk made (λ ring. (it : S) × (xs : List A) × gives it × Drains steps it xs × (ring.items ≡ keep_last (Some capacity) xs) × (ring.capacity ≡ capacity))
      → capacity ≡ room → length all ≤ room → ((it : S) → gives it → YieldsList steps (λ x. x) it all) → IfOk made (λ ring. (ring.items ≡ all) × (ring.capacity ≡ room))
  all_made made capacity holds is fit yields = IfOk-weaker made _ _ (λ ring how.
      let (it, xs, from, drained, kept, same) = how in (all_kept capacity refl (last_made capacity (it, xs, from, drained, kept) yields) (rw is fit), same ∙ is)) holds

  -- a growable ring is the list
  pub list_made : {E : Type 0} (made : Result (List A) E) → IfOk made (λ ring. (it : S) × gives it × Drains steps it ring)
      → ((it : S) → gives it → YieldsList steps (λ x. x) it all) → IfOk made (λ ring. ring ≡ all)
  list_made made holds yields = IfOk-weaker made _ _ (λ ring how. let (it, from, drained) = how in items_drained ring all drained (yields it from)) holds

-- clones of what a source yielded are clones of the list that it shows
pub ClonesMeet-drained : {S A : Type 0} {steps : S → Option (Bor A) → S → Type 0} {s : S} {R : A → A → Type 0} {P : List A → Type 0} {all : List A}
    → (xs : List (Bor A)) × (ys : List A) × Drains steps s xs × AllZip R (map (λ x. x.now) xs) ys × P ys → YieldsList steps (λ x. x.now) s all → ClonesMeet R all P
ClonesMeet-drained {all = all} (xs, ys, drained, clones, kept) yields = (ys, rw (shown_drained (λ x. x.now) xs all drained yields) at clones, kept)

-- a source that shows no item has none to be refused
pub refuses_none : {S A B : Type 0} {steps : S → Option A → S → Type 0} {v : A → B} {s : S} {P : A → Type 0} {all : List B}
    → (xs : List A) × (x : A) × (after : S) × YieldsThen steps s xs (Some x) after × P x → YieldsList steps v s all → all ≡ [] → ⊥
refuses_none (xs, x, after, (t, given, more), is) yields none =
    let before = (YieldsList-turn yields xs t given (Some x) after x refl more).0 in omega (arith, ap length none)

-- a text has no more characters than bytes
pub length-chars_le : (bs : List ℕ) → IsUtf8 bs → length (chars bs) ≤ length bs
length-chars_le bs text = omega (arith, length-le-encodes (chars bs), ap length (encodes-chars bs text))

-- as many items as places, where every place holds one
pub length-somes : {A : Type 0} (options : List (Option A)) → All IsSome options → length (somes options) ≡ length options
length-somes [] all = refl
length-somes {A = A} (None ∷ os) all = let none : IsSome {T = A} None = All-head IsSome None os all in cc
length-somes (Some x ∷ os) all = ap suc (length-somes os (All-tail IsSome (Some x) os all))

-- a call that returns Ok with P, and always where Q is, returns Err only where Q isn't
pub ok_or_not : {A E Q : Type 0} (P : A → Type 0) (r : Result A E) → IfOk r P → (Q → IsOk r) → MatchResult r P (λ _. ¬ Q)
ok_or_not P (Ok a) holds succeeds = holds
ok_or_not {A} {E} P (Err e) holds succeeds = λ q. let no : is_ok {T = A} {E = E} (Err e) ≡ true = succeeds q in cc
