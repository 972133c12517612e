-- What stands while a closure is called on each item in turn: for a map what it returned, for a test that the items passed.
use Rattle.ring_core.proofs.Words.{◌≡◌, ℕ, zero, suc, ◌+◌, ◌<◌, ◌≤◌, Bool, true, false, List, [], ◌∷◌, ◌++◌, length, take, drop, map, set, slice_get, Option, Some, refl, sym, ap, subst, ◌∙◌, arith, add-one, Bor, FoldsTo, append-nil, append_assoc, drop-cons, drop_all, get_or_from_slice_get, length-append, length-drop, length-map, map-append, option_copied, option_to_list, set_at, take_all, slice_get_cases, cases_Bool, inl, inr}
use Rattle.std.proofs.lemmas.Grind.{common_steps}
use Rattle.std.specs.List.{prefix_len}
use Rattle.std.specs.Prelude.{IfSome}
use Rattle.std.proofs.lemmas.Fn.{FoldsTo-push}
use Rattle.ring_core.specs.Filtering.{PassesFirst}
use Rattle.ring_core.specs.Mapping.{ByMap, MapsEach}
use Rattle.ring_core.proofs.Items.{take-suc_get}

module _ {A B P : Type 0} (R : P → A → B → P → Type 0) where
  -- By induction: calls that leave the closure as it was return what the function says.
  mapped : (f : A → B) (p : P) → ((x : A) (y : B) (q : P) → R p x y q → (q ≡ p) × (y ≡ f x)) → (calls : List (A × B)) (q : P)
      → FoldsTo (λ g c h. R g c.0 c.1 h) p calls q → map (λ c. c.1) calls ≡ map f (map (λ c. c.0) calls)
  mapped f p same [] q told = refl
  mapped f p same (c ∷ calls) q (j, first, rest) =
      let is = same c.0 c.1 j first in
      let others = mapped f p same calls q (subst (λ k. FoldsTo (λ g d h. R g d.0 d.1 h) k calls q) is.0 rest) in
      ap (λ y. y ∷ map (λ d. d.1) calls) is.1 ∙ ap (λ ys. f c.0 ∷ ys) others

  -- calls that leave a closure as it was map the items
  pub map_same : (p : P) (xs : List A) (ys : List B) → MapsEach R p xs ys → ByMap R p (λ f. ys ≡ map f xs)
  map_same p xs ys (calls, last, told, asked, made) = λ f same. sym made ∙ mapped f p same calls last told ∙ ap (map f) asked

-- the oldest of the items that are left
pub first_left : {A : Type 0} (xs now : List A) (n : ℕ) (o : Option (Bor A)) (x : Bor A) → now ≡ drop n xs → option_copied o ≡ slice_get now 0 → o ≡ Some x
    → slice_get xs n ≡ Some x.now
first_left xs now n o x left front is = grind (arith, common_steps, slice_get_cases)

module _ {A P : Type 0} (R : P → A → A → P → Type 0) where
  -- the first items were replaced by what calls on them returned, and the others stayed
  pub record Maps (p : P) (old now : List A) (q : P) (turns : ℕ) : Type 0 where
    pub calls : List (A × A)
    pub counted : length calls ≡ turns
    pub told : FoldsTo (λ g c h. R g c.0 c.1 h) p calls q
    pub asked : map (λ c. c.0) calls ≡ take turns old
    pub left : now ≡ map (λ c. c.1) calls ++ drop turns old

  pub nothing_mapped : (p : P) (old : List A) → Maps p old old p 0
  nothing_mapped p old = record { calls = []; counted = refl; told = refl; asked = refl; left = refl }

  module _ {p q : P} {old now : List A} {turns : ℕ} (at : Maps p old now q turns) where
    abbrev done : List A
    done = map (λ c. c.1) at.calls

    long : length done ≡ turns
    long = length-map at.calls (λ c. c.1) ∙ at.counted

    pub length-mapped : turns ≤ length old → length now ≡ length old
    length-mapped some = omega (arith, long, ap length at.left, length-append done (drop turns old), length-drop turns old)

    -- the last turn was taken
    pub all_mapped : length old ≤ turns → MapsEach R p old now
    all_mapped all = (at.calls, q, at.told, at.asked ∙ take_all turns old all, sym (at.left ∙ ap (λ l. done ++ l) (drop_all turns old all) ∙ append-nil done))

    -- x is the next item, which a call replaces
    module _ (more : turns < length old) (x : A) (read : slice_get now turns ≡ Some x) where
      abbrev others : List A
      others = drop (suc turns) old

      -- it is as it was
      is : slice_get old turns ≡ Some x
      is = grind (arith, common_steps, slice_get_cases, at.left, long)

      next : drop turns old ≡ x ∷ others
      next = drop-cons old turns x more ∙ ap (λ y. y ∷ others) (get_or_from_slice_get old turns x x is)

      taken : take (suc turns) old ≡ take turns old ++ x ∷ []
      taken = take-suc_get old turns ∙ ap (λ o. take turns old ++ option_to_list o) is

      pub turn : (y : A) (u : P) → R q x y u → Maps p old (set now turns y) u (turns + 1)
      turn y u answer = record {
        calls = at.calls ++ (x, y) ∷ [];
        counted = omega (arith, at.counted, length-append at.calls ((x, y) ∷ []));
        told = FoldsTo-push _ p at.calls q (x, y) u at.told answer;
        asked = map-append (λ c. c.0) at.calls ((x, y) ∷ []) ∙ ap (λ l. l ++ x ∷ []) at.asked ∙ sym (rw add-one (taken));
        left = ap (λ l. set l turns y) (at.left ∙ ap (λ l. done ++ l) next) ∙ set_at done x others y turns long
            ∙ rw (map-append (λ c. c.1) at.calls ((x, y) ∷ []), append_assoc) (rw add-one refl);
      }

-- the first item after those that pass a test fails it
pub first_fails : {A : Type 0} (test : A → Bool) (xs : List A) → IfSome (slice_get (drop (prefix_len test xs) xs) 0) (λ x. test x ≡ false)
first_fails test [] = tt
first_fails test (x ∷ xs) = elim (cases_Bool (test x)) [
  | inl passes ↦ (let next : 1 + prefix_len test xs ≡ suc (prefix_len test xs) = omega arith in rw (passes, next) (first_fails test xs))
  | inr fails ↦ rw fails fails
]

module _ {A P : Type 0} (R : P → A → Bool → P → Type 0) where
  -- By induction: a test that calls leave as it was passes so many items as come before the first that fails it.
  pub prefix_len-passes : (test : A → Bool) (p : P) → ((x : A) (b : Bool) (q : P) → R p x b q → (q ≡ p) × (b ≡ test x)) → (n : ℕ) (xs : List A)
      → n ≤ length xs → PassesFirst R p n xs → n ≡ prefix_len test xs
  prefix_len-passes test p same zero [] fits told = refl
  prefix_len-passes test p same zero (x ∷ xs) fits (q, none, stops) =
      let fails : false ≡ test x = (same x false stops.0 (subst (λ k. R k x false stops.0) (sym none) stops.1)).1 in
      rw (sym fails) refl
  prefix_len-passes test p same (suc n) [] fits told = absurd (omega arith)
  prefix_len-passes test p same (suc n) (x ∷ xs) fits (q, (j, first, rest), stops) =
      let is = same x true j first in
      let others = prefix_len-passes test p same n xs (omega arith) (q, subst (λ k. FoldsTo (λ f y g. R f y true g) k (take n xs) q) is.0 rest, stops) in
      rw (sym is.1) (omega (arith, others))
