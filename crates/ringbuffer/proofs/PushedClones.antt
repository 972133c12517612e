-- Clones of lists' items: what a ring of a fixed capacity shows after they were pushed, and what two lists have together.
use Rattle.ringbuffer.proofs.Words.{common_steps, ◌≡◌, ℕ, ◌+◌, ◌-◌, ◌<◌, ◌≤◌, List, ◌++◌, length, take, drop, Some, OnOk, MatchResult, Result, ap, arith, length-append, take-append-add, AllZip, AllZip-join, View, after_extend, keep_last, length_all_zip, equal_clones_fill, equal_clones_pushed, replicate, ChangesSlots, MatchResult-weaker, after_fill}
use Rattle.ringbuffer.specs.Clones.{ClonesOne}

module _ {X E : Type 0} (IsClone : X → X → Type 0) (limit : ℕ) (items : List X) (v w : View X) (P : Type 0) (r : Result (Unit {0}) E)
    (pushed : (over : ℕ) × (ys : List X) × (over ≤ length items - limit) × AllZip IsClone (take (length ys) (drop over items)) ys
    × MatchResult r (λ _. over + length ys ≡ length items) (λ _. P) × (w ≡ after_extend limit v ys)) where
  -- Clones that each equal their item are as good as the items.
  pub as_items : ((x y : X) → IsClone x y → y ≡ x) → OnOk r (w.items ≡ keep_last (Some limit) (v.items ++ items))
  as_items same =
      let (over, ys, within, clones, done, is) = pushed in let whole = MatchResult-weaker r done (λ _ all. all) (λ _ _. tt) in
      equal_clones_pushed IsClone (Some limit) items v.items w.items r (over, ys, within, clones, ap (λ (u : View X). u.items) is, whole) same

  -- Each clone changes its slot, and one more where an item gives way.
  pub few_changes : ChangesSlots v.changes v.items w.changes w.items (length items)
  few_changes =
      let (over, ys, within, clones, done, is) = pushed in let all_cloned = length_all_zip IsClone (take (length ys) (drop over items)) ys clones in
      rw is (grind (arith, common_steps, all_cloned), grind (arith, common_steps, all_cloned))

-- Clones of one item that each equal it fill a ring with that item.
pub filled_with_item : {X E : Type 0} (is_clone : X → X → Type 0) (is_infallible : X → Type 0) (x : X) (n : ℕ) (v w : View X) (r : Result (Unit {0}) E)
    → ClonesOne is_clone is_infallible x n r (λ xs. w ≡ after_fill v xs) → ((x y : X) → is_clone x y → y ≡ x) → OnOk r (w.items ≡ replicate n x)
filled_with_item is_clone is_infallible x n v w r (xs, clones, long, is) same =
    rw is (equal_clones_fill is_clone (Some n) x xs r clones (MatchResult-weaker r long (λ _ all. all) (λ _ _. tt)) same)

-- A beginning of two lists is one of the first and one of the second, which is empty unless the first is whole.
pub both_taken : {A : Type 0} (a b : ℕ) (xs ys : List A) → a ≤ length xs → (a < length xs → b ≡ 0) → take a xs ++ take b ys ≡ take (a + b) (xs ++ ys)
both_taken a b xs ys low last = grind (arith, common_steps, take-append-add xs ys b)

-- Clones of a beginning of a list, and of one of another where the first is whole, are those of a beginning of both.
pub joined : {X : Type 0} (is_clone : X → X → Type 0) (xs more ys zs : List X) → length ys ≤ length xs → (length ys < length xs → length zs ≡ 0)
    → AllZip is_clone (take (length ys) xs) ys → AllZip is_clone (take (length zs) more) zs → AllZip is_clone (take (length (ys ++ zs)) (xs ++ more)) (ys ++ zs)
joined is_clone xs more ys zs low last first second =
    rw (length-append ys zs, ← both_taken (length ys) (length zs) xs more low last) (AllZip-join is_clone (take (length ys) xs) (take (length zs) more) ys zs first second)
