-- The numbers held after each step are a range: those from some number on, up to the last that was pushed.
use Rattle.ring_core.proofs.Words.{◌≡◌, ℕ, zero, suc, ◌+◌, ◌-◌, ◌<◌, ◌≤◌, min, max, Bool, ◌&&◌, nat_lt, nat_le, List, [], ◌∷◌, ◌++◌, length, take, drop, filter, slice_get, Option, Some, None, IfSome, IsTrue, ◌↔◌, refl, inl, inr, ap, ◌∙◌, add-one, zero-add, append-nil, arith, length-append, range_with_len, option_to_list, filter-append, map-id, IfSome_then, cases_Bool, cases_lt, nat_tests, IsWithin, IsLeft, IsPush, KeepsToNumbers, Step, pushes, takes, clears, held, held_numbers, held_next, head, least, number, overwrites, pushed, removed, removes, some_below}
use Rattle.std.proofs.lemmas.Grind.{common_steps}
use Rattle.std.proofs.lemmas.List.FromFn.{length-range_with_len, map-range_with_len_more}
use Rattle.ring_core.proofs.Items.{take-suc_get}

-- the numbers from f on, below n
abbrev pub between : ℕ → ℕ → ℕ → Bool
between f n i = nat_le f i && nat_lt i n

-- where the range begins after one more step
abbrev pub first_next : {T : Type 0} → Option ℕ → ℕ → ℕ → Option (Step T) → ℕ
first_next limit n f None = f
first_next None n f (Some (pushes x)) = f
first_next (Some capacity) n f (Some (pushes x)) = max f (n + 1 - capacity)
first_next limit n f (Some takes) = min (f + 1) n
first_next limit n f (Some clears) = n

-- what a range says
between-true : (f n i : ℕ) → IsTrue (between f n i) ↔ ((f ≤ i) × (i < n))
between-true f n i = grind (arith, nat_tests)

-- ---- a set that is a range

-- one number more
range-suc : (a m : ℕ) → range_with_len a (suc m) ≡ range_with_len a m ++ (a + m) ∷ []
range-suc a m = rw add-one at (simp map-id at (map-range_with_len_more (λ i. i) a m (a + m) refl))

-- By induction on m: of the numbers below m, the range's are those from f on, up to n.
filter-between : (set : ℕ → Bool) (f n m : ℕ) → ((i : ℕ) → set i ≡ between f n i) → filter set (range_with_len 0 m) ≡ range_with_len f (min m n - f)
filter-between set f n zero is = let none : min 0 n - f ≡ 0 = omega arith in rw none refl
filter-between set f n (suc m) is = ap (filter set) (range-suc 0 m) ∙ rw (filter-append, filter-between set f n m is, zero-add, is m) (elim (cases_Bool (between f n m)) [
  | inl inside ↦
      let one : min (suc m) n - f ≡ suc (min m n - f) = grind (arith, nat_tests) in
      let next : f + (min m n - f) ≡ m = grind (arith, nat_tests) in
      rw (inside, one, range-suc f (min m n - f), next) refl
  | inr outside ↦
      let none : min (suc m) n - f ≡ min m n - f = grind (arith, nat_tests) in
      rw (outside, none, append-nil) refl
])

module _ (set : ℕ → Bool) (f n : ℕ) (is : (i : ℕ) → set i ≡ between f n i) where
  -- By induction on i.
  some_below-between : (i : ℕ) → some_below set i ≡ (nat_lt f i && nat_lt f n)
  some_below-between zero = grind (arith, nat_tests)
  some_below-between (suc i) = rw (some_below-between i, is i) (grind (arith, nat_tests))

  -- By induction on m.
  least-between : (m : ℕ) → m ≤ n → least set m ≡ min f m
  least-between zero below = omega arith
  least-between (suc m) below = rw (some_below-between m, is m, least-between m (omega arith)) (grind (arith, nat_tests))

-- the item that a step pushes, if it does
abbrev pub pushed_by : {T : Type 0} → Option (Step T) → List T
pushed_by step = pushed (option_to_list step)

-- a range is no wider than the limit
abbrev pub IsRoom : Option ℕ → ℕ → ℕ → Type 0
IsRoom limit f n = IfSome limit (λ capacity. (0 < capacity) × (n ≤ f + capacity))

-- the set is the range from f to n
pub record IsRange (limit : Option ℕ) (set : ℕ → Bool) (f n : ℕ) : Type 0 where
  pub order : f ≤ n
  pub room : IsRoom limit f n
  pub is : (i : ℕ) → set i ≡ between f n i

-- One more step makes a range of a range.
IsRange-next : {T : Type 0} (limit : Option ℕ) (set : ℕ → Bool) (f n : ℕ) (step : Option (Step T)) → IsRange limit set f n
    → IsRange limit (held_next limit n set step) (first_next limit n f step) (n + length (pushed_by step))
IsRange-next limit set f n step w = record {
  order = grind arith;
  room = grind arith;
  is = λ i. grind (arith, nat_tests, w.is i, some_below-between set f n w.is i);
}

-- A push moves the range past the number that it overwrites, if the range still holds it, and past no other.
moves-overwrites : {T : Type 0} (limit : Option ℕ) (f n i : ℕ) (x : T) → IsRoom limit f n → f ≤ i → (i < first_next limit n f (Some (pushes x))) ↔ IsTrue (overwrites limit n i)
moves-overwrites limit f n i x room low = grind (arith, nat_tests)

-- One number is overwritten by one push.
overwrites-once : (limit : Option ℕ) (m n i : ℕ) → IsTrue (overwrites limit m i) → IsTrue (overwrites limit n i) → m ≡ n
overwrites-once limit m n i one other = grind (arith, nat_tests)

-- A range is no wider than the limit where what it holds is within the limit.
pub IsWithin-drop : {T : Type 0} (limit : Option ℕ) (f : ℕ) (xs : List T) → IsWithin (drop f xs) limit ↔ IsRoom limit f (length xs)
IsWithin-drop limit f xs = grind (arith, common_steps)

-- By induction on the later place.
rises : (f : ℕ → ℕ) → ((k : ℕ) → f k ≤ f (suc k)) → (j k : ℕ) → j ≤ k → f j ≤ f k
rises f next j zero below = let same : j ≡ 0 = omega arith in rw same (omega arith)
rises f next j (suc k) below = grind (arith, cases_lt k j, rises f next j k, next k)

-- ---- along a run

-- By induction on the first steps.
pub pushed-append : {T : Type 0} (xs ys : List (Step T)) → pushed (xs ++ ys) ≡ pushed xs ++ pushed ys
pushed-append [] ys = refl
pushed-append (s ∷ xs) ys = grind (arith, pushed-append xs ys)

-- One more step pushes what it pushes.
pub pushed-take_more : {T : Type 0} (ss : List (Step T)) (k : ℕ) → pushed (take (suc k) ss) ≡ pushed (take k ss) ++ pushed_by (slice_get ss k)
pushed-take_more ss k = rw take-suc_get (pushed-append (take k ss) (option_to_list (slice_get ss k)))

-- where the range begins after k steps
abbrev pub first : {T : Type 0} → Option ℕ → List T → List (Step T) → ℕ → ℕ
first limit start ss zero = 0
first limit start ss (suc k) = first_next limit (number start ss k) (first limit start ss k) (slice_get ss k)

module _ {T : Type 0} (limit : Option ℕ) (start : List T) (ss : List (Step T)) (within : IsWithin start limit) where
  -- A step adds the items that it pushes.
  number-suc : (k : ℕ) → number start ss (suc k) ≡ number start ss k + length (pushed_by (slice_get ss k))
  number-suc k = rw (pushed-take_more ss k) (omega (arith, length-append (pushed (take k ss)) (pushed_by (slice_get ss k))))

  -- By induction on the number of steps.
  pub IsRange-held : (k : ℕ) → IsRange limit (held limit start ss k) (first limit start ss k) (number start ss k)
  IsRange-held zero = record { order = omega arith; room = grind arith; is = λ i. grind (arith, nat_tests) }
  IsRange-held (suc k) = rw (number-suc k) (IsRange-next limit _ _ _ (slice_get ss k) (IsRange-held k))

  -- The least of a range's numbers is its first.
  pub head-first : (k : ℕ) → head limit start ss k ≡ first limit start ss k
  head-first k = let w = IsRange-held k in omega (arith, w.order, least-between (held limit start ss k) _ _ w.is (number start ss k) (omega arith))

  -- The held numbers, listed.
  pub held_numbers-between : (k : ℕ) → held_numbers limit start ss k ≡ range_with_len (first limit start ss k) (number start ss k - first limit start ss k)
  held_numbers-between k =
      let w = IsRange-held k in
      let all : min (number start ss k) (number start ss k) ≡ number start ss k = omega arith in
      rw all at (filter-between (held limit start ss k) (first limit start ss k) (number start ss k) (number start ss k) w.is)

  -- ---- what is removed

  -- One step moves the range's beginning on, at most to the number of the next push.
  first-suc : (k : ℕ) → (first limit start ss k ≤ first limit start ss (suc k)) × (first limit start ss (suc k) ≤ number start ss k)
  first-suc k = grind (arith, (IsRange-held k).order, (IsRange-held k).room)

  -- A step removes what it moves the range past.
  removes-between : (k i : ℕ) → removes limit start ss k i ≡ between (first limit start ss k) (first limit start ss (suc k)) i
  removes-between k i = grind (arith, nat_tests, first-suc k, number-suc k, (IsRange-held k).is i, (IsRange-held (suc k)).is i)

  -- The same, as an order.
  removes-moves : (k i : ℕ) → IsTrue (removes limit start ss k i) ↔ ((first limit start ss k ≤ i) × (i < first limit start ss (suc k)))
  removes-moves k i = rw (removes-between k i) (between-true (first limit start ss k) (first limit start ss (suc k)) i)

  -- No later step removes what one removed, since the range has moved past it.
  removes_last : (j k i : ℕ) → IsTrue (removes limit start ss j i) → IsTrue (removes limit start ss k i) → k ≤ j
  removes_last j k i one other =
      grind (arith, removes-moves j i, removes-moves k i, rises (first limit start ss) (λ m. (first-suc m).0) (suc j) k)

  -- By induction on the number of steps: what some step removed is what the range has left behind.
  some_below-removes : (i k : ℕ) → some_below (λ j. removes limit start ss j i) k ≡ between 0 (first limit start ss k) i
  some_below-removes i zero = grind (arith, nat_tests)
  some_below-removes i (suc k) = rw (some_below-removes i k, removes-between k i) (grind (arith, nat_tests, first-suc k))

  -- The numbers that the run removed are those that its range has left behind.
  pub removed-first : removed limit start ss ≡ first limit start ss (length ss)
  removed-first =
      let w = IsRange-held (length ss) in
      rw (filter-between _ 0 (first limit start ss (length ss)) (number start ss (length ss)) (λ i. some_below-removes i (length ss)), length-range_with_len) (omega (arith, w.order))

  -- A push removes nothing but the number that it overwrites.
  overwrites-removes : (k i : ℕ) → IsPush ss k → IsTrue (removes limit start ss k i) → IsTrue (overwrites limit (number start ss k) i)
  overwrites-removes k i (x, is) e =
      let (low, high) = (removes-moves k i).0 e in
      (moves-overwrites limit _ _ i x (IsRange-held k).room low).0 (rw is at high)

  -- By induction on the number of steps: what no take and no clear removed is held until the push that overwrites it, whose
  -- number is n, since an earlier push has another number.
  held_until : (k n i : ℕ) → number start ss k ≤ n → IsTrue (overwrites limit n i) → IsLeft limit start ss k i → first limit start ss k ≤ i
  held_until zero n i earlier over left = omega arith
  held_until (suc k) n i earlier over left =
      let here = held_until k n i (omega (arith, number-suc k)) over (λ j below. left j (omega arith)) in
      let stays : IsTrue (removes limit start ss k i) → ⊥ = λ removed.
      let push = left k (omega arith) removed in
      let one = rw push.1 at (number-suc k) in
      absurd (omega (arith, overwrites-once limit (number start ss k) n i (overwrites-removes k i push removed) over)) in
      grind (arith, removes-moves k i)

  -- A range has no gap and is no wider than the limit. Of two steps that remove a number neither is the later one. Before a
  -- push nothing removed a number that the push removes; and what is left until then, it removes.
  pub KeepsToNumbers-held : KeepsToNumbers limit start ss
  KeepsToNumbers-held = record {
    no_gap = λ k i. rw (head-first k, (IsRange-held k).is i) (between-true (first limit start ss k) (number start ss k) i);
    within_limit = λ k. IfSome_then limit (IsRange-held k).room (λ c r. rw (held_numbers-between k, length-range_with_len) (omega (arith, r.1)));
    removes_once = λ j k i one other. omega (arith, removes_last j k i one other, removes_last k j i other one);
    pushes_overwrite = λ k i push. (
      λ e. (overwrites-removes k i push e, λ j earlier e'. absurd (omega (arith, removes_last j k i e' e))),
      λ (over, left).
          let here = held_until k (number start ss k) i (omega arith) over left in
          let past = (moves-overwrites limit _ (number start ss k) i push.0 (IsRange-held k).room here).1 over in
          (removes-moves k i).1 (here, rw push.1 past),
    );
  }
