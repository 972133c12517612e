-- What stands while the items of a ring are asked about in turn.
use Rattle.ring_core.proofs.Words.{◌≡◌, ℕ, ◌+◌, ◌<◌, ◌≤◌, Bool, true, List, [], ◌∷◌, ◌++◌, length, drop, slice_get, Option, Some, IsSome, refl, sym, ap, ◌∙◌, append-nil, append_assoc, arith, drop_all, length-append, IsWithin, keep_last}
use Rattle.std.specs.List.{items_where_true}
use Rattle.std.specs.List.Retain.{IsFiltered, ReturnsInTurn}
use Rattle.ring_core.proofs.Limits.{keep_last_within}
use Rattle.ring_core.specs.Filtering.{FiltersPart}

module _ {A : Type 0} where
  -- an item more is picked if the answer is `true`
  pick-push : (bs : List Bool) (xs : List A) (b : Bool) (x : A) → length bs ≡ length xs
      → items_where_true (bs ++ b ∷ []) (xs ++ x ∷ []) ≡ items_where_true bs xs ++ items_where_true (b ∷ []) (x ∷ [])
  pick-push [] [] b x same = refl
  pick-push [] (y ∷ xs) b x same = absurd (omega arith)
  pick-push (c ∷ bs) [] b x same = absurd (omega arith)
  pick-push (c ∷ bs) (y ∷ xs) b x same = grind (arith, pick-push bs xs b x (omega arith))

  -- no more are picked than there are
  pick-few : (bs : List Bool) (xs : List A) → length (items_where_true bs xs) ≤ length xs
  pick-few [] xs = omega arith
  pick-few (b ∷ bs) [] = omega arith
  pick-few (b ∷ bs) (x ∷ xs) = grind (arith, pick-few bs xs)

  -- a list that has items begins with the first of them
  next_in : (rest picked : List A) → 0 < length rest → (x : A) × (slice_get (rest ++ picked) 0 ≡ Some x) × (rest ≡ x ∷ drop 1 rest)
  next_in [] picked some = absurd (omega arith)
  next_in (x ∷ rest) picked some = (x, refl, refl)

module _ {A P : Type 0} (R : P → A → Bool → P → Type 0) where
  -- one more answer
  returns-push : (p q u : P) (bs : List Bool) (xs : List A) (b : Bool) (x : A) → length bs ≡ length xs → ReturnsInTurn R p bs xs q → R q x b u
      → ReturnsInTurn R p (bs ++ b ∷ []) (xs ++ x ∷ []) u
  returns-push p q u [] [] b x same told more = rw told (u, more, refl)
  returns-push p q u [] (y ∷ xs) b x same told more = absurd (omega arith)
  returns-push p q u (c ∷ bs) [] b x same told more = absurd told
  returns-push p q u (c ∷ bs) (y ∷ xs) b x same told more = (told.0, told.1, returns-push told.0 q u bs xs b x (omega arith) told.2 more)

  -- the first of the items `old` were asked about in turn, by a test that was p and is q
  pub record Asks (p : P) (old : List A) (q : P) (turns : ℕ) : Type 0 where
    pub asked : List A
    pub rest : List A
    pub answers : List Bool
    pub parts : old ≡ asked ++ rest
    pub counted : length asked ≡ turns
    pub answered : length answers ≡ length asked
    pub told : ReturnsInTurn R p answers asked q

  abbrev pub asks_none : (p : P) (old : List A) → Asks p old p 0
  asks_none p old = record { asked = []; rest = old; answers = []; parts = refl; counted = refl; answered = refl; told = refl }

  -- the items picked so far
  abbrev pub picked : {p q : P} {old : List A} {turns : ℕ} → Asks p old q turns → List A
  picked at = items_where_true at.answers at.asked

  module _ {p q : P} {old : List A} {turns : ℕ} (at : Asks p old q turns) where
    pub picked_few : length (picked at) ≤ turns
    picked_few = let few = pick-few at.answers at.asked in omega (arith, few, at.counted)

    pub some_left : turns < length old → 0 < length at.rest
    some_left more = omega (arith, at.counted, ap length at.parts, length-append at.asked at.rest)

    pub none_left : length old ≤ turns → at.rest ≡ []
    none_left all = drop_all 0 at.rest (omega (arith, at.counted, ap length at.parts, length-append at.asked at.rest))

    -- all were asked about
    pub asks_all : length old ≤ turns → IsFiltered R p old (picked at)
    asks_all all =
        let old_is : old ≡ at.asked = at.parts ∙ ap (λ l. at.asked ++ l) (none_left all) ∙ append-nil at.asked in
        rw old_is (at.answers, q, at.answered, at.told, refl)

    -- x is asked about next
    module _ (x : A) (next : at.rest ≡ x ∷ drop 1 at.rest) where
      pub parts_next : old ≡ at.asked ++ x ∷ drop 1 at.rest
      parts_next = at.parts ∙ ap (λ l. at.asked ++ l) next

      pub asks_more : (b : Bool) (u : P) → R q x b u → Asks p old u (turns + 1)
      asks_more b u answer = record {
        asked = at.asked ++ x ∷ [];
        rest = drop 1 at.rest;
        answers = at.answers ++ b ∷ [];
        parts = parts_next ∙ sym (append_assoc at.asked (x ∷ []) (drop 1 at.rest));
        counted = omega (arith, at.counted, length-append at.asked (x ∷ []));
        answered = omega (arith, at.answered, length-append at.asked (x ∷ []), length-append at.answers (b ∷ []));
        told = returns-push p q u at.answers at.asked b x at.answered at.told answer;
      }

      pub rest_more : (b : Bool) (u : P) (answer : R q x b u) → (asks_more b u answer).rest ≡ drop 1 at.rest
      unfolding asks_more
      rest_more b u answer = refl

      pub picked_more : (b : Bool) (u : P) (answer : R q x b u) → picked (asks_more b u answer) ≡ picked at ++ items_where_true (b ∷ []) (x ∷ [])
      unfolding asks_more
      picked_more b u answer = pick-push at.answers at.asked b x at.answered

  -- those picked lie after the others
  pub record Picks (p : P) (old now : List A) (q : P) (turns : ℕ) : Type 0 where
    pub asks : Asks p old q turns
    pub left : now ≡ asks.rest ++ picked asks

  pub nothing_asked : (p : P) (old : List A) → Picks p old old p 0
  nothing_asked p old = record { asks = asks_none p old; left = sym (append-nil old) }

  module _ {p q : P} {old now : List A} {turns : ℕ} (at : Picks p old now q turns) where
    -- while not all were asked about, there is a first item
    pub first_is_some : turns < length old → IsSome (slice_get now 0)
    first_is_some more = rw (at.left, (next_in at.asks.rest _ (some_left at.asks more)).1) refl

    -- all were asked about
    pub all_asked : length old ≤ turns → IsFiltered R p old now
    all_asked all = rw (at.left, none_left at.asks all) (asks_all at.asks all)

    -- x is the next item, which is taken out and asked about
    module _ (more : turns < length old) (x : A) (first : slice_get now 0 ≡ Some x) where
      abbrev others : List A
      others = drop 1 at.asks.rest

      next : at.asks.rest ≡ x ∷ others
      next = grind (arith, at.left, next_in at.asks.rest (picked at.asks) (some_left at.asks more))

      taken : drop 1 now ≡ others ++ picked at.asks
      taken = ap (drop 1) at.left ∙ ap (λ l. drop 1 (l ++ picked at.asks)) next

      -- the next turn, whatever the answer was
      pub turn : (b : Bool) (u : P) → R q x b u → Picks p old (drop 1 now ++ items_where_true (b ∷ []) (x ∷ [])) u (turns + 1)
      turn b u answer = record {
        asks = asks_more at.asks x next b u answer;
        left = rw (taken, append_assoc, rest_more at.asks x next b u answer, picked_more at.asks x next b u answer) refl;
      }

      pub refused : (u : P) → R q x true u → FiltersPart R p old (drop 1 now) x
      unfolding asks_more
      refused u answer =
          let then = asks_more at.asks x next true u answer in
          let is = picked_more at.asks x next true u answer in
          (at.asks.asked, picked at.asks, others, parts_next at.asks x next, (then.answers, u, then.answered, then.told, sym is), taken)

      -- a limit leaves the item that is put back
      pub put_back : (limit : Option ℕ) → IsWithin old limit → keep_last limit (drop 1 now ++ x ∷ []) ≡ drop 1 now ++ x ∷ []
      put_back limit within =
          let few : length (drop 1 now ++ x ∷ []) ≤ length old =
          omega (arith, ap length taken, length-append others (picked at.asks), length-append (drop 1 now) (x ∷ []), ap length (parts_next at.asks x next), length-append at.asks.asked (x ∷ others), pick-few at.asks.answers at.asks.asked) in
          keep_last_within limit _ (grind arith)
