-- What a run means by item numbers is what it means by lists: after k steps the contents are the items so far from the
-- first held number on.
use Rattle.ring_core.proofs.Words.{◌≡◌, ℕ, zero, suc, ◌+◌, ◌-◌, ◌*◌, ◌≤◌, ◌&&◌, max, nat_lt, if◌then◌else◌, List, [], ◌∷◌, ◌++◌, length, take, drop, map, slice_get, Option, Some, None, refl, sym, ap, ◌∙◌, add-one, add-zero, zero-add, append-nil, append_assoc, arith, length-append, length-drop, enumerate_from, filter_map, range_with_len, nat_tests, flat_map-append, slice_get_cases, drop-append_seam, drop-append-le, drop-drop, drop_all, drop_min, length-map, length_push, take-append-drop, take_all, take_at, Command, Push, Extend, Dequeue, Skip, Clear, ChangesSlots, IsWithin, keep_last, overwritten, after_all, after_one, puts, replies_to, reply_to, ChangesFewSlots, Step, pushes, takes, clears, all_items, contents_after, number, oldest, overwrites, overwritten_after, pushed, replies_of, reply_after, steps, steps_of}
use Rattle.std.proofs.lemmas.Grind.{common_steps}
use Rattle.ring_core.proofs.Limits.{keep_last-keep_last, keep_last_within}
use Rattle.ring_core.proofs.RunParts.{after_all-append}
use Rattle.ring_core.proofs.HeldRange.{IsRoom, IsWithin-drop, IsRange-held, first, first_next, head-first, held_numbers-between, pushed-append, pushed-take_more, pushed_by, removed-first, between}

-- The items from number f on, by induction on their count.
items-from : {A : Type 0} (xs : List A) (f m : ℕ) → length xs ≡ f + m → filter_map (slice_get xs) (range_with_len f m) ≡ drop f xs
items-from xs f zero count = sym (drop_all f xs (omega arith))
items-from xs f (suc m) count = grind (arith, common_steps, slice_get_cases, items-from xs (f + 1) m (omega arith))

-- ---- the items from the first held number on

-- what a step does to a list
abbrev after_step : {T : Type 0} → Option ℕ → List T → Step T → List T
after_step limit l (pushes x) = keep_last limit (l ++ x ∷ [])
after_step limit l takes = drop 1 l
after_step limit l clears = []

-- The range's next beginning leaves what the step does.
drop-next : {T : Type 0} (limit : Option ℕ) (f n : ℕ) (xs : List T) (s : Step T) → length xs ≡ n → f ≤ n → IsRoom limit f n
    → drop (first_next limit n f (Some s)) (xs ++ pushed_by (Some s)) ≡ after_step limit (drop f xs) s
drop-next None f n xs (pushes x) count order room = drop-append-le f xs (x ∷ []) (omega arith)
drop-next (Some c) f n xs (pushes x) count order room =
    let at : f + (length (drop f (xs ++ x ∷ [])) - c) ≡ max f (n + 1 - c) = rw (length-drop, length_push) (omega arith) in
    rw (← drop-append-le f xs (x ∷ []) (omega arith), drop-drop, at) refl
drop-next limit f n xs takes count order room = rw (append-nil, ← count, drop_min, drop-drop) refl
drop-next limit f n xs clears count order room = rw append-nil (drop_all n xs (omega arith))

-- The first of the held items is the one with the least held number, also among all the items.
first-held : {T : Type 0} (f n : ℕ) (xs ys : List T) → length xs ≡ n → (if nat_lt f n then slice_get (xs ++ ys) f else None) ≡ slice_get (drop f xs) 0
first-held f n xs ys count = grind (arith, common_steps, nat_tests, slice_get_cases)

-- With a limit the next push overwrites the first of the held numbers, exactly where they are as many as the limit.
overwritten-held : {T : Type 0} (c f n : ℕ) (xs ys : List T) → length xs ≡ n → f ≤ n → IsRoom (Some c) f n
    → (if between f n (n - c) && overwrites (Some c) n (n - c) then slice_get (xs ++ ys) (n - c) else None) ≡ overwritten (Some c) (drop f xs)
overwritten-held c f n xs ys count order room = grind (arith, common_steps, nat_tests, slice_get_cases)

-- By induction on the items.
pushed-pushes : {T : Type 0} (xs : List T) → pushed (map pushes xs) ≡ xs
pushed-pushes [] = refl
pushed-pushes (x ∷ xs) = ap (λ ys. x ∷ ys) (pushed-pushes xs)

-- The steps of a command push its items.
pub pushed-steps_of : {T : Type 0} (c : Command T) → pushed (steps_of c) ≡ puts c
pushed-steps_of c = grind (arith, pushed-pushes)

-- All items are those so far and those of the later steps.
items_so_far : {T : Type 0} (start : List T) (ss : List (Step T)) (k : ℕ) → all_items start ss ≡ all_items start (take k ss) ++ pushed (drop k ss)
items_so_far start ss k = rw (append_assoc, ← pushed-append (take k ss) (drop k ss), take-append-drop k ss) refl

module _ {T : Type 0} (limit : Option ℕ) (start : List T) (ss : List (Step T)) (within : IsWithin start limit) where
  -- the items held after k steps
  left_by : ℕ → List T
  left_by k = drop (first limit start ss k) (all_items start (take k ss))

  -- One more step does to them what it does to any list.
  left_by-more : (k : ℕ) (s : Step T) (rest : List (Step T)) → drop k ss ≡ s ∷ rest → left_by (k + 1) ≡ after_step limit (left_by k) s
  unfolding left_by
  left_by-more k s rest at =
      let w = IsRange-held limit start ss within k in
      let so_far = all_items start (take k ss) in
      let is : slice_get ss k ≡ Some s = grind (arith, common_steps, slice_get_cases) in
      let count : length so_far ≡ number start ss k = length-append start (pushed (take k ss)) in
      let more : all_items start (take (suc k) ss) ≡ so_far ++ pushed_by (Some s) = rw (pushed-take_more ss k, is, ← append_assoc) refl in
      rw (add-one, more, is) (drop-next limit (first limit start ss k) (number start ss k) so_far s count w.order w.room)

  -- An extension pushes item by item, by induction on the items.
  left_by-pushes : (k : ℕ) (xs : List T) (rest : List (Step T)) → drop k ss ≡ map pushes xs ++ rest → left_by (k + length xs) ≡ keep_last limit (left_by k ++ xs)
  unfolding left_by
  left_by-pushes k [] rest at =
      let room = rw (← length-append start (pushed (take k ss))) at (IsRange-held limit start ss within k).room in
      rw (add-zero, append-nil) (sym (keep_last_within limit (left_by k) ((IsWithin-drop limit _ _).1 room)))
  left_by-pushes k (x ∷ xs) rest at =
      let after : drop (k + 1) ss ≡ map pushes xs ++ rest = sym (drop-drop 1 k ss) ∙ ap (drop 1) at in
      let sum : k + suc (length xs) ≡ k + 1 + length xs = omega arith in
      rw (sum, left_by-pushes (k + 1) xs rest after, left_by-more k (pushes x) _ at) (keep_last-keep_last limit (left_by k ++ x ∷ []) xs ∙ ap (keep_last limit) (append_assoc (left_by k) (x ∷ []) xs))

  -- A command does what its steps do.
  left_by-command : (k : ℕ) (c : Command T) (rest : List (Step T)) → drop k ss ≡ steps_of c ++ rest → left_by (k + length (steps_of c)) ≡ after_one limit (left_by k) c
  left_by-command k (Push x) rest at = left_by-more k (pushes x) rest at
  left_by-command k (Extend items) rest at = rw length-map (left_by-pushes k items.items rest at)
  left_by-command k Dequeue rest at = left_by-more k takes rest at
  left_by-command k Skip rest at = left_by-more k takes rest at
  left_by-command k Clear rest at = left_by-more k clears rest at

  -- By induction on the commands.
  left_by-commands : (k : ℕ) (cs : List (Command T)) (rest : List (Step T)) → drop k ss ≡ steps cs ++ rest → left_by (k + length (steps cs)) ≡ after_all limit (left_by k) cs
  left_by-commands k [] rest at = rw add-zero refl
  left_by-commands k (c ∷ cs) rest at =
      let n = length (steps_of c) in
      let here : drop k ss ≡ steps_of c ++ (steps cs ++ rest) = at ∙ append_assoc (steps_of c) (steps cs) rest in
      let after : drop (k + n) ss ≡ steps cs ++ rest = sym (drop-drop n k ss) ∙ ap (drop n) here ∙ drop-append_seam (steps_of c) (steps cs ++ rest) in
      grind (arith, length-append (steps_of c) (steps cs), left_by-command k c (steps cs ++ rest) here, left_by-commands (k + n) cs rest after)

  -- The oldest is the first of them.
  oldest-left : (k : ℕ) → oldest limit start ss k ≡ slice_get (left_by k) 0
  unfolding left_by
  oldest-left k =
      let so_far = all_items start (take k ss) in
      rw (head-first limit start ss within k, items_so_far start ss k) (first-held (first limit start ss k) (number start ss k) so_far (pushed (drop k ss)) (length-append start (pushed (take k ss))))

-- What the next push overwrites is what a push onto the items held overwrites.
overwritten-left : {T : Type 0} (limit : Option ℕ) (start : List T) (ss : List (Step T)) (within : IsWithin start limit) (k : ℕ)
    → overwritten_after limit start ss k ≡ overwritten limit (left_by limit start ss within k)
unfolding left_by
overwritten-left None start ss within k = refl
overwritten-left (Some c) start ss within k =
    let w = IsRange-held (Some c) start ss within k in
    let n = number start ss k in
    let so_far = all_items start (take k ss) in
    rw (w.is (n - c), items_so_far start ss k) (overwritten-held c (first (Some c) start ss k) n so_far (pushed (drop k ss)) (length-append start (pushed (take k ss))) w.order w.room)

-- ---- a run of commands

module _ {T : Type 0} (limit : Option ℕ) (start : List T) (cs : List (Command T)) (within : IsWithin start limit) where
  -- What the first commands leave, by the steps that they take.
  after_all-left : (done todo : List (Command T)) → done ++ todo ≡ cs → after_all limit start done ≡ left_by limit start (steps cs) within (length (steps done))
  unfolding left_by
  after_all-left done todo whole =
      let parts : steps cs ≡ steps done ++ steps todo = rw (← whole) (flat_map-append steps_of done todo) in
      sym (rw (zero-add, append-nil) at (left_by-commands limit start (steps cs) within 0 done (steps todo) parts))

  -- The next number after the run is the count of all the items.
  length-all_items : length (all_items start (steps cs)) ≡ number start (steps cs) (length (steps cs))
  length-all_items = grind (arith, common_steps)

  -- The run leaves the items from the first held number on.
  after_all-drop : after_all limit start cs ≡ drop (first limit start (steps cs) (length (steps cs))) (all_items start (steps cs))
  unfolding left_by
  after_all-drop = rw (take_all (length (steps cs)) (steps cs) (omega arith)) at (after_all-left cs [] (append-nil cs))

  -- A run leaves a list within the limit, as the range is.
  pub IsWithin-after_all : IsWithin (after_all limit start cs) limit
  IsWithin-after_all =
      let room = rw (← length-all_items) at (IsRange-held limit start (steps cs) within (length (steps cs))).room in
      rw after_all-drop ((IsWithin-drop limit _ _).1 room)

  -- The items with held numbers are what the commands leave in turn.
  pub contents_after-all : contents_after limit start cs ≡ after_all limit start cs
  contents_after-all =
      let ss = steps cs in
      let f = first limit start ss (length ss) in
      let order = (IsRange-held limit start ss within (length ss)).order in
      let kept = items-from (all_items start ss) f (number start ss (length ss) - f) (omega (arith, length-all_items)) in
      rw (held_numbers-between limit start ss within (length ss), kept) (sym after_all-drop)

  -- By induction on the commands that are left.
  replies-left : (done todo : List (Command T)) → done ++ todo ≡ cs
      → map (λ e. reply_after limit start (steps cs) (length (steps (take e.0 cs))) e.1) (enumerate_from (length done) todo) ≡ replies_to limit (after_all limit start done) todo
  replies-left done [] whole = refl
  replies-left done (c ∷ todo) whole =
      let at : take (length done) cs ≡ done = rw (← whole) (take_at done (c ∷ todo) (length done) refl) in
      let here : reply_after limit start (steps cs) (length (steps done)) c ≡ reply_to limit (after_all limit start done) c =
      rw (overwritten-left limit start (steps cs) within, oldest-left limit start (steps cs) within, after_all-left done (c ∷ todo) whole) refl in
      let later = rw (length_push, after_all-append) at (replies-left (done ++ c ∷ []) todo (rw append_assoc whole)) in
      rw (at, here, later) refl

  -- The replies by numbers are those that the commands give in turn.
  pub replies_of-all : replies_of limit start cs ≡ replies_to limit start cs
  replies_of-all = replies-left [] cs refl

  -- ---- the count of slot changes

  -- With as many items left as the numbers say, the bound by lists is the bound by numbers.
  pub ChangesFewSlots-run : (before after : ℕ) → ChangesSlots before start after (after_all limit start cs) (length (pushed (steps cs))) → ChangesFewSlots limit start (steps cs) before after
  ChangesFewSlots-run before after (grows, most) =
      let left : length (after_all limit start cs) ≡ length start + length (pushed (steps cs)) - first limit start (steps cs) (length (steps cs)) =
      rw (after_all-drop, length-drop, length-append) refl in
      (grows, rw (removed-first limit start (steps cs) within) (omega arith))

  -- No more items were pushed or removed than there are.
  pub ChangesFewSlots-twice : (before after : ℕ) → ChangesFewSlots limit start (steps cs) before after → after ≤ before + 2 * length (all_items start (steps cs))
  ChangesFewSlots-twice before after (grows, most) =
      let ss = steps cs in
      omega (arith, length-all_items, (IsRange-held limit start ss within (length ss)).order, removed-first limit start ss within, length-append start (pushed ss))
