-- What a run of commands means by item numbers. Items are numbered in the order of their pushes, and a rule says which
-- numbers are held after each step. It rests on the items at the start, the limit and the commands alone.
use Rattle.std.specs.Prelude.{◌≡◌, ℕ, zero, suc, ◌+◌, ◌-◌, ◌*◌, ◌<◌, ◌≤◌, Bool, false, not, ◌&&◌, ◌||◌, ◌==◌, ◌↔◌, nat_lt, if◌then◌else◌, List, [], ◌∷◌, ◌++◌, length, take, map, filter, slice_get, Option, Some, None, IfSome, IsSome, IsTrue}
use Rattle.std.specs.List.{enumerate_from, filter_map, flat_map, range_with_len}
use Rattle.ring_core.specs.declared.command.Command.{Command}
use Rattle.ring_core.specs.declared.command.Command.TheVariants.{Push, Extend, Dequeue, Skip, Clear}
use Rattle.ring_core.specs.declared.command.Reply.{Reply}
use Rattle.ring_core.specs.Contents.{IsWithin}
use Rattle.ring_core.specs.Meaning.{after_all, replies_to, reply_with}

-- a step changes a ring by one item, or empties it
pub data Step (T : Type 0) : Type 0 where
  pushes : T → Step T
  takes : Step T
  clears : Step T

-- the steps of a command
abbrev pub steps_of : {T : Type 0} → Command T → List (Step T)
steps_of (Push x) = pushes x ∷ []
steps_of (Extend items) = map pushes items.items
steps_of Dequeue = takes ∷ []
steps_of Skip = takes ∷ []
steps_of Clear = clears ∷ []

-- the steps of a run
abbrev pub steps : {T : Type 0} → List (Command T) → List (Step T)
steps cs = flat_map steps_of cs

-- the items that the steps push
abbrev pub pushed : {T : Type 0} → List (Step T) → List T
pushed [] = []
pushed (pushes x ∷ ss) = x ∷ pushed ss
pushed (takes ∷ ss) = pushed ss
pushed (clears ∷ ss) = pushed ss

-- everything pushed, the items at the start first: item number i is the one at place i
abbrev pub all_items : {T : Type 0} → List T → List (Step T) → List T
all_items start ss = start ++ pushed ss

-- how many items the start and the first k steps brought: the number that the next push has
abbrev pub number : {T : Type 0} → List T → List (Step T) → ℕ → ℕ
number start ss k = length start + length (pushed (take k ss))

-- the push of number n overwrites number i: with a limit, the one that came `capacity` pushes before it
abbrev pub overwrites : Option ℕ → ℕ → ℕ → Bool
overwrites None n i = false
overwrites (Some capacity) n i = i + capacity == n

-- some number below n is in the set
abbrev pub some_below : (ℕ → Bool) → ℕ → Bool
some_below set zero = false
some_below set (suc n) = some_below set n || set n

-- the set of held numbers after one more step, where n is the number that the next push has: a push adds n and takes out
-- what it overwrites, a take takes out the least, and a clear takes out all
abbrev pub held_next : {T : Type 0} → Option ℕ → ℕ → (ℕ → Bool) → Option (Step T) → ℕ → Bool
held_next limit n set None i = set i
held_next limit n set (Some (pushes x)) i = i == n || (set i && not (overwrites limit n i))
held_next limit n set (Some takes) i = set i && some_below set i
held_next limit n set (Some clears) i = false

-- the set of numbers held after k steps
abbrev pub held : {T : Type 0} → Option ℕ → List T → List (Step T) → ℕ → ℕ → Bool
held limit start ss zero i = nat_lt i (length start)
held limit start ss (suc k) i = held_next limit (number start ss k) (held limit start ss k) (slice_get ss k) i

-- the held numbers as a list, in rising order
abbrev pub held_numbers : {T : Type 0} → Option ℕ → List T → List (Step T) → ℕ → List ℕ
held_numbers limit start ss k = filter (held limit start ss k) (range_with_len 0 (number start ss k))

-- the least number in the set below n, or n
abbrev pub least : (ℕ → Bool) → ℕ → ℕ
least set zero = zero
least set (suc n) = if some_below set n then least set n else (if set n then n else suc n)

-- the least number held after k steps, or the number of the next push where none is held
abbrev pub head : {T : Type 0} → Option ℕ → List T → List (Step T) → ℕ → ℕ
head limit start ss k = least (held limit start ss k) (number start ss k)

-- the item with the least number held after k steps, if one is held
abbrev pub oldest : {T : Type 0} → Option ℕ → List T → List (Step T) → ℕ → Option T
oldest limit start ss k =
    if nat_lt (head limit start ss k) (number start ss k) then slice_get (all_items start ss) (head limit start ss k) else None

-- the item whose number the next push after k steps overwrites, if that number is held
abbrev pub overwritten_after : {T : Type 0} → Option ℕ → List T → List (Step T) → ℕ → Option T
overwritten_after None start ss k = None
overwritten_after (Some capacity) start ss k =
    let n = number start ss k in
    let i = n - capacity in
    if held (Some capacity) start ss k i && overwrites (Some capacity) n i then slice_get (all_items start ss) i else None

-- the items whose numbers are held after the run, in the order of their pushes
abbrev pub contents_after : {T : Type 0} → Option ℕ → List T → List (Command T) → List T
contents_after limit start cs =
    let ss = steps cs in filter_map (slice_get (all_items start ss)) (held_numbers limit start ss (length ss))

-- what a command answers that comes after k steps
abbrev pub reply_after : {T : Type 0} → Option ℕ → List T → List (Step T) → ℕ → Command T → Reply T
reply_after limit start ss k c = reply_with (overwritten_after limit start ss k) (oldest limit start ss k) c

-- what the commands of a run answer: each comes after the steps of those before it
abbrev pub replies_of : {T : Type 0} → Option ℕ → List T → List (Command T) → List (Reply T)
replies_of limit start cs = map (λ e. reply_after limit start (steps cs) (length (steps (take e.0 cs))) e.1) (enumerate_from 0 cs)

-- step k removes number i: it was held before and is not held after
abbrev pub removes : {T : Type 0} → Option ℕ → List T → List (Step T) → ℕ → ℕ → Bool
removes limit start ss k i = held limit start ss k i && not (held limit start ss (suc k) i)

-- how many numbers the steps remove
abbrev pub removed : {T : Type 0} → Option ℕ → List T → List (Step T) → ℕ
removed limit start ss =
    length (filter (λ i. some_below (λ k. removes limit start ss k i) (length ss)) (range_with_len 0 (number start ss (length ss))))

-- step k is a push
abbrev pub IsPush : {T : Type 0} → List (Step T) → ℕ → Type 0
IsPush {T} ss k = (x : T) × (slice_get ss k ≡ Some (pushes x))

-- the held numbers are those from the head on, up to the last that was pushed
abbrev pub HasNoGap : {T : Type 0} → Option ℕ → List T → List (Step T) → Type 0
HasNoGap limit start ss = (k i : ℕ) → IsTrue (held limit start ss k i) ↔ ((head limit start ss k ≤ i) × (i < number start ss k))

-- no more numbers are held than the limit allows
abbrev pub IsWithinLimit : {T : Type 0} → Option ℕ → List T → List (Step T) → Type 0
IsWithinLimit limit start ss = (k : ℕ) → IfSome limit (λ capacity. length (held_numbers limit start ss k) ≤ capacity)

-- no two steps remove the same number
abbrev pub RemovesOnce : {T : Type 0} → Option ℕ → List T → List (Step T) → Type 0
RemovesOnce limit start ss = (j k i : ℕ) → IsTrue (removes limit start ss j i) → IsTrue (removes limit start ss k i) → j ≡ k

-- no take and no clear before step k removes number i: what removes it, if anything, is a push
abbrev pub IsLeft : {T : Type 0} → Option ℕ → List T → List (Step T) → ℕ → ℕ → Type 0
IsLeft limit start ss k i = (j : ℕ) → j < k → IsTrue (removes limit start ss j i) → IsPush ss j

-- a push removes the number that it overwrites, exactly where no take and no clear did before, and no other
abbrev pub PushesOverwrite : {T : Type 0} → Option ℕ → List T → List (Step T) → Type 0
PushesOverwrite limit start ss = (k i : ℕ) → IsPush ss k
    → IsTrue (removes limit start ss k i) ↔ (IsTrue (overwrites limit (number start ss k) i) × IsLeft limit start ss k i)

-- what the numbers of any run keep to
pub record KeepsToNumbers {T : Type 0} (limit : Option ℕ) (start : List T) (ss : List (Step T)) : Type 0 where
  pub no_gap : HasNoGap limit start ss
  pub within_limit : IsWithinLimit limit start ss
  pub removes_once : RemovesOnce limit start ss
  pub pushes_overwrite : PushesOverwrite limit start ss

-- a count of slot changes never fell over the run, and rose by at most the items that it pushed and those that it removed
abbrev pub ChangesFewSlots : {T : Type 0} → Option ℕ → List T → List (Step T) → ℕ → ℕ → Type 0
ChangesFewSlots limit start ss before after = (before ≤ after) × (after ≤ before + (length (pushed ss) + removed limit start ss))

module _ {T R : Type 0} (limit : R → Option ℕ) (contents : R → List T) (count : R → ℕ) where
  -- a run on a ring with a limit changed its slots so
  abbrev pub CountsFew : R → R → List (Command T) → Type 0
  CountsFew old new cs = IsSome (limit old) → ChangesFewSlots (limit old) (contents old) (steps cs) (count old) (count new)

  -- which is at most twice for each item that has a number
  abbrev pub CountsTwice : R → R → List (Command T) → Type 0
  CountsTwice old new cs = IsSome (limit old) → count new ≤ count old + 2 * length (all_items (contents old) (steps cs))

-- on items within a limit, what a run leaves and answers by item numbers is what it leaves and answers as lists
abbrev pub MeaningsAgree : Type 0 → Type 0
MeaningsAgree T = (limit : Option ℕ) (start : List T) (cs : List (Command T)) → IsWithin start limit
    → (contents_after limit start cs ≡ after_all limit start cs) × (replies_of limit start cs ≡ replies_to limit start cs)

-- by item numbers too, a run of xs and then of ys leaves and answers what a run of xs followed by ys does, and pushes as many
abbrev pub RunsJoinByNumber : Type 0 → Type 0
RunsJoinByNumber T = (limit : Option ℕ) (start : List T) (xs ys : List (Command T)) → IsWithin start limit
    → (contents_after limit start (xs ++ ys) ≡ contents_after limit (contents_after limit start xs) ys)
    × (replies_of limit start (xs ++ ys) ≡ replies_of limit start xs ++ replies_of limit (contents_after limit start xs) ys)
    × (pushed (steps (xs ++ ys)) ≡ pushed (steps xs) ++ pushed (steps ys))
