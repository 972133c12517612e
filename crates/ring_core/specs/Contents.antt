-- What the contents of a ring are: a list, oldest item first, within a limit; and which index a position names.
use Rattle.std.specs.Prelude.{◌≡◌, ℕ, ◌+◌, ◌-◌, ◌%◌, ◌<◌, ◌≤◌, List, [], ◌∷◌, ◌++◌, length, take, drop, slice_get, ℤ, pos, negsuc, Option, None, Some, IsSome, Result, IfErr, IfOk, IsOk}

-- what a limit leaves of a list: its last items, at most `limit` of them
abbrev pub keep_last : {A : Type 0} → Option ℕ → List A → List A
keep_last None xs = xs
keep_last (Some limit) xs = drop (length xs - limit) xs

-- what a push overwrites: the first of the items that are too many once one more comes, so the oldest of a full ring
abbrev pub overwritten : {A : Type 0} → Option ℕ → List A → Option A
overwritten None xs = None
overwritten (Some limit) xs = slice_get (take (length xs + 1 - limit) xs) 0

-- what a limit leaves of a list whose last items give way: its first items, at most `limit` of them
abbrev pub keep_first : {A : Type 0} → Option ℕ → List A → List A
keep_first None xs = xs
keep_first (Some limit) xs = take limit xs

-- the first of the items that are too many there
abbrev pub past_limit : {A : Type 0} → Option ℕ → List A → Option A
past_limit None xs = None
past_limit (Some limit) xs = slice_get xs limit

-- a list is no longer than the limit, which is above zero
abbrev pub IsWithin : {A : Type 0} → List A → Option ℕ → Type 0
IsWithin xs None = Unit {0}
IsWithin xs (Some limit) = (0 < limit) × (length xs ≤ limit)

-- a beginning of the list that is shorter than the whole
abbrev pub IsCut : {A : Type 0} → List A → List A → Type 0
IsCut whole part = (length part < length whole) × (part ≡ take (length part) whole)

-- a cut beginning of the source's items came after the old ones
abbrev pub AppendsCut : {A : Type 0} → List A → List A → List A → Type 0
AppendsCut {A} old source new = (part : List A) × IsCut source part × (new ≡ old ++ part)

-- the index that position i names among n items: 0 is the oldest, and positions wrap by n
abbrev pub index_at : ℕ → ℕ → ℕ
index_at n i = i % n

-- the index that a position with a sign names: -1 is the newest
abbrev pub signed_index_at : ℕ → ℤ → ℕ
signed_index_at n (pos i) = i % n
signed_index_at n (negsuc i) = n - (1 + i % n)

-- a position with a sign, from -n on and below n, which does not wrap
abbrev pub IsInRange : ℕ → ℤ → Type 0
IsInRange n (pos i) = i < n
IsInRange n (negsuc i) = i < n

-- the index that such a position names
abbrev pub index_in_range : ℕ → ℤ → ℕ
index_in_range n (pos i) = i
index_in_range n (negsuc i) = n - (1 + i)

-- a count of slot changes went from a to b where the items went from old to new and `put` of them were put in:
-- it never falls, and rises by at most the items put in plus those removed
abbrev pub ChangesSlots : {A : Type 0} → ℕ → List A → ℕ → List A → ℕ → Type 0
ChangesSlots a old b new put = (a ≤ b) × (b + length new ≤ a + length old + (put + put))

-- a ring with a limit changed its slots so between two of its states; nothing is said of a ring without one
abbrev pub Counts : {A R : Type 0} → (R → Option ℕ) → (R → List A) → (R → ℕ) → R → R → ℕ → Type 0
Counts limit contents count old new put = IsSome (limit old) → ChangesSlots (count old) (contents old) (count new) (contents new) put

-- what a push of an item did to a ring, and what it returned
pub record Pushes {A R : Type 0} (limit_of : R → Option ℕ) (contents_of : R → List A) (count_of : R → ℕ) (old new : R) (item : A)
    (result : Result (Option A) A) : Type 0 where
  pub overwrites : IfOk result (λ gave. gave ≡ overwritten (limit_of old) (contents_of old))
  pub ok : IsOk result → contents_of new ≡ keep_last (limit_of old) (contents_of old ++ item ∷ [])
  pub err : IfErr result (λ x. (x ≡ item) × (contents_of new ≡ contents_of old))
  pub limit : limit_of new ≡ limit_of old
  pub changes : Counts limit_of contents_of count_of old new 1
  pub within : IsWithin (contents_of old) (limit_of old)
  pub succeeds : IsSome (limit_of old) → IsOk result
