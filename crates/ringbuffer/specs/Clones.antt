-- What is known of clones where one may be refused.
use Rattle.std.specs.Prelude.{◌≡◌, ◌+◌, ◌-◌, ◌<◌, ◌≤◌, ℕ, All, List, MatchResult, Result, drop, length, take}
use Rattle.std.specs.List.{AllZip}

module _ {X E : Type 0} (is_clone : X → X → Type 0) (is_infallible : X → Type 0) where
  -- of clones of a list's first items P holds: on Ok all were cloned, on Err fewer, since a clone was refused
  abbrev pub ClonesFirst : List X → Result (Unit {0}) E → (List X → Type 0) → Type 0
  ClonesFirst xs result P = (ys : List X) × AllZip is_clone (take (length ys) xs) ys
      × MatchResult result (λ _. length ys ≡ length xs) (λ _. (length ys < length xs) × ((x : X) × ¬ (is_infallible x))) × P ys

  -- of clones of a list's items P holds, but for some first ones of which a limit leaves none: on Ok all the others were cloned, on Err a clone was refused
  abbrev pub ClonesLast : ℕ → List X → Result (Unit {0}) E → (List X → Type 0) → Type 0
  ClonesLast limit xs result P = (over : ℕ) × (ys : List X) × (over ≤ length xs - limit) × AllZip is_clone (take (length ys) (drop over xs)) ys
      × MatchResult result (λ _. over + length ys ≡ length xs) (λ _. (x : X) × ¬ (is_infallible x)) × P ys

  -- of clones of one item P holds: on Ok of so many, on Err of fewer, since a clone was refused
  abbrev pub ClonesOne : X → ℕ → Result (Unit {0}) E → (List X → Type 0) → Type 0
  ClonesOne x count result P = (ys : List X) × All (is_clone x) ys
      × MatchResult result (λ _. length ys ≡ count) (λ _. (length ys < count) × ¬ (is_infallible x)) × P ys
