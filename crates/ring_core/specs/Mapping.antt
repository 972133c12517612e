-- What a call of a closure on each item of a ring returned.
use Rattle.std.specs.Prelude.{◌≡◌, List, map}
use Rattle.std.specs.List.{FoldsTo}

-- a closure that started as p, and answers by R, was called on each of the items in turn, and returned the new ones
abbrev pub MapsEach : {A B P : Type 0} → (P → A → B → P → Type 0) → P → List A → List B → Type 0
MapsEach {A} {B} {P} R p xs ys = (calls : List (A × B)) × (last : P) × FoldsTo (λ f c g. R f c.0 c.1 g) p calls last
    × (map (λ c. c.0) calls ≡ xs) × (map (λ c. c.1) calls ≡ ys)

-- Q holds of each function that says what calls of p return, which leave p as it was
abbrev pub ByMap : {A B P : Type 0} → (P → A → B → P → Type 0) → P → ((A → B) → Type 0) → Type 0
ByMap {A} {B} {P} R p Q = (f : A → B) → ((x : A) (y : B) (q : P) → R p x y q → (q ≡ p) × (y ≡ f x)) → Q f
