-- What a monoid is, and what a list of its values combines to.
use Rattle.std.specs.Prelude.{◌≡◌, List, [], ◌∷◌}

-- the neutral value is valid and changes none, two valid values combine to a valid one, and of three it doesn't matter which two combine first
pub record MonoidLaws {M : Type 0} (valid : M → Type 0) (neutral : M) (op : M → M → M) : Type 0 where
  pub valid_neutral : valid neutral
  pub valid_op : (x y : M) → valid x → valid y → valid (op x y)
  pub left_identity : (x : M) → valid x → op neutral x ≡ x
  pub right_identity : (x : M) → valid x → op x neutral ≡ x
  pub assoc : (x y z : M) → valid x → valid y → valid z → op (op x y) z ≡ op x (op y z)

-- what the values of a list combine to: the neutral value if there is none
abbrev pub combined : {M : Type 0} → M → (M → M → M) → List M → M
combined neutral op [] = neutral
combined neutral op (x ∷ xs) = op x (combined neutral op xs)
