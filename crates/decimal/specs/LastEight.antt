-- The digits of a number, eight at a time.
use Rattle.std.specs.Prelude.{ℕ, ◌/◌, ◌%◌, List, [], ◌∷◌}

-- the last eight digits, each as a number
abbrev pub last_eight : ℕ → List ℕ
last_eight n = (n / 10000000 % 10) ∷ (n / 1000000 % 10) ∷ (n / 100000 % 10) ∷ (n / 10000 % 10) ∷ (n / 1000 % 10) ∷ (n / 100 % 10) ∷ (n / 10 % 10) ∷ (n % 10) ∷ []
