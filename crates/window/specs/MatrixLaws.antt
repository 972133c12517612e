-- 2x2 matrices modulo 2^64 are a monoid by their product.
use Rattle.std.proofs.Common.{◌≡◌, ℕ, ◌+◌, ◌*◌, ◌%◌, ◌^◌, ◌<◌, refl, ap, sym, ◌∙◌, arith}
use Rattle.std.proofs.Math.Nat.{add-mod-mod, mod-add-mod, mod-eq_of_lt}
use Rattle.std.proofs.lemmas.Nat.{mul-mod_first, mul-mod_second}
use Rattle.window.specs.Laws.{MonoidLaws}
use Rattle.window.specs.Matrices.{HasEntries, entry, product, unit_matrix}
use Rattle.window.specs.declared.matrix.Matrix.{Matrix}

-- The remainder of a sum is that of the sum of remainders.
sum-mod : (x y m : ℕ) → (x % m + y % m) % m ≡ (x + y) % m
sum-mod x y m = mod-add-mod x m (y % m) ∙ add-mod-mod x y m

pub same_sum : (m x x' y y' : ℕ) → x % m ≡ x' % m → y % m ≡ y' % m → (x + y) % m ≡ (x' + y') % m
same_sum m x x' y y' p q = sym (sum-mod x y m) ∙ rw (p, q) (sum-mod x' y' m)

-- Factors that are entries may be taken before the remainder.
entry_left : (p q i k : ℕ) → entry (p % 2 ^ 64) i (q % 2 ^ 64) k ≡ (p * i + q * k) % 2 ^ 64
entry_left p q i k = same_sum (2 ^ 64) (p % 2 ^ 64 * i) (p * i) (q % 2 ^ 64 * k) (q * k) (mul-mod_first p i (2 ^ 64)) (mul-mod_first q k (2 ^ 64))

entry_right : (a b p q : ℕ) → entry a (p % 2 ^ 64) b (q % 2 ^ 64) ≡ (a * p + b * q) % 2 ^ 64
entry_right a b p q = same_sum (2 ^ 64) (a * (p % 2 ^ 64)) (a * p) (b * (q % 2 ^ 64)) (b * q) (mul-mod_second a p (2 ^ 64)) (mul-mod_second b q (2 ^ 64))

-- An entry of a product of three.
entry-assoc : (a b e f g h i k : ℕ) → entry (entry a e b g) i (entry a f b h) k ≡ entry a (entry e i f k) b (entry g i h k)
entry-assoc a b e f g h i k =
    let same : (a * e + b * g) * i + (a * f + b * h) * k ≡ a * (e * i + f * k) + b * (g * i + h * k) = grind arith in
    entry_left (a * e + b * g) (a * f + b * h) i k ∙ ap (λ n. n % 2 ^ 64) same ∙ sym (entry_right a b (e * i + f * k) (g * i + h * k))

one_zero : (x z : ℕ) → x < 2 ^ 64 → entry 1 x 0 z ≡ x
one_zero x z below = let e : 1 * x + 0 * z ≡ x = omega arith in ap (λ n. n % 2 ^ 64) e ∙ mod-eq_of_lt below

zero_one : (x z : ℕ) → z < 2 ^ 64 → entry 0 x 1 z ≡ z
zero_one x z below = let e : 0 * x + 1 * z ≡ z = omega arith in ap (λ n. n % 2 ^ 64) e ∙ mod-eq_of_lt below

times_one : (x z : ℕ) → x < 2 ^ 64 → entry x 1 z 0 ≡ x
times_one x z below = let e : x * 1 + z * 0 ≡ x = omega arith in ap (λ n. n % 2 ^ 64) e ∙ mod-eq_of_lt below

times_zero : (x z : ℕ) → z < 2 ^ 64 → entry x 0 z 1 ≡ z
times_zero x z below = let e : x * 0 + z * 1 ≡ z = omega arith in ap (λ n. n % 2 ^ 64) e ∙ mod-eq_of_lt below

-- Matrices with the same entries are the same.
matrix : ℕ → ℕ → ℕ → ℕ → Matrix
matrix a b c d = record { a = a; b = b; c = c; d = d }

same_entries : (a a' b b' c c' d d' : ℕ) → a ≡ a' → b ≡ b' → c ≡ c' → d ≡ d' → matrix a b c d ≡ matrix a' b' c' d'
same_entries a a' b b' c c' d d' p q r s = rw (p, q, r, s) refl

pub product_laws : MonoidLaws {M = Matrix} HasEntries unit_matrix product
unfolding matrix
product_laws = record {
  valid_neutral = record { a = omega arith; b = omega arith; c = omega arith; d = omega arith };
  valid_op = λ x y _ _. record { a = omega arith; b = omega arith; c = omega arith; d = omega arith };
  left_identity = λ x is. same_entries _ _ _ _ _ _ _ _ (one_zero x.a x.c is.a) (one_zero x.b x.d is.b) (zero_one x.a x.c is.c) (zero_one x.b x.d is.d);
  right_identity = λ x is. same_entries _ _ _ _ _ _ _ _ (times_one x.a x.b is.a) (times_zero x.a x.b is.b) (times_one x.c x.d is.c) (times_zero x.c x.d is.d);
  assoc = λ x y z _ _ _. same_entries _ _ _ _ _ _ _ _
      (entry-assoc x.a x.b y.a y.b y.c y.d z.a z.c) (entry-assoc x.a x.b y.a y.b y.c y.d z.b z.d)
      (entry-assoc x.c x.d y.a y.b y.c y.d z.a z.c) (entry-assoc x.c x.d y.a y.b y.c y.d z.b z.d);
}
