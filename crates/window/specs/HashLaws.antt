-- Polynomial hashes are a monoid.
use Rattle.std.proofs.Common.{◌≡◌, ℕ, ◌+◌, ◌*◌, ◌%◌, ap, sym, ◌∙◌, refl, arith}
use Rattle.std.proofs.Math.Nat.{mod-eq_of_lt, mod-mod}
use Rattle.std.proofs.lemmas.Nat.{mul-mod_first, mul-mod_second}
use Rattle.window.specs.Hashes.{HashAndPower, IsReduced, follow, of_nothing}
use Rattle.window.specs.Laws.{MonoidLaws}
use Rattle.window.specs.MatrixLaws.{same_sum}

pair : ℕ → ℕ → HashAndPower
pair h p = record { hash = h; power = p }

same_pair : (h h' p p' : ℕ) → h ≡ h' → p ≡ p' → pair h p ≡ pair h' p'
same_pair h h' p p' e f = rw (e, f) refl

-- The hash of three parts, by any two first.
module _ (m : ℕ) where
  step-assoc : (h p h' p' h'' : ℕ) → ((h * p + h') % m * p' + h'') % m ≡ (h * ((p * p' + 0) % m) + (h' * p' + h'') % m) % m
  step-assoc h p h' p' h'' =
      let left : ((h * p + h') % m * p' + h'') % m ≡ ((h * p + h') * p' + h'') % m = same_sum m _ _ h'' h'' (mul-mod_first (h * p + h') p' m) refl in
      let right : (h * ((p * p' + 0) % m) + (h' * p' + h'') % m) % m ≡ (h * (p * p' + 0) + (h' * p' + h'')) % m = same_sum m _ _ _ _ (mul-mod_second h (p * p' + 0) m) (mod-mod (h' * p' + h'') m) in
      let same : (h * p + h') * p' + h'' ≡ h * (p * p' + 0) + (h' * p' + h'') = grind arith in
      left ∙ ap (λ n. n % m) same ∙ sym right

  power-assoc : (p p' p'' : ℕ) → ((p * p' + 0) % m * p'' + 0) % m ≡ (p * ((p' * p'' + 0) % m) + 0) % m
  power-assoc p p' p'' =
      let left : ((p * p' + 0) % m * p'' + 0) % m ≡ ((p * p' + 0) * p'' + 0) % m = same_sum m _ _ 0 0 (mul-mod_first (p * p' + 0) p'' m) refl in
      let right : (p * ((p' * p'' + 0) % m) + 0) % m ≡ (p * (p' * p'' + 0) + 0) % m = same_sum m _ _ 0 0 (mul-mod_second p (p' * p'' + 0) m) refl in
      let same : (p * p' + 0) * p'' + 0 ≡ p * (p' * p'' + 0) + 0 = grind arith in
      left ∙ ap (λ n. n % m) same ∙ sym right

pub hash_laws : MonoidLaws {M = HashAndPower} IsReduced of_nothing follow
unfolding pair
hash_laws = record {
  valid_neutral = record { hash = omega arith; power = omega arith };
  valid_op = λ x y _ _. record { hash = omega arith; power = omega arith };
  left_identity = λ x is.
      let h : 0 * x.power + x.hash ≡ x.hash = omega arith in
      let p : 1 * x.power + 0 ≡ x.power = omega arith in
      same_pair _ _ _ _ (ap (λ n. n % 2305843009213693951) h ∙ mod-eq_of_lt is.hash) (ap (λ n. n % 2305843009213693951) p ∙ mod-eq_of_lt is.power);
  right_identity = λ x is.
      let h : x.hash * 1 + 0 ≡ x.hash = omega arith in
      let p : x.power * 1 + 0 ≡ x.power = omega arith in
      same_pair _ _ _ _ (ap (λ n. n % 2305843009213693951) h ∙ mod-eq_of_lt is.hash) (ap (λ n. n % 2305843009213693951) p ∙ mod-eq_of_lt is.power);
  assoc = λ x y z _ _ _. same_pair _ _ _ _ (step-assoc 2305843009213693951 x.hash y.power y.hash z.power z.hash) (power-assoc 2305843009213693951 x.power y.power z.power);
}
