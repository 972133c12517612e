-- The greatest common divisor is what its name says, and a monoid.
use Rattle.std.proofs.Common.{◌≡◌, ℕ, zero, suc, ◌<◌, ◌%◌, refl, ap, arith}
use Rattle.std.specs.Int.{IsGcd}
use Rattle.std.proofs.lemmas.Nat.Gcd.{IsGcd-from_mod, IsGcd-from_zero, dvd-zero, dvd_refl, dvd_trans, same_from_IsGcd}
use Rattle.window.specs.Gcd.{gcd, gcd_below}
use Rattle.window.specs.Laws.{MonoidLaws}
use Rattle.window.specs.declared.gcd.Gcd.{Gcd}

-- By induction: each step keeps the common divisors.
gcd_below-is : (n a b : ℕ) → b < n → IsGcd a b (gcd_below n a b)
unfolding gcd_below
gcd_below-is zero a b below = absurd (omega arith)
gcd_below-is (suc n) a zero below = IsGcd-from_zero a 0 refl
gcd_below-is (suc n) a (suc b) below =
    IsGcd-from_mod a (suc b) (gcd_below n (suc b) (a % suc b)) (gcd_below-is n (suc b) (a % suc b) (omega arith))

pub gcd-is : (a b : ℕ) → IsGcd a b (gcd a b)
gcd-is a b = gcd_below-is (suc b) a b (omega arith)

-- 0 changes nothing, since each number divides it.
gcd-left : (x : ℕ) → gcd 0 x ≡ x
gcd-left x = same_from_IsGcd 0 x (gcd 0 x) x (gcd-is 0 x) (dvd-zero x, dvd_refl x, λ d of_zero of_x. of_x)

gcd-right : (x : ℕ) → gcd x 0 ≡ x
gcd-right x = same_from_IsGcd x 0 (gcd x 0) x (gcd-is x 0) (dvd_refl x, dvd-zero x, λ d of_x of_zero. of_x)

-- Both sides divide all three, and each number that does divides them.
gcd-assoc : (x y z : ℕ) → gcd (gcd x y) z ≡ gcd x (gcd y z)
gcd-assoc x y z =
    let (xy_x, xy_y, xy) = gcd-is x y in
    let (yz_y, yz_z, yz) = gcd-is y z in
    let (r_x, r_yz, r) = gcd-is x (gcd y z) in
    same_from_IsGcd (gcd x y) z (gcd (gcd x y) z) (gcd x (gcd y z)) (gcd-is (gcd x y) z) (
      xy (gcd x (gcd y z)) r_x (dvd_trans (gcd x (gcd y z)) r_yz yz_y),
      dvd_trans (gcd x (gcd y z)) r_yz yz_z,
      λ d of_xy of_z. r d (dvd_trans d of_xy xy_x) (yz d (dvd_trans d of_xy xy_y) of_z),
    )

pub gcd_laws : MonoidLaws {M = Gcd} (λ _. Unit {0}) (record { 0 = 0 }) (λ x y. record { 0 = gcd x.0 y.0 })
gcd_laws = record {
  valid_neutral = tt;
  valid_op = λ x y _ _. tt;
  left_identity = λ x _. ap (λ n. record { 0 = n }) (gcd-left x.0);
  right_identity = λ x _. ap (λ n. record { 0 = n }) (gcd-right x.0);
  assoc = λ x y z _ _ _. ap (λ n. record { 0 = n }) (gcd-assoc x.0 y.0 z.0);
}
