-- Which of two readings counts, and that this is a monoid.
use Rattle.std.specs.Prelude.{◌≡◌, ℤ, Option, None, Some, refl}
use Rattle.std.proofs.Common.{ap}
use Rattle.window.specs.Laws.{MonoidLaws}
use Rattle.ring_uses.specs.declared.readings.Latest.{Latest}

-- the later one, if there is one
abbrev pub latest : Option ℤ → Option ℤ → Option ℤ
latest x None = x
latest x (Some y) = Some y

latest-left : (x : Option ℤ) → latest None x ≡ x
latest-left None = refl
latest-left (Some x) = refl

latest-assoc : (x y z : Option ℤ) → latest (latest x y) z ≡ latest x (latest y z)
latest-assoc x y None = refl
latest-assoc x y (Some z) = refl

pub latest_laws : MonoidLaws {M = Latest} (λ _. Unit {0}) (record { 0 = None }) (λ x y. record { 0 = latest x.0 y.0 })
latest_laws = record {
  valid_neutral = tt;
  valid_op = λ x y _ _. tt;
  left_identity = λ x _. ap (λ v. record { 0 = v }) (latest-left x.0);
  right_identity = λ x _. refl;
  assoc = λ x y z _ _ _. ap (λ v. record { 0 = v }) (latest-assoc x.0 y.0 z.0);
}
