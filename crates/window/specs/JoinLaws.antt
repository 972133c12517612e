-- Optional values join as a monoid where the values join associatively.
use Rattle.std.proofs.Common.{◌≡◌, ℤ, Option, None, Some, refl, ap, arith}
use Rattle.std.specs.Int.{int_max, int_min}
use Rattle.std.proofs.lemmas.Int.{int_max_is, int_min_is, ints}
use Rattle.window.specs.Extremes.{join_boxes, joined}
use Rattle.window.specs.Laws.{MonoidLaws}
use Rattle.window.specs.declared.extremes.BoundingBox.{BoundingBox}
use Rattle.window.specs.declared.extremes.Corners.{Corners}
use Rattle.window.specs.declared.extremes.Greatest.{Greatest}
use Rattle.window.specs.declared.extremes.Least.{Least}

joined-right : {A : Type 0} (join : A → A → A) (x : Option A) → joined join x None ≡ x
joined-right join None = refl
joined-right join (Some x) = refl

joined-assoc : {A : Type 0} (join : A → A → A) → ((x y z : A) → join (join x y) z ≡ join x (join y z)) → (x y z : Option A) → joined join (joined join x y) z ≡ joined join x (joined join y z)
joined-assoc join assoc None y z = refl
joined-assoc join assoc (Some x) None z = refl
joined-assoc join assoc (Some x) (Some y) None = refl
joined-assoc join assoc (Some x) (Some y) (Some z) = ap Some (assoc x y z)

int_min-assoc : (x y z : ℤ) → int_min (int_min x y) z ≡ int_min x (int_min y z)
int_min-assoc x y z = omega (arith, ints, int_min_is (int_min x y) z, int_min_is x y, int_min_is x (int_min y z), int_min_is y z)

int_max-assoc : (x y z : ℤ) → int_max (int_max x y) z ≡ int_max x (int_max y z)
int_max-assoc x y z = omega (arith, ints, int_max_is (int_max x y) z, int_max_is x y, int_max_is x (int_max y z), int_max_is y z)

join_boxes-assoc : (x y z : Corners) → join_boxes (join_boxes x y) z ≡ join_boxes x (join_boxes y z)
join_boxes-assoc x y z =
    let left = int_min-assoc x.left y.left z.left in
    let bottom = int_min-assoc x.bottom y.bottom z.bottom in
    let right = int_max-assoc x.right y.right z.right in
    let top = int_max-assoc x.top y.top z.top in
    rw (left, bottom, right, top) refl

-- optional values in a record of their own join as they do
joined_laws : {A M : Type 0} (join : A → A → A) → ((x y z : A) → join (join x y) z ≡ join x (join y z))
    → (record_of : Option A → M) (value : M → Option A) → ((m : M) → record_of (value m) ≡ m) → ((o : Option A) → value (record_of o) ≡ o)
    → MonoidLaws {M = M} (λ _. Unit {0}) (record_of None) (λ m n. record_of (joined join (value m) (value n)))
joined_laws join join-assoc record_of value back forth = record {
  valid_neutral = tt;
  valid_op = λ x y _ _. tt;
  left_identity = λ x _. rw forth (back x);
  right_identity = λ x _. rw (forth, joined-right join (value x)) (back x);
  assoc = λ x y z _ _ _. rw (forth, forth) (ap record_of (joined-assoc join join-assoc (value x) (value y) (value z)));
}

pub least_laws : MonoidLaws {M = Least} (λ _. Unit {0}) (record { 0 = None }) (λ x y. record { 0 = joined int_min x.0 y.0 })
least_laws = joined_laws int_min int_min-assoc (λ o. record { 0 = o }) (λ m. m.0) (λ m. refl) (λ o. refl)

pub greatest_laws : MonoidLaws {M = Greatest} (λ _. Unit {0}) (record { 0 = None }) (λ x y. record { 0 = joined int_max x.0 y.0 })
greatest_laws = joined_laws int_max int_max-assoc (λ o. record { 0 = o }) (λ m. m.0) (λ m. refl) (λ o. refl)

pub box_laws : MonoidLaws {M = BoundingBox} (λ _. Unit {0}) (record { 0 = None }) (λ x y. record { 0 = joined join_boxes x.0 y.0 })
box_laws = joined_laws join_boxes join_boxes-assoc (λ o. record { 0 = o }) (λ m. m.0) (λ m. refl) (λ o. refl)
