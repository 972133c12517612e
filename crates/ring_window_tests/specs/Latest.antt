-- Of two values that may be missing the later one counts, which is associative.
use Rattle.std.specs.Prelude.{◌≡◌, Option, None, Some, refl}

-- the later one, if there is one
abbrev pub latest : {A : Type 0} → Option A → Option A → Option A
latest x None = x
latest x (Some y) = Some y

pub latest-left : {A : Type 0} (x : Option A) → latest None x ≡ x
latest-left None = refl
latest-left (Some x) = refl

pub latest-assoc : {A : Type 0} (x y z : Option A) → latest (latest x y) z ≡ latest x (latest y z)
latest-assoc x y None = refl
latest-assoc x y (Some z) = refl
