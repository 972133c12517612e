-- Cases of truth values and of what may be.
use Rattle.std.proofs.Common.{◌≡◌, Bool, true, false, Some, refl}

pub by_cases : {P : Type 0} (v : Bool) → (v ≡ true → P) → (v ≡ false → P) → P
by_cases {P} v = elim v as (λ u. (u ≡ true → P) → (u ≡ false → P) → P) [ true ↦ λ yes no. yes refl | false ↦ λ yes no. no refl ]

pub some_is : {A : Type 0} (a b : A) → Some a ≡ Some b → a ≡ b
some_is a b e = cc
