-- What follows for a caller of a sum of floating-point numbers, whichever of them are added first.
use Rattle.std.proofs.Common.{◌≡◌, ◌∙◌, ℕ, zero, suc, ◌+◌, ◌-◌, ◌*◌, ◌^◌, ◌<◌, ◌≤◌, ◌⊎◌, inl, inr, ◌||◌, eqb, ℤ, pos, negsuc, ◌+ℤ◌, ◌-ℤ◌, Bool, true, false, T, Contains, Float, List, [], ◌∷◌, ◌++◌, map, sum_by, unsigned_abs, from_bits, refl, ap, ap₂, sym, arith, eqb→eq, zero-mul, add-mul, lt-ltb, le-ltb, mul_comm, mul-pos, mul-lt-mul_of_pos_right, mul-le-mul_right, le_of_lt, le_trans}
use Rattle.std.proofs.Math.Nat.{mul-sub}
use Rattle.std.proofs.lemmas.Bool.{cases_lt}
use Rattle.std.proofs.lemmas.Int.{ints}
use Rattle.std.proofs.lemmas.List.Elements.{Contains-append_cases}
use Rattle.std.proofs.lemmas.List.Sums.{sum_by-append}
use Rattle.std.specs.Float.{binary64, fin, inf, nan}
use Rattle.std.specs.Float.Ieee.{add, eq, of_bits, of_int, neg, round, sum, up, down}
use Rattle.window.specs.FloatSums.{Bracketed, IsFloatSum, numbers, value}
use Rattle.window.specs.SumLaws.{total-append}
use Rattle.window.specs.Sums.{total}
use lib.Ieee.Back.{round_whole}
use lib.Ieee.Exact.{HasValue}
use lib.Ieee.Fits.{and_i, down_pos, eq→eqb}
use lib.Ieee.Scale.{round_same}
use mathlib.Core.Bool.{beq}

-- A NaN on either side makes one.
add-nan : (x : Float) → add binary64 x nan ≡ nan
unfolding add
add-nan nan = refl
add-nan (inf s) = refl
add-nan (fin s m e) = refl

nan-add : (x : Float) → add binary64 nan x ≡ nan
unfolding add
nan-add x = refl

-- By induction: a NaN in brackets comes out of them.
value-nan : (s : Bracketed) → Contains (numbers s) nan → value s ≡ nan
value-nan Bracketed.nothing (k, within, at) = absurd (omega (arith, within))
value-nan (Bracketed.one x) (zero, within, at) = at
value-nan (Bracketed.one x) (suc k, within, at) = absurd (omega (arith, within))
value-nan (Bracketed.both s t) has = from (Contains-append_cases (numbers s) (numbers t) nan has) (value-nan s) (value-nan t) where
  from : Contains (numbers s) nan ⊎ Contains (numbers t) nan → (Contains (numbers s) nan → value s ≡ nan) → (Contains (numbers t) nan → value t ≡ nan) → add binary64 (value s) (value t) ≡ nan
  from (inl left) of_s of_t = ap (λ x. add binary64 x (value t)) (of_s left) ∙ nan-add (value t)
  from (inr right) of_s of_t = ap (add binary64 (value s)) (of_t right) ∙ add-nan (value s)

-- A sum with a NaN among its numbers is a NaN.
pub float_sum_of_nan : {xs : List Float} {x : Float} → Contains xs nan → IsFloatSum xs x → x ≡ nan
float_sum_of_nan has (s, of_xs, is) = sym is ∙ value-nan s (rw of_xs has)

-- a size with its sign
abbrev signed : Bool → ℕ → ℤ
signed false a = pos a
signed true a = pos 0 -ℤ pos a

-- x is this whole number, whose size is at most n; 0 has either sign
abbrev IsWhole : Float → ℤ → ℕ → Type 0
IsWhole x z n = (s : Bool) × (a : ℕ) × HasValue x s a 1 × (z ≡ signed s a) × (a ≤ n)

-- A difference of multiples.
apart : (a b c : ℕ) → a * c - b * c ≡ (a - b) * c
apart a b c = rw (mul_comm a c, mul_comm b c, ← mul-sub c a b) (mul_comm c (a - b))

-- A number's size at the scale of two exponents.
scale : (k a : ℕ) (e d : ℤ) → k * up e * 1 ≡ a * down e → k * up e * down d ≡ a * (down e * down d)
scale k a e d is = omega (arith, ap (λ i. i * down d) is)

-- Up to 2 ^ 53 a whole number, as a fraction, is rounded to itself.
rounded : (s : Bool) (a c n : ℕ) (z : ℤ) → 0 < c → a ≤ n → n ≤ 2 ^ 53 → z ≡ signed s a → IsWhole (round binary64 s (a * c) c) z n
rounded s a c n z some within small is = (s, a, rw (round_same binary64 s (a * c) c a 1 some (omega arith) (omega arith)) (round_whole binary64 s a (omega arith)), is, within)

-- Two whole numbers, by their signs and by which is greater.
sum_whole : (s t : Bool) (a b c n : ℕ) → 0 < c → a + b ≤ n → n ≤ 2 ^ 53 → IsWhole (sum binary64 s (a * c) t (b * c) c) (signed s a +ℤ signed t b) n
unfolding sum
sum_whole false false a b c n some within small = rw (← add-mul a b c) (rounded false (a + b) c n (pos a +ℤ pos b) some within small (omega (arith, ints)))
sum_whole true true a b c n some within small = rw (← add-mul a b c) (rounded true (a + b) c n (signed true a +ℤ signed true b) some within small (omega (arith, ints)))
sum_whole false true a b c n some within small = by (cases_lt a b) (cases_lt b a) where
  by : (a < b) ⊎ (b ≤ a) → (b < a) ⊎ (a ≤ b) → IsWhole (sum binary64 false (a * c) true (b * c) c) (pos a +ℤ signed true b) n
  by (inl less) _ = rw (lt-ltb (a * c) (b * c) (mul-lt-mul_of_pos_right less some), apart b a c) (rounded true (b - a) c n (pos a +ℤ signed true b) some (omega arith) small (omega (arith, ints, less)))
  by (inr least) _ = rw (le-ltb (a * c) (b * c) (mul-le-mul_right c least), apart a b c) (rounded false (a - b) c n (pos a +ℤ signed true b) some (omega arith) small (omega (arith, ints, least)))
sum_whole true false a b c n some within small = by (cases_lt a b) (cases_lt b a) where
  by : (a < b) ⊎ (b ≤ a) → (b < a) ⊎ (a ≤ b) → IsWhole (sum binary64 true (a * c) false (b * c) c) (signed true a +ℤ pos b) n
  by (inl less) _ = rw (lt-ltb (a * c) (b * c) (mul-lt-mul_of_pos_right less some), apart b a c) (rounded false (b - a) c n (signed true a +ℤ pos b) some (omega arith) small (omega (arith, ints, less)))
  by (inr _) (inl more) = rw (le-ltb (a * c) (b * c) (mul-le-mul_right c (le_of_lt more)), lt-ltb (b * c) (a * c) (mul-lt-mul_of_pos_right more some), apart a b c) (rounded true (a - b) c n (signed true a +ℤ pos b) some (omega arith) small (omega (arith, ints, more)))
  by (inr most) (inr least) = rw (le-ltb (a * c) (b * c) (mul-le-mul_right c most), le-ltb (b * c) (a * c) (mul-le-mul_right c least), apart a b c) (rounded false (a - b) c n (signed true a +ℤ pos b) some (omega arith) small (omega (arith, ints, most, least)))

add_whole : (x y : Float) (z w : ℤ) (m n : ℕ) → IsWhole x z m → IsWhole y w n → m + n ≤ 2 ^ 53 → IsWhole (add binary64 x y) (z +ℤ w) (m + n)
unfolding add
add_whole nan y z w m n (s, a, is_x, _, _) is_y small = absurd is_x
add_whole (inf u) y z w m n (s, a, is_x, _, _) is_y small = absurd is_x
add_whole (fin u k e) nan z w m n is_x (t, b, is_y, _, _) small = absurd is_y
add_whole (fin u k e) (inf v) z w m n is_x (t, b, is_y, _, _) small = absurd is_y
add_whole (fin u k e) (fin v l d) z w m n (s, a, (u_is, left), z_is, within_m) (t, b, (v_is, right), w_is, within_n) small =
    rw (u_is, v_is, scale k a e d left, scale l b d e right, mul_comm (down d) (down e), z_is, w_is)
    (sum_whole s t a b (down e * down d) (m + n) (mul-pos (down_pos e) (down_pos d)) (omega arith) small)

of_int_whole : (z : ℤ) → unsigned_abs z ≤ 2 ^ 53 → IsWhole (of_int binary64 z) z (unsigned_abs z)
unfolding of_int
of_int_whole (pos a) small = (false, a, round_whole binary64 false a small, refl, omega arith)
of_int_whole (negsuc a) small = (true, suc a, round_whole binary64 true (suc a) small, omega (arith, ints), omega arith)

-- Two lists in a row, read as others.
split_map : {A B : Type 0} (f : A → B) (xs ys : List B) (zs : List A) → xs ++ ys ≡ map f zs → (us : List A) × (vs : List A) × (zs ≡ us ++ vs) × (xs ≡ map f us) × (ys ≡ map f vs)
split_map f [] ys zs is = ([], zs, refl, refl, is)
split_map f (x ∷ xs) ys [] is = absurd (let none : x ∷ xs ++ ys ≡ [] = is in cc)
split_map f (x ∷ xs) ys (z ∷ zs) is =
    let first : x ≡ f z = let all : x ∷ xs ++ ys ≡ f z ∷ map f zs = is in cc in
    let rest : xs ++ ys ≡ map f zs = let all : x ∷ xs ++ ys ≡ f z ∷ map f zs = is in cc in
    let (us, vs, parts, left, right) = split_map f xs ys zs rest in
    (z ∷ us, vs, ap (λ ws. z ∷ ws) parts, ap₂ (λ w ws. w ∷ ws) first left, right)

minus_zero : neg (from_bits binary64 0) ≡ fin true 0 (pos 0)
unfolding neg of_bits
minus_zero = refl

-- By induction: brackets of whole numbers come to their sum.
value_whole : (s : Bracketed) (ns : List ℤ) → numbers s ≡ map (of_int binary64) ns → sum_by unsigned_abs ns ≤ 2 ^ 53 → IsWhole (value s) (total ns) (sum_by unsigned_abs ns)
value_whole Bracketed.nothing [] is small = rw minus_zero (true, 0, (refl, refl), refl, omega arith)
value_whole Bracketed.nothing (n ∷ ns) is small = absurd (let none : [] ≡ of_int binary64 n ∷ map (of_int binary64) ns = is in cc)
value_whole (Bracketed.one x) [] is small = absurd (let none : x ∷ [] ≡ [] = is in cc)
value_whole (Bracketed.one x) (n ∷ []) is small =
    let same : x ≡ of_int binary64 n = let all : x ∷ [] ≡ of_int binary64 n ∷ [] = is in cc in
    let (s, a, is_n, n_is, within) = of_int_whole n (omega (arith, small)) in
    rw same (s, a, is_n, omega (arith, ints, n_is), omega (arith, within))
value_whole (Bracketed.one x) (n ∷ k ∷ ns) is small = absurd (let none : x ∷ [] ≡ of_int binary64 n ∷ of_int binary64 k ∷ map (of_int binary64) ns = is in cc)
value_whole (Bracketed.both s t) ns is small =
    let (ks, ms, parts, left, right) = split_map (of_int binary64) (numbers s) (numbers t) ns is in
    let few = rw parts at small in
    let both = sum_by-append unsigned_abs ks ms in
    rw (parts, total-append ks ms, both)
    (add_whole (value s) (value t) (total ks) (total ms) (sum_by unsigned_abs ks) (sum_by unsigned_abs ms)
    (value_whole s ks left (omega (arith, few, both))) (value_whole t ms right (omega (arith, few, both))) (omega (arith, few, both)))

-- Equal whole numbers have equal sizes, and equal signs but for 0.
same_signed : (s t : Bool) (a b : ℕ) → signed s a ≡ signed t b → (a ≡ b) × T (beq s t || eqb a 0)
same_signed false false a b is = (omega (arith, ints, is), tt)
same_signed true true a b is = (omega (arith, ints, is), tt)
same_signed false true a b is = let none : a ≡ 0 = omega (arith, ints, is) in (omega (arith, ints, is), rw none tt)
same_signed true false a b is = let none : a ≡ 0 = omega (arith, ints, is) in (omega (arith, ints, is), rw none tt)

scaled : (s t : Bool) (a c : ℕ) → T (beq s t || eqb a 0) → T (beq s t || eqb (a * c) 0)
scaled false false a c is = tt
scaled true true a c is = tt
scaled false true a c is = let none : a * c ≡ 0 = rw (eqb→eq a 0 is) (zero-mul c) in rw none tt
scaled true false a c is = let none : a * c ≡ 0 = rw (eqb→eq a 0 is) (zero-mul c) in rw none tt

equal : (x y : Float) (z : ℤ) (m n : ℕ) → IsWhole x z m → IsWhole y z n → T (eq x y)
unfolding eq
equal nan y z m n (s, a, is_x, _, _) is_y = absurd is_x
equal (inf u) y z m n (s, a, is_x, _, _) is_y = absurd is_x
equal (fin u k e) nan z m n is_x (t, b, is_y, _, _) = absurd is_y
equal (fin u k e) (inf v) z m n is_x (t, b, is_y, _, _) = absurd is_y
equal (fin u k e) (fin v l d) z m n (s, a, (u_is, left), z_is, _) (t, b, (v_is, right), z_is', _) =
    let (same, signs) = same_signed s t a b (sym z_is ∙ z_is') in
    let c = down e * down d in
    let there : l * up d * down e ≡ a * c = rw same (scale l b d e right ∙ ap (λ i. b * i) (mul_comm (down d) (down e))) in
    rw (u_is, v_is, scale k a e d left, there) (and_i (eqb (a * c) (a * c)) (beq s t || eqb (a * c) 0) (eq→eqb refl) (scaled s t a c signs))

-- A sum is no greater in size than what the sizes add up to.
small : (x : Float) (z : ℤ) (n : ℕ) → IsWhole x z n → unsigned_abs z ≤ n
small x z n (false, a, _, is, within) = rw is within
small x z n (true, zero, _, is, within) = rw is within
small x z n (true, suc a, _, is, within) = let below : z ≡ negsuc a = omega (arith, ints, is) in rw below within

-- Whole numbers whose sizes add up to at most 2 ^ 53 are added without an error.
pub float_sum_of_whole : (ns : List ℤ) {x : Float} → sum_by unsigned_abs ns ≤ 2 ^ 53 → IsFloatSum (map (of_int binary64) ns) x → T (eq x (of_int binary64 (total ns)))
float_sum_of_whole ns {x} few (s, of_ns, is) =
    let added = rw is at (value_whole s ns of_ns few) in
    equal x (of_int binary64 (total ns)) (total ns) (sum_by unsigned_abs ns) (unsigned_abs (total ns)) added (of_int_whole (total ns) (le_trans (small x (total ns) (sum_by unsigned_abs ns) added) few))
