-- What a push leaves of a window's items before the pushed one, and what a walk reads.
use Rattle.std.proofs.Common.{◌≡◌, ℕ, zero, suc, ◌+◌, ◌-◌, ◌<◌, ◌≤◌, List, [], ◌∷◌, ◌++◌, length, take, drop, Option, None, Some, option_to_list, slice_get, refl, ap, sym, ◌∙◌, arith, length-append}
use Rattle.std.proofs.lemmas.Grind.{common_steps}
use Rattle.std.proofs.lemmas.Option.{slice_get_within}
use Rattle.std.proofs.Math.Nat.{mod-eq_of_lt}
use Rattle.std.specs.Borrow.{Bor}
use Rattle.std.specs.Option.{option_copied}
use Rattle.ringbuffer.specs.Contents.{IsWithin, keep_last, overwritten, index_at}
use Rattle.ringbuffer.proofs.Items.{slice_get-at}

-- what stays of the items as one more comes
pub stay : {A : Type 0} → Option ℕ → List A → List A
stay None xs = xs
stay (Some n) xs = drop (length xs + 1 - n) xs

-- A push leaves those and the pushed item,
pub stay_pushed : {A : Type 0} (limit : Option ℕ) (xs : List A) (x : A) → IsWithin xs limit → keep_last limit (xs ++ x ∷ []) ≡ stay limit xs ++ x ∷ []
unfolding stay
stay_pushed limit xs x within = grind (arith, common_steps)

-- and what it hands back stood before them.
pub stay_behind : {A : Type 0} (limit : Option ℕ) (xs : List A) → IsWithin xs limit → option_to_list (overwritten limit xs) ++ stay limit xs ≡ xs
unfolding stay
stay_behind None xs within = refl
stay_behind {A} (Some n) xs within = split (length xs + 1 - n) xs (omega arith) where
  -- one item at most
  split : (k : ℕ) (ys : List A) → k ≤ 1 → option_to_list (slice_get (take k ys) 0) ++ drop k ys ≡ ys
  split zero ys one = refl
  split (suc zero) [] one = refl
  split (suc zero) (y ∷ ys) one = refl
  split (suc (suc k)) ys one = absurd (omega arith)

-- A list is its first item, if there is one, and the rest.
pub first_and_rest : {A : Type 0} (xs : List A) → option_to_list (slice_get xs 0) ++ drop 1 xs ≡ xs
first_and_rest [] = refl
first_and_rest (x ∷ xs) = refl

-- Something stands at a place below the length.
pub some_read : {A : Type 0} (xs : List A) (i : ℕ) → i < length xs → (x : A) × (slice_get xs i ≡ Some x)
some_read [] i below = absurd (omega arith)
some_read (x ∷ xs) zero below = (x, refl)
some_read (x ∷ xs) (suc i) below = some_read xs i (omega arith)

-- What is read at the last place stands at the end.
pub newest_read : {A : Type 0} (all xs : List A) (x y : A) (n : ℕ) → all ≡ xs ++ x ∷ [] → n ≡ length all → slice_get all (n - 1) ≡ Some y → y ≡ x
newest_read all xs x y n is n_is at =
    let newest : n - 1 ≡ length xs = omega (arith, n_is, ap length is, length-append xs (x ∷ [])) in
    let there : slice_get all (n - 1) ≡ Some x = rw (newest, is) (slice_get-at xs x []) in
    let both : Some y ≡ Some x = sym at ∙ there in
    cc

-- What is read at a place below the length stands there.
pub read_here : {A : Type 0} (xs : List A) (i : ℕ) (o : Option (Bor A)) (x : Bor A) → i < length xs → option_copied o ≡ slice_get xs (index_at (length xs) i) → o ≡ Some x → slice_get xs i ≡ Some x.now
read_here xs i o x below copied is = rw (mod-eq_of_lt below) at (sym copied) ∙ ap option_copied is

-- It is what is known to stand there.
pub read_is : {A : Type 0} (xs : List A) (i : ℕ) (o : Option (Bor A)) (x : Bor A) (y : A) → option_copied o ≡ slice_get xs (index_at (length xs) i) → o ≡ Some x → slice_get xs i ≡ Some y → x.now ≡ y
read_is xs i o x y copied is there =
    let both : Some x.now ≡ Some y = sym (read_here xs i o x (slice_get_within xs i y there) copied is) ∙ there in
    cc

-- What is lent at a place below the length stands there, and is written back there.
pub lent_here : {A : Type 0} (xs : List A) (i : ℕ) (x y : A) → i < length xs → slice_get xs i ≡ Some x → Some y ≡ slice_get xs (index_at (length xs) i) → (x ≡ y) × (index_at (length xs) i ≡ i)
lent_here xs i x y below there lent =
    let here = mod-eq_of_lt below in
    let both : Some x ≡ Some y = sym there ∙ sym (rw here at lent) in
    (cc, here)
