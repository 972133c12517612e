-- What a walk over a ring by position reads: at each index below the length, the item that the contents have there.
use Rattle.ring_core.proofs.Words.{◌≡◌, ℕ, suc, ◌+◌, ◌<◌, List, [], ◌∷◌, ◌++◌, length, take, drop, Option, Some, sym, ap, ◌∙◌, Bor, add-one, slice_get, option_copied, option_to_list, get_or_from_slice_get, mod-eq_of_lt, drop-cons, index_at}
use Rattle.std.proofs.Common.{slice_index_or}
use Rattle.ring_core.proofs.Items.{take-suc_get}

-- a position below the length is the index itself
pub slice_get-index_at : {A : Type 0} (xs : List A) (i : ℕ) → i < length xs → slice_get xs (index_at (length xs) i) ≡ slice_get xs i
slice_get-index_at xs i below = ap (slice_get xs) (mod-eq_of_lt below)

-- the items of a slice from an index on begin with the one there
pub drop_at : {A : Type 0} (ys : List A) (i : ℕ) (y : A) → i < length ys → y ≡ slice_index_or ys i y → drop i ys ≡ y ∷ drop (i + 1) ys
drop_at ys i y below is = rw add-one (drop-cons ys i y below ∙ ap (λ x. x ∷ drop (suc i) ys) (sym is))

module _ {A : Type 0} (xs : List A) (i : ℕ) (o : Option (Bor A)) (x : Bor A) (below : i < length xs)
    (copied : option_copied o ≡ slice_get xs (index_at (length xs) i)) (is_some : o ≡ Some x) where
  -- what `get` at an index below the length answers is the item there
  pub read_at : slice_get xs i ≡ Some x.now
  read_at = sym (slice_get-index_at xs i below) ∙ sym copied ∙ ap option_copied is_some

  -- the items up to and with the one just read
  pub take_read : take (i + 1) xs ≡ take i xs ++ x.now ∷ []
  take_read = rw add-one (take-suc_get xs i ∙ ap (λ r. take i xs ++ option_to_list r) read_at)

  -- the items from the one just read on
  pub drop_read : drop i xs ≡ x.now ∷ drop (i + 1) xs
  drop_read = rw add-one (drop-cons xs i x.now below ∙ ap (λ y. y ∷ drop (suc i) xs) (get_or_from_slice_get xs i x.now x.now read_at))
