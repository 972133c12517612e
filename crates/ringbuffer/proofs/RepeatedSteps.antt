-- What steps repeated come to, and items that go round a ring.
use Rattle.ringbuffer.proofs.Words.{slice_get_cases, ext_get_or, drop-cons, take-suc, rotated, after_firsts_to_back, after_lasts_to_front, elements, get_or_from_slice_get, common_steps, ◌≡◌, ℕ, suc, ◌+◌, ◌-◌, ◌<◌, ◌≤◌, List, Some, ap, sym, ◌∙◌, [], ◌++◌, length, take, refl, arith, append_assoc, append-nil, length-append, option_to_list, slice_get, drop-length, drop_min, take_all, View, after_put, after_puts, after_take, after_takes, after_clear, after_pop, after_push, after_push_front, after_put_first, after_extend, after_extend_from_slice, after_keep_newest, keep_last, drop-append, take-suc_get, keep_last-keep_last}

-- two views are equal part by part
pub view_is : {X : Type 0} {v w : View X} → v.items ≡ w.items → v.changes ≡ w.changes → v.capacity ≡ w.capacity → v ≡ w
view_is items changes capacity = λ i. record { items = items i; changes = changes i; capacity = capacity i }

module _ {X : Type 0} where
  -- the last item after those before it makes all items
  pub last_behind : (xs : List X) → take (length xs - 1) xs ++ option_to_list (slice_get xs (length xs - 1)) ≡ xs
  last_behind xs = let last = length xs - 1 in sym (take-suc_get xs last) ∙ take_all (suc last) xs (omega arith)

  pub after_takes-all : (k : ℕ) (v : View X) → k ≡ length v.items → after_takes k v ≡ after_clear v
  after_takes-all k v all = rw (all, drop-length v.items) refl

  pub after_puts-then : (xs ys : List X) (v : View X) → after_puts ys (after_puts xs v) ≡ after_puts (xs ++ ys) v
  after_puts-then xs ys v = view_is (append_assoc v.items xs ys) (omega (arith, length-append xs ys)) refl

  -- a push where there is no room
  pub after_push-full : (capacity : ℕ) (v : View X) (x : X) → length v.items ≡ capacity → 0 < capacity → after_push capacity v x ≡ after_put (after_take v) x
  after_push-full capacity v x full some = view_is (grind (arith, common_steps)) (omega arith) refl

  -- a push in front where there is no room
  pub after_push_front-full : (capacity : ℕ) (v : View X) (x : X) → length v.items ≡ capacity → 0 < capacity → after_put_first (after_pop v) x ≡ after_push_front capacity v x
  after_push_front-full capacity v x full some = let more : capacity ≡ suc (length v.items - 1) = omega arith in view_is (rw more refl) (omega arith) refl

  -- one extension, and then another
  pub after_extend-then : (capacity : ℕ) (v : View X) (xs ys : List X) → after_extend capacity (after_extend capacity v xs) ys ≡ after_extend capacity v (xs ++ ys)
  after_extend-then capacity v xs ys =
      view_is (keep_last-keep_last (Some capacity) (v.items ++ xs) ys ∙ ap (keep_last (Some capacity)) (append_assoc v.items xs ys)) (grind (arith, common_steps)) refl

  -- an extension by items that fit
  pub after_extend-fits : (capacity : ℕ) (v : View X) (xs : List X) → length v.items + length xs ≤ capacity → after_puts xs v ≡ after_extend capacity v xs
  after_extend-fits capacity v xs fits = view_is (grind (arith, common_steps)) (omega arith) refl

  pub after_extend-none : (capacity : ℕ) (v : View X) → length v.items ≤ capacity → v ≡ after_extend capacity v []
  after_extend-none capacity v fits = view_is (sym (append-nil v.items)) (omega arith) refl ∙ after_extend-fits capacity v [] (omega arith)

  -- a ring that holds as many as it may holds as many after an extension
  pub after_extend-full : (capacity : ℕ) (v : View X) (ys : List X) → capacity ≡ length v.items → length (after_extend capacity v ys).items ≡ capacity
  after_extend-full capacity v ys full = grind (arith, common_steps)

  pub length-rotated : (n : ℕ) (xs : List X) → n ≤ length xs → length (rotated n xs) ≡ length xs
  length-rotated n xs low = grind (arith, common_steps)

  -- a turn by the others brings each item back
  pub rotated_back : (n : ℕ) (xs ys : List X) → n ≤ length xs → ys ≡ rotated n xs → rotated (length ys - n) ys ≡ xs
  rotated_back n xs ys low is = rw is (grind (arith, common_steps))

  pub after_firsts_to_back-more : (n : ℕ) (v : View X) (x : X) → n < length v.items → slice_get (rotated n v.items) 0 ≡ Some x → after_put (after_take (after_firsts_to_back n v)) x ≡ after_firsts_to_back (n + 1) v
  after_firsts_to_back-more n v x low first =
      let behind = drop-cons v.items n x low in let before = take-suc v.items n x low in
      view_is (grind (arith, common_steps, slice_get_cases, behind, before)) (grind (arith, common_steps)) refl

  -- one more item goes from the back to the front
  pub after_lasts_to_front-more : (n : ℕ) (v : View X) (x : X) → n < length v.items → slice_get (rotated (length v.items - n) v.items) (length v.items - 1) ≡ Some x
      → after_put_first (after_pop (after_lasts_to_front n v)) x ≡ after_lasts_to_front (n + 1) v
  after_lasts_to_front-more n v x low last =
      let is = get_or_from_slice_get (rotated (length v.items - n) v.items) (length v.items - 1) x x last in
      view_is (ext_get_or x _ _ (grind (arith, common_steps)) (λ k below. grind (arith, elements, is))) (grind (arith, common_steps)) refl

  module _ (limit : ℕ) (v : View X) (xs newest : List X) (is : newest ≡ keep_last (Some limit) xs) where
    -- a slice pushed: the newest items kept that leave room for what the limit leaves of it, and then that put
    pub after_extend_from_slice-by : after_puts newest (after_keep_newest (limit - length newest) v) ≡ after_extend_from_slice limit v xs
    after_extend_from_slice-by =
        view_is (rw is (grind (arith, common_steps, drop-append (length (v.items ++ xs) - limit) v.items xs, drop_min))) (rw is (grind (arith, common_steps))) refl

    -- what the limit leaves of a slice, pushed in order
    pub after_extend-newest : after_extend limit v newest ≡ after_extend_from_slice limit v xs
    after_extend-newest =
        view_is (rw is (grind (arith, common_steps, drop-append (length (v.items ++ xs) - limit) v.items xs, drop_min))) (rw is (grind (arith, common_steps))) refl
