-- Items put at once into slots side by side, after the last or in place of others.
use Rattle.ringbuffer.proofs.Words.{slice_get-take, ext_get_or, get_or-set_same, get_or-set_other, ◌≡◌, ℕ, ◌+◌, ◌-◌, ◌%◌, ◌<◌, ◌≤◌, List, ◌++◌, length, length-take, get_or, set, take, None, Some, ap, refl, ◌∙◌, arith, length-append, common_steps, slice_get, slice_get_cases, slice_get_past, ◌⊎◌, Slots, changed, after_puts, view_from, SlotsHold, items_from, IsLaidOut, LaysOut, slice_get_within, filled, with_items, filled-before, filled-behind, filled-in, length-filled}
use Rattle.ringbuffer.proofs.SlotsHold.{contiguous_on, wrap}
use Rattle.ringbuffer.proofs.LaysOut.{LaysOut-items}

pub with_items-next : {X : Type 0} (s : Slots X) (from : ℕ) (xs : List X) → from + length xs ≤ length s.slots → (k : ℕ) (x : X) → slice_get xs k ≡ Some x
    → changed (with_items s from (take k xs)) (from + k) (Some x) ≡ with_items s from (take (k + 1) xs)
with_items-next s from xs within k x is =
    let low = slice_get_within xs k x is in let a = s.slots in let ys = take k xs in let zs = take (k + 1) xs in
    let few : from + length ys ≤ length a = grind (arith, length-take) in let more : from + length zs ≤ length a = grind (arith, length-take) in
    let next : set (filled a from ys) (from + k) (Some x) ≡ filled a from zs = ext_get_or None _ _ (grind (arith, common_steps)) (λ q below.
    let low_was = filled-before a from ys few q in let was = filled-in a from ys few q in let late_was = filled-behind a from ys few q in
    let low_is = filled-before a from zs more q in let put = filled-in a from zs more q in let late_is = filled-behind a from zs more q in
    grind (arith, length-take, get_or-set_same, get_or-set_other, length-filled a from ys few, low_was, was, late_was, low_is, put, late_is, slice_get-take)) in
    let counted : s.changes + length (take k xs) + 1 ≡ s.changes + length (take (k + 1) xs) = grind (arith, common_steps) in
    λ i. record { slots = next i; changes = counted i; capacity = s.capacity }

module _ {X : Type 0} (s : Slots X) (start : ℕ) (laid_out : IsLaidOut s start) (place len : ℕ) where
  abbrev items : List X
  items = items_from s.slots start

  -- the slots after the last item are empty
  pub empty_behind : (count : ℕ) → len ≡ length items → (0 < count → place ≡ (start + len) % length s.slots) → place + count ≤ length s.slots → len + count ≤ length s.slots
      → (k : ℕ) → k < count → get_or s.slots (place + k) None ≡ None
  empty_behind count counted found contiguous room k low =
      ap (λ p. get_or s.slots p None) (contiguous_on start len place (length s.slots) k (found (omega arith)) (omega arith))
      ∙ laid_out.layout (len + k) (omega arith) ∙ slice_get_past items (len + k) (omega arith)

  module _ (xs : List X) (room : len + length xs ≤ length s.slots) (found : 0 < length xs → place ≡ (start + len) % length s.slots) (contiguous : place + length xs ≤ length s.slots) where
    -- items of which these are the new ones, and the others those that were, are what the ring shows
    module _ (shown : List X) (there : (j : ℕ) → j < length xs → slice_get shown (len + j) ≡ slice_get xs j) (elsewhere : (k : ℕ) → (k < len) ⊎ (len + length xs ≤ k) → slice_get shown k ≡ slice_get items k) where
      lie : SlotsHold (filled s.slots place xs) start shown
      lie k low =
          let size = length s.slots in let within = laid_out.start_within in let low' : k < size = rw (length-filled s.slots place xs contiguous) at low in
          let held = laid_out.layout k low' in let q = (start + k) % size in
          let round = wrap start k size within (omega arith) in let round' = wrap start len size within (omega arith) in
          rw (length-filled s.slots place xs contiguous) (grind (arith, round, round', held, found, filled-before s.slots place xs contiguous q, filled-in s.slots place xs contiguous q, filled-behind s.slots place xs contiguous q, there (k - len), elsewhere k))

      pub LaysOut-filled : (changes : ℕ) → length shown ≤ length s.slots → LaysOut s (record s { slots = filled s.slots place xs; changes = changes }) start (record { items = shown; changes = changes; capacity = s.capacity })
      LaysOut-filled changes fit = LaysOut-items s start laid_out (record s { slots = filled s.slots place xs; changes = changes }) start shown (length-filled s.slots place xs contiguous) refl laid_out.start_within fit lie

  -- items put after the last
  pub LaysOut-puts : (xs : List X) → len ≡ length items → len + length xs ≤ length s.slots → (0 < length xs → place ≡ (start + len) % length s.slots) → place + length xs ≤ length s.slots
      → (new : Slots X) → new ≡ with_items s place xs → LaysOut s new start (after_puts xs (view_from s start))
  LaysOut-puts xs counted room found contiguous new is =
      rw is (LaysOut-filled xs room found contiguous (items ++ xs) (λ j low. grind (arith, common_steps, slice_get_cases)) (λ k other. grind (arith, common_steps, slice_get_cases)) (s.changes + length xs) (omega (arith, length-append items xs)))
