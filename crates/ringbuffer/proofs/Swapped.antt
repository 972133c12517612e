-- Two items of a ring in each other's place.
use Rattle.ringbuffer.proofs.Words.{◌≡◌, ◌≢◌, ℕ, ◌+◌, ◌%◌, ◌<◌, List, length, refl, sym, ◌∙◌, arith, common_steps, None, Some, if◌then◌else◌, get_or, get_or-set_other, get_or-set_same, length-set, mod-lt, nat_eq, set, slice_get, slice_get_cases, Slots, IsFullAt, changed, slot_at, after_swap, items_from, view_from, IsLaidOut, LaysOut, nat_tests, swap_is, get_or_from_slice_get}
use Rattle.ringbuffer.proofs.SlotsHold.{same_count}
use Rattle.ringbuffer.proofs.LaysOut.{LaysOut-items, slice_get_some}

module _ {X : Type 0} (s : Slots X) (start i j a b : ℕ) (laid_out : IsLaidOut s start) (i_low : i < length (items_from s.slots start)) (j_low : j < length (items_from s.slots start)) (apart : i ≢ j)
    (a_is : a ≡ (start + i) % length s.slots) (b_is : b ≡ (start + j) % length s.slots) where
  abbrev items : List X
  items = items_from s.slots start

  -- where one is taken, the other is still there
  b_holds : slot_at (changed s a None) b ≡ slice_get items j
  b_holds = grind (arith, a_is, b_is, laid_out.fit, same_count start i j (length s.slots) laid_out.start_within, apart, laid_out.layout j, get_or-set_other)

  pub other_full : (taken : Slots X) → taken ≡ changed s a None → IsFullAt taken b
  other_full taken is = rw (is, b_holds) (slice_get_some items j j_low)

  -- one taken, put where the other was, and the other put where it was
  pub LaysOut-swap : (taken new : Slots X) (x y : X) → taken ≡ changed s a None → slot_at s a ≡ Some x → slot_at taken b ≡ Some y → new ≡ changed (changed taken b (Some x)) a (Some y)
      → LaysOut s new start (after_swap i j (view_from s start))
  LaysOut-swap taken new x y gone x_was y_was is =
      let fit = laid_out.fit in let starts = laid_out.start_within in let size = length s.slots in
      let y_is : get_or items j x ≡ y = get_or_from_slice_get items j y x (sym b_holds ∙ rw gone at y_was) in
      let x_is : get_or items i x ≡ x = get_or_from_slice_get items i x x (sym (laid_out.layout i (omega arith)) ∙ rw a_is at x_was) in
      let three : s.changes + 1 + 1 + 1 ≡ s.changes + (if nat_eq i j then 0 else 3) = grind (arith, apart) in
      rw (is, gone, ← three, ← swap_is items i j x i_low j_low, y_is, x_is)
      (LaysOut-items s start laid_out (changed (changed (changed s a None) b (Some x)) a (Some y)) start (set (set items i y) j x) (simp length-set) refl starts (simp length-set fit) (λ k within.
      let low : k < size = simp length-set at within in let fields = laid_out.layout k low in
      let at_i = same_count start k i size starts low in let at_j = same_count start k j size starts low in
      let read : slice_get (set (set items i y) j x) k ≡ (if nat_eq k j then Some x else (if nat_eq k i then Some y else slice_get items k)) = grind (arith, nat_tests, common_steps, slice_get_cases) in
      simp length-set (grind (arith, nat_tests, a_is, b_is, fields, at_i, at_j, read, mod-lt, length-set, get_or-set_same, get_or-set_other))))
