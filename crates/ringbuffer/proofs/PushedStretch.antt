-- Pushes up to the last slot, or to the capacity: a stretch of places that goes contiguous on.
use Rattle.ringbuffer.proofs.Words.{common_steps, ◌≡◌, ℕ, ◌<◌, ◌≤◌, ◌+◌, ◌-◌, ◌%◌, Bool, true, false, List, [], ◌∷◌, ◌++◌, if◌then◌else◌, nat_eq, refl, ap, sym, ◌∙◌, arith, length, length-append, mod-eq_of_lt, Slots, Span, View, after_put, after_take, after_extend, after_pushes, view_from, LaysOut, PushesOnto, CanPush, nat_tests}
use Rattle.ringbuffer.proofs.LaysOut.{LaysOut-none, LaysOut-then}
use Rattle.ringbuffer.proofs.SlotsHold.{contiguous_on, count_on}
use Rattle.ringbuffer.proofs.RepeatedSteps.{after_extend-then, after_extend-fits, after_extend-full, after_extend-none, after_push-full}

-- The place after the last goes contiguous on.
pub stays_contiguous : (full : Bool) (span : Span) (end i size : ℕ) → end ≡ (span.start + span.len) % size → end + i < size → let now = after_pushes full span i size in end + i ≡ (now.start + now.len) % size
stays_contiguous full span end i size found low = grind (arith, contiguous_on span.start span.len end size i found low, count_on span.start i span.len (span.len + i) size)

-- These items were pushed, in as many turns of a stretch that began so.
pub record Pushed {X : Type 0} (old : Slots X) (span : Span) (capacity : ℕ) (full : Bool) (now : Slots X) (i : ℕ) (xs : List X) : Type 0 where
  pub long : length xs ≡ i
  pub pushed : PushesOnto old now span (after_pushes full span i (length old.slots)) capacity xs

module _ {X : Type 0} {old : Slots X} {span : Span} {capacity : ℕ} (can : CanPush old span capacity) where
  abbrev v : View X
  v = view_from old span.start

  pub none_yet : (full : Bool) → Pushed old span capacity full old 0 []
  none_yet full =
      let empty = after_extend-none capacity v (omega (arith, can.len, can.within)) in let within = can.laid_out.start_within in
      let stays : (after_pushes full span 0 (length old.slots)).start ≡ span.start = grind (arith, mod-eq_of_lt) in
      record { long = refl; pushed = (rw stays (rw empty at (LaysOut-none old span.start can.laid_out)), grind (arith, can.len, ap (λ (w : View X). length w.items) empty)) }

  -- one push more, where so many fit
  pub one_more : {now new : Slots X} {i count : ℕ} {xs : List X} (x : X) (full : Bool) → full ≡ nat_eq span.len capacity → (full ≡ false → count ≤ capacity - span.len)
      → i < count → Pushed old span capacity full now i xs → let at = after_pushes full span i (length old.slots) in let w = view_from now at.start in
      LaysOut now new (if full then (at.start + 1) % length now.slots else at.start) (if full then after_put (after_take w) x else after_put w x)
      → Pushed old span capacity full new (i + 1) (xs ++ x ∷ [])
  one_more {i = i} {xs = xs} x true is room low so_far step =
      let (after, _) = so_far.pushed in let all : span.len ≡ capacity = grind (arith, nat_tests, is) in
      let most = λ (ys : List X). after_extend-full capacity v ys (sym all ∙ can.len) in
      let is = sym (after_push-full capacity (after_extend capacity v xs) x (most xs) can.some) ∙ after_extend-then capacity v xs (x ∷ []) in
      let place = ap (λ n. ((span.start + i) % length old.slots + 1) % n) after.same_size ∙ count_on span.start i 1 (i + 1) (length old.slots) refl in
      let longer = length-append xs (x ∷ []) in let lies = rw (place, is) at (LaysOut-then (λ w. after_put (after_take w) x) after step) in
      record { long = omega (arith, so_far.long); pushed = (lies, all ∙ sym (most (xs ++ x ∷ []))) }
  one_more {xs = xs} x false is room low so_far step =
      let (after, long) = so_far.pushed in let so_far_long = so_far.long in let held = after_extend capacity v xs in
      let is = after_extend-fits capacity held (x ∷ []) (omega (arith, long, can.within, low, room refl)) ∙ after_extend-then capacity v xs (x ∷ []) in
      record { long = grind (arith, common_steps); pushed = (rw is at (LaysOut-then (λ w. after_put w x) after step), grind (arith, common_steps, ap (λ (w : View X). length w.items) is)) }

-- Some items are pushed, and then others.
pub PushesOnto-then : {X : Type 0} {old now new : Slots X} {at last : Span} (was : Span) (capacity : ℕ) (xs ys : List X)
    → PushesOnto old now was at capacity xs → PushesOnto now new at last capacity ys → PushesOnto old new was last capacity (xs ++ ys)
PushesOnto-then {old = old} was capacity xs ys (first, _) (second, long) =
    let all = rw (after_extend-then capacity (view_from old was.start) xs ys) at (LaysOut-then (λ w. after_extend capacity w ys) first second) in
    (all, long ∙ ap (λ (w : View _). length w.items) (sym second.shows ∙ all.shows))
