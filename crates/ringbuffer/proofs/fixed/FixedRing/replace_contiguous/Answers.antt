use Rattle.ringbuffer.proofs.Words.{drop-append-le, drop-drop, take-suc_get, ◌≡◌, ◌+◌, ◌%◌, ◌<◌, ◌≤◌, ◌∙◌, ℕ, IsFullAt, LaysOut, List, None, Slots, Some, View, after_put, after_puts, after_take, after_takes, ap, append-nil, arith, changed, common_steps, slice_get_cases, drop, items_from, length, length-drop, mod-eq_of_lt, refl, slice_get, subst, sym, take, take_all, view_from, slice_get_read}
use Rattle.ringbuffer.proofs.LaysOut.{LaysOut-none, LaysOut-replace, LaysOut-then, first_full}
use Rattle.ringbuffer.proofs.RepeatedSteps.{view_is}
use Rattle.ringbuffer.proofs.SlotsHold.{count_none}
use Rattle.ringbuffer.proofs.fixed.FixedRing.replace_contiguous.Goals as goal

puts_more : {X : Type 0} (v : View X) (xs : List X) (k : ℕ) (x : X) → k < length v.items → slice_get xs k ≡ Some x
    → after_put (after_take (after_puts (take k xs) (after_takes k v))) x ≡ after_puts (take (k + 1) xs) (after_takes (k + 1) v)
puts_more v xs k x low is =
    let left = length-drop k v.items in let others = drop-append-le 1 (drop k v.items) (take k xs) (omega arith) in
    view_is (grind (arith, common_steps, slice_get_cases, take-suc_get xs k, drop-drop 1 k v.items)) (grind (arith, common_steps, slice_get_cases)) refl

-- the next slot holds the oldest item still, and one more is put in its place
module _ {X : Type 0} (s mid : Slots X) (start k : ℕ) (xs : List X) (full : length (items_from s.slots start) ≡ length s.slots) (contiguous : start + length xs ≤ length s.slots) (low : k < length xs)
    (so_far : LaysOut s mid ((start + k) % length s.slots) (after_puts (take k xs) (after_takes k (view_from s start)))) where
  lies : LaysOut s mid (start + k) (after_puts (take k xs) (after_takes k (view_from s start)))
  lies = let here : (start + k) % length s.slots ≡ start + k = mod-eq_of_lt (omega arith) in rw here at so_far

  still_full : length (items_from mid.slots (start + k)) ≡ length mid.slots
  still_full = let long = ap (λ (w : View X). length w.items) lies.shows in grind (arith, common_steps, lies.same_size)

  oldest_full : IsFullAt mid (start + k)
  oldest_full = let within = lies.laid_out.start_within in first_full mid (start + k) lies.laid_out (omega (arith, still_full))

  replaced_more : (new : Slots X) (x : X) → slice_get xs k ≡ Some x → new ≡ changed (changed mid (start + k) None) (start + k) (Some x)
      → LaysOut s new ((start + (k + 1)) % length s.slots) (after_puts (take (k + 1) xs) (after_takes (k + 1) (view_from s start)))
  replaced_more new x is put =
      let both = LaysOut-then (λ w. after_put (after_take w) x) lies (LaysOut-replace mid new (start + k) x lies.laid_out still_full put) in
      let next : start + k + 1 ≡ start + (k + 1) = omega arith in
      rw (lies.same_size, next, puts_more (view_from s start) xs k x (omega (arith, full)) is) at both

pub loop-k-init : goal.loop-k-init
loop-k-init g c =
    let laid_out = c.requires.span.laid_out in let s = g.S.RingSlots.seen c.args.slots.now in
    rw (← count_none c.args.span.start (length s.slots) laid_out.start_within)
    (subst (LaysOut s s c.args.span.start) (view_is (sym (append-nil _)) (omega arith) refl) (LaysOut-none s c.args.span.start laid_out))

pub discard-requires : goal.discard-requires
discard-requires g c = oldest_full _ _ _ _ _ (sym c.requires.span.len ∙ c.requires.full (omega (arith, c.loop-k-test.true))) c.requires.contiguous c.loop-k-test.true c.loop-k.invariant

pub loop-k-preserved : goal.loop-k-preserved
loop-k-preserved g c =
    let k = c.loop-k.k in let items = c.args.items.now in let x = c.index-items-k.result in
    replaced_more _ _ _ _ _ (sym c.requires.span.len ∙ c.requires.full (omega (arith, c.loop-k-test.true))) c.requires.contiguous c.loop-k-test.true c.loop-k.invariant _ x
    (slice_get_read items (length items) k x refl c.loop-k-test.true c.index-items-k.is) (c.put.ensures ∙ ap (λ v. changed v (c.args.span.start + k) (Some x)) c.discard.ensures)

pub returns : goal.returns
returns g c =
    let items = c.args.items.now in let all : c.loop-k.k ≡ length items = omega (arith, c.loop-k-test.false, c.loop-k.auto) in
    let lies = rw (all, take_all (length items) items (omega arith)) at c.loop-k.invariant in let found = rw lies.same_size at c.place.ensures in
    record { start = found; after = rw found lies }
