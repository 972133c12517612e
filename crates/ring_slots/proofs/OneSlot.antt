-- What slots hold once one place of their row has changed.
use Rattle.ring_slots.proofs.Words.{◌≡◌, ap, false, List, ℕ, ◌<◌, arith, length, get_or, Option, None, Some, set, true, ext_get_or, length-set, common_steps, slice_get_cases, SamePlaces, slots_filled, slots_items, slots_len, slice_get, Row, HoldsRow}
use Rattle.std.proofs.Common.{get_or-set_same, get_or-set_other}
use Rattle.std.proofs.lemmas.Bool.{cases_eq}

module _ {X : Type 0} (old new : List (Option X)) (before after : Row X) (size place : ℕ) (all : size ≡ length old) (within : place < length old)
    (had : HoldsRow old before size) (has : HoldsRow new after size) (places : SamePlaces before after) (items_long : slots_len before ≡ length (slots_items before)) (filled_long : slots_len before ≡ length (slots_filled before)) where
  -- an item was put there
  pub put_there : (x : X) → slots_items after ≡ set (slots_items before) place x → slots_filled after ≡ set (slots_filled before) place true → new ≡ set old place (Some x)
  put_there x items filled =
      let was_long = had.size in let is_long = has.size in let same = places.count in
      ext_get_or None new (set old place (Some x)) (omega (arith, length-set old place (Some x))) (λ i low.
      let held = has.held i (omega arith) in let was = had.held i (omega arith) in let reads = ap (λ l. slice_get l i) items in let full = ap (λ l. get_or l i false) filled in
      let long = length-set (slots_items before) place x in
      grind (arith, held, was, reads, full, long, common_steps, slice_get_cases, get_or-set_same, get_or-set_other, cases_eq i place))

  -- the item there was taken
  pub took_there : slots_items after ≡ slots_items before → slots_filled after ≡ set (slots_filled before) place false → new ≡ set old place None
  took_there items filled =
      let was_long = had.size in let is_long = has.size in let same = places.count in
      ext_get_or None new (set old place None) (omega (arith, length-set old place None)) (λ i low.
      let held = has.held i (omega arith) in let was = had.held i (omega arith) in let reads = ap (λ l. slice_get l i) items in let full = ap (λ l. get_or l i false) filled in
      grind (arith, held, was, reads, full, common_steps, slice_get_cases, get_or-set_same, get_or-set_other, cases_eq i place))
