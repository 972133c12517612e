use Rattle.ringbuffer.proofs.Words.{◌≡◌, List, Some, IsLaidOut, SlotsHold, ap, arith, items_from, length, length-map, map, mod-eq_of_lt, refl, rules, sym, ◌∙◌, get_or-map_some}
use Rattle.ringbuffer.proofs.RepeatedSteps.{view_is}
use Rattle.ringbuffer.proofs.SlotsHold.{items_from-SlotsHold}
use Rattle.ringbuffer.proofs.plain.convert.CopyRingBuffer+T+CAP.from_array.Goals as goal

-- Full slots hold all items from the first on.
module _ {X : Type 0} (xs : List X) where
  all_held : SlotsHold (map Some xs) 0 xs
  all_held k low = grind (arith, mod-eq_of_lt, get_or-map_some)

  items_from-all : items_from (map Some xs) 0 ≡ xs
  items_from-all = items_from-SlotsHold (map Some xs) 0 xs all_held (omega (arith, length-map xs Some))

pub from_parts-requires : goal.from_parts-requires
from_parts-requires g c =
    let items = c.args.items in let long : length items ≡ g.row.CAP = search rules in let is = items_from-all items in let mapped = length-map items Some in
    let lies : IsLaidOut _ 0 = record { start_within = omega (arith, c.requires, long, mapped); fit = rw is (omega (arith, mapped)); layout = rw is (all_held items) } in
    rw c.holding.ensures (record { laid_out = lies; counted = sym (ap length is ∙ long); some = c.requires; within = omega arith; room = omega (arith, long, mapped) })

pub returns : goal.returns
returns g c = c.from_parts.ensures ∙ rw c.holding.ensures (view_is (items_from-all c.args.items) refl refl)
