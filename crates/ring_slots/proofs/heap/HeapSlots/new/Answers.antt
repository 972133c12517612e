use Rattle.ring_slots.proofs.Words.{rules, ap, arith, length, None, sym, ◌≡◌, ◌<◌, ◌∙◌, length-replicate}
use Rattle.ring_slots.proofs.heap.HeapSlots.new.Goals as goal

-- The block has as many slots as the power of two says.
pub invariant_of-result : goal.invariant_of-result
invariant_of-result g c =
    let size = c.next_power_of_two-size.result in
    let (at, slots, deed_at, deed_len, deed_alloc) = c.in_ok-ptr.ensures in
    let long : length c.in_ok-ptr.owner.slots ≡ size = ap length slots ∙ length-replicate size None in
    let some : 0 < size = search rules in
    let power = c.next_power_of_two-size.ensures in
    (omega (arith, long, some), search rules, rw long (power.power, power.lower_bound, power.upper_bound), (at, deed_at, deed_len ∙ sym long, deed_alloc))
