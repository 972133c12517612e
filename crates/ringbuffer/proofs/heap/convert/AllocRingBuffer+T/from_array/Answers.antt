use Rattle.ringbuffer.proofs.Conversions.{◌≡◌, Some, ap, arith, refl, ◌∙◌, View, held_on_ok, all_kept, length-somes}
use Rattle.ringbuffer.proofs.heap.convert.AllocRingBuffer+T.from_array.Goals as goal

pub returns : goal.returns
returns g c =
    let made = c.in_ok-ring.ensures.made in let room = ap (λ (r : View _). r.capacity) made in
    let limit : Some c.extend_somes.new.ring.capacity ≡ Some c.in_ok-ring.ring.capacity = c.extend_somes.ensures.limit in
    let long = length-somes c.args.items c.requires.some ∙ c.extend_somes.ensures.places in
    let items = held_on_ok c.extend_somes.result (c.extend_somes.ensures.succeeds refl) c.extend_somes.ensures.items in
    (all_kept c.in_ok-ring.ring.capacity (ap (λ (r : View _). r.items) made) items (omega (arith, long, room)), cc (limit, room, long))
