use Rattle.ringbuffer.proofs.Conversions.{ap, arith, refl, View, held_on_ok, all_kept, length-somes}
use Rattle.ringbuffer.proofs.array.convert.ConstGenericRingBuffer+T+CAP.from_array.Goals as goal

pub returns : goal.returns
returns g c =
    all_kept g.row.CAP (ap (λ (r : View _). r.items) c.new-ring.ensures) (held_on_ok c.extend_somes.result (c.extend_somes.ensures.succeeds refl) c.extend_somes.ensures.items)
    (omega (arith, length-somes c.args.items c.requires.some, c.extend_somes.ensures.places))
