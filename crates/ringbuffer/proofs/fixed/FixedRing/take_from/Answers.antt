use Rattle.ringbuffer.proofs.Words.{sym, ◌∙◌}
use Rattle.ringbuffer.proofs.LaysOut.{first_held, first_full, LaysOut-take}
use Rattle.ringbuffer.proofs.fixed.FixedRing.take_from.Goals as goal

-- The start holds the first item.
pub take-requires : goal.take-requires
take-requires g c = first_full _ _ c.requires.laid_out c.requires.some

pub returns : goal.returns
returns g c =
    let r = c.requires in let took = c.take.ensures in
    record { value = sym (first_held _ _ r.laid_out) ∙ took.value; next = c.next-next.ensures; after = LaysOut-take _ _ r.laid_out _ _ r.some c.next-next.ensures took.after }
