use Rattle.std.proofs.Common.{arith, rules}
use Rattle.std.proofs.lemmas.Int.{to_z-of_z}
use Rattle.ring_uses.proofs.Times.{slice_get-signed_index_at}
use Rattle.ring_uses.proofs.samples.SampleBuffer.at.Goals as goal

pub returns : goal.returns
returns c =
    let same = to_z-of_z _ c.args.time c.ranges.time in
    let distance = rw same at c.unsigned_abs.ensures.value in
    rw (c.copied.ensures, c.get_signed.ensures.value, same, ← c.self.view_is) (slice_get-signed_index_at _ c.args.time (search rules) (omega (arith, distance)))
