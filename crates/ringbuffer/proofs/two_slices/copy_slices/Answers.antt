use Rattle.ringbuffer.proofs.Words.{arith, refl, sym, append_assoc, drop-drop}
use Rattle.ringbuffer.proofs.PushedClones.{both_taken}
use Rattle.ringbuffer.proofs.two_slices.copy_slices.Goals as goal

-- A beginning of the first slice is copied, and if it is whole one of the second.
pub returns-clause-copied : goal.returns-clause-copied
returns-clause-copied g c =
    let both = both_taken c.min-before.result c.copy_slice.result c.args.items.0.now c.args.items.1.now (omega arith) (λ some. omega arith) in
    rw (c.copy_from_slice.ensures.after, c.copy_slice.ensures.copied, c.split_at_mut-front.ensures.back, sym both, append_assoc _ _ _, drop-drop) refl
