use Rattle.ringbuffer.proofs.Words.{AllZip-join}
use Rattle.ringbuffer.proofs.two_slices.clone_slices.Goals as goal

-- Clones of the first slice, and then of the second.
pub returns : goal.returns
returns g c =
    let (xs, first, of_first) = c.in_ok-extend_from_slice.ensures.items in let (ys, second, of_second) = c.in_ok-extend_from_slice-2.ensures.items in
    rw (second, first, c.in_ok-clones.ensures.items) (AllZip-join g.T.Clone.is_clone _ _ _ _ of_first of_second)
