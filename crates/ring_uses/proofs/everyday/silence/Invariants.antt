-- the samples so far are zero
use Rattle.std.proofs.Common.{◌≡◌, ℕ, ◌<◌, length, slice_index}
use Rattle.ring_uses.proofs.everyday.silence.Given as goal

abbrev pub invariant-loop-i : goal.invariant-loop-i
invariant-loop-i l = record {
  length : length l.samples.items ≡ length l.fn.samples.items;
  silent : (k : ℕ) → k < l.i → slice_index l.samples.items k ≡ 0;
}
