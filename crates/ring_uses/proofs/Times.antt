-- What a position from the end names.
use Rattle.std.proofs.Common.{◌≡◌, ◌+◌, ◌-◌, ◌≤◌, List, length, ℤ, pos, negsuc, ◌<ℤ◌, reverse, slice_get, refl, arith}
use Rattle.std.specs.Prelude.{unsigned_abs}
use Rattle.std.proofs.Math.Nat.{mod-eq_of_lt}
use Rattle.std.proofs.lemmas.Int.{ints}
use Rattle.std.proofs.lemmas.List.{get_or-reverse, length-reverse}
use Rattle.std.proofs.lemmas.Option.{slice_get-get_or}
use Rattle.ringbuffer.specs.Contents.{signed_index_at}
use Rattle.ring_uses.specs.Signal.{sample_at}

-- within the samples, a position from the end names the sample at that time
pub slice_get-signed_index_at : (samples : List ℤ) (time : ℤ) → time <ℤ pos 0 → unsigned_abs time ≤ length samples → slice_get samples (signed_index_at (length samples) time) ≡ sample_at samples time
slice_get-signed_index_at samples (pos n) before within = absurd (omega (arith, ints))
slice_get-signed_index_at samples (negsuc n) before within =
    let place : length samples - (1 + n) ≡ length samples - 1 - n = omega arith in
    rw (mod-eq_of_lt {n = n} {m = length samples} (omega arith), place, slice_get-get_or samples (length samples - 1 - n) (pos 0) (omega arith), slice_get-get_or (reverse samples) n (pos 0) (omega (arith, length-reverse samples)), get_or-reverse samples n (pos 0) (omega arith)) refl
