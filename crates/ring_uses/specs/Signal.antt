-- What a contract sees of a buffer of samples.
use Rattle.std.specs.Prelude.{ℕ, ℤ, pos, negsuc, List, Option, None, reverse, slice_get}

-- the samples that are kept, oldest first, how many come in a second, and how many are kept at most
pub record Signal : Type 0 where
  pub samples : List ℤ
  pub rate : ℕ
  pub limit : ℕ

-- the sample at a time, in samples from now: -1 names the newest, and nothing is known of now and later
abbrev pub sample_at : List ℤ → ℤ → Option ℤ
sample_at samples (pos n) = None
sample_at samples (negsuc n) = slice_get (reverse samples) n
