-- The samples of a window of floating-point numbers.
use Rattle.std.specs.Prelude.{Float, List, map}
use Rattle.window.specs.declared.float_sum.Summand.{Summand}

-- the samples without what is kept beside them
abbrev pub samples : List Summand → List Float
samples ks = map (λ k. k.sample) ks
