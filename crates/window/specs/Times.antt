-- Items with stamps, and which of them are too old.
use Rattle.std.specs.Prelude.{ℕ, List, drop, nat_lt}
use Rattle.std.specs.List.{prefix_len}
use Rattle.window.specs.declared.time_window.Stamped.{Stamped}

-- the items without the oldest ones that came before a time, up to the first that didn't
abbrev pub without_older : {T : Type 0} → ℕ → List (Stamped T) → List (Stamped T)
without_older time xs = drop (prefix_len (λ x. nat_lt x.stamp time) xs) xs
