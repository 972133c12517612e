-- How often something was done.
use Rattle.std.specs.Prelude.{ℕ, ◌+◌}
use Rattle.window.specs.declared.ghost_count.Times.{Times}

-- this as a number
abbrev pub number : Times → ℕ
number Times.Never = 0
number (Times.OnceMore' _ _ before) = number before + 1
