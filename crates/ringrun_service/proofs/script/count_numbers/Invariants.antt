-- Each number takes a byte at least, and those so far come before those at what is left.
use Rattle.std.proofs.Common.{◌≡◌, ◌+◌, ◌≤◌, ◌++◌, ℤ, List, ℕ, length}
use Rattle.ringrun_service.specs.Parsing.{NumbersAt}
use Rattle.ringrun_service.proofs.script.count_numbers.Given as goal

abbrev pub invariant-loop-after : goal.invariant-loop-after
invariant-loop-after l =
    (front : List ℤ) × ((numbers : List ℤ) (rest : List ℕ) → NumbersAt l.rest numbers rest → NumbersAt l.text (front ++ numbers) rest) × (length front + length l.rest ≤ length l.text) × (l.count ≡ length front)

abbrev pub decreases-loop-after : goal.decreases-loop-after
decreases-loop-after l = length l.rest
