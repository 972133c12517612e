-- the costs so far are added up
use Rattle.std.proofs.Common.{◌≡◌, map, sum}
use Rattle.ring_uses.proofs.everyday.total_cost.Given as goal

abbrev pub invariant-loop-cost : goal.invariant-loop-cost
invariant-loop-cost g l = l.total ≡ sum (map (λ cost. cost.now) l.yielded)
