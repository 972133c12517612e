use Rattle.ring_core.proofs.Words.{◌≡◌, None, replicate, take}
use Rattle.ring_core.proofs.runs.empty.Given as goal

-- the places passed so far hold `None`
abbrev pub invariant-loop-place : goal.invariant-loop-place
invariant-loop-place g l = take l.place-index l.replies ≡ replicate l.place-index None
