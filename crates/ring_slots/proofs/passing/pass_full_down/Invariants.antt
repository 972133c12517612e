-- the cells hold all items but the one in hand
use Rattle.ring_slots.proofs.Words.{◌≡◌, ◌∷◌, [], ◌++◌, ◌≤◌, None, Some, length, slice_index_or}
use Rattle.ring_slots.proofs.Gap.{without}
use Rattle.ring_slots.proofs.passing.pass_full_down.Given as goal

abbrev pub invariant-loop-at : goal.invariant-loop-at
invariant-loop-at g l =
    let all = l.fn.cells ++ Some l.fn.item ∷ [] in
    (l.cells ≡ without all l.at) × (Some l.passed ≡ slice_index_or all l.at None) × (l.at ≤ length l.fn.cells)

abbrev pub decreases-loop-at : goal.decreases-loop-at
decreases-loop-at g l = l.at
