-- Two runs worked out by item numbers: the numbers held after each step, what is left, and what is answered.
use Rattle.ring_core.proofs.Words.{◌≡◌, ℕ, List, [], ◌∷◌, map, None, Some, refl, range_with_len, Command, Push, Dequeue, Clear, contents_after, held_numbers, replies_of, steps}
use Rattle.ring_core.specs.declared.command.Reply.TheVariants.{Pushed, Dequeued, Cleared}

-- with capacity 3 item 0 is taken before the push of number 3, which overwrites nothing; that of number 4 overwrites item 1
abbrev pub with_dequeue : List (Command ℕ)
with_dequeue = Push 0 ∷ Push 1 ∷ Dequeue ∷ Push 2 ∷ Push 3 ∷ Push 4 ∷ []

pub with_dequeue-worked : (map (held_numbers (Some 3) [] (steps with_dequeue)) (range_with_len 0 7)
    ≡ [] ∷ (0 ∷ []) ∷ (0 ∷ 1 ∷ []) ∷ (1 ∷ []) ∷ (1 ∷ 2 ∷ []) ∷ (1 ∷ 2 ∷ 3 ∷ []) ∷ (2 ∷ 3 ∷ 4 ∷ []) ∷ [])
    × (contents_after (Some 3) [] with_dequeue ≡ 2 ∷ 3 ∷ 4 ∷ [])
    × (replies_of (Some 3) [] with_dequeue ≡ Pushed None ∷ Pushed None ∷ Dequeued (Some 0) ∷ Pushed None ∷ Pushed None ∷ Pushed (Some 1) ∷ [])
with_dequeue-worked = (refl, refl, refl)

-- with capacity 2 all are gone before the pushes of numbers 2 and 3, which overwrite nothing; that of number 4 overwrites item 2
abbrev pub with_clear : List (Command ℕ)
with_clear = Push 0 ∷ Push 1 ∷ Clear ∷ Push 2 ∷ Push 3 ∷ Push 4 ∷ []

pub with_clear-worked : (map (held_numbers (Some 2) [] (steps with_clear)) (range_with_len 0 7)
    ≡ [] ∷ (0 ∷ []) ∷ (0 ∷ 1 ∷ []) ∷ [] ∷ (2 ∷ []) ∷ (2 ∷ 3 ∷ []) ∷ (3 ∷ 4 ∷ []) ∷ [])
    × (contents_after (Some 2) [] with_clear ≡ 3 ∷ 4 ∷ [])
    × (replies_of (Some 2) [] with_clear ≡ Pushed None ∷ Pushed None ∷ Cleared ∷ Pushed None ∷ Pushed None ∷ Pushed (Some 2) ∷ [])
with_clear-worked = (refl, refl, refl)
