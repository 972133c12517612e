-- Where the items of a ring of a fixed capacity lie once others were pushed.
use Rattle.std.specs.Prelude.{◌≡◌, ℕ, List, length}
use Rattle.ring_slots.specs.Slots.{Slots}
use Rattle.ringbuffer.specs.Layout.{LaysOut, view_from}
use Rattle.ringbuffer.specs.View.{after_extend}
use Rattle.ringbuffer.specs.declared.fixed.Span.{Span}

-- these were pushed, up to a capacity, onto the items that lay where the first span says, and all lie where the second says now
abbrev pub PushesOnto : {X : Type 0} → Slots X → Slots X → Span → Span → ℕ → List X → Type 0
PushesOnto old new was now capacity xs =
    LaysOut old new now.start (after_extend capacity (view_from old was.start) xs) × (now.len ≡ length (after_extend capacity (view_from old was.start) xs).items)
