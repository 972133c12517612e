use Rattle.ringbuffer.proofs.Words.{◌∙◌, ◌≡◌, ℕ, ◌<◌, List, [], take, arith, Result, Ok, Err, OnOk, OnErr, AppendsResults, FoldsTo, take-nil}
use Rattle.ringbuffer.proofs.grow.GrowableAllocRingBufferRingBuffer.fill_with.Goals as goal

-- what was empty and is filled by calls holds their answers
filled_by : {F X E : Type 0} (step : F → X → F → Type 0) (r : Result (Unit {0}) E) (old new : List X) (n room : ℕ) (f : F) → old ≡ [] → n ≡ room
    → OnOk r (AppendsResults step (take n old) new f) → OnErr r (room < n) → (last : F) × FoldsTo step f new last
filled_by step (Ok done) old new n room f none all made full = let is = rw (none, take-nil n) at made.2 in (made.1, rw is made.3)
filled_by step (Err e) old new n room f none all made full = absurd (omega (arith, full, all))

pub returns-clause-made : goal.returns-clause-made
returns-clause-made g c =
    rw c.from_vec.ensures.items (filled_by _ c.resize_with-filled.result _ _ _ _ c.args.make (c.take_vec-items.ensures.items ∙ c.clear.ensures.items) c.capacity-capacity.ensures c.resize_with-filled.ensures.items c.resize_with-filled.ensures.full)
