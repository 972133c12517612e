use Rattle.std.proofs.Common.{◌∷◌, ◌++◌, [], Some, None, refl}
use Rattle.ringbuffer.specs.Contents.{keep_last}
use Rattle.window.proofs.Mapped.{map-overwritten, map-pushed}
use Rattle.window.proofs.TwoStacks.{one_fewer, pushed}
use Rattle.window.proofs.two_stacks.WindowFolded.push.Goals as goal

-- The oldest item was the first of the older ones, and the pushed one comes last.
pub invariant_of-self : goal.invariant_of-self
invariant_of-self g c =
    let ks = g.R.RingBuffer.contents c.self.inside.ring in
    let limit = g.R.RingBuffer.limit c.self.inside.ring in
    let leaves = rw c.in-Ok-Some.field-0-is at c.in-Ok-Some.ensures.overwrites in
    rw (c.in-Ok-Some.ensures.ok, c.remove_oldest.ensures.older, c.remove_oldest.ensures.newer)
    (one_fewer {ks = keep_last limit (ks ++ c.new.result ∷ [])} (pushed limit (Some c.in-Ok-Some.oldest) ks c.new.result c.push.ensures.within leaves c.self.invariant
    (λ xs is. rw c.new.ensures (c.combined-newer.ensures.both xs (c.args.item ∷ []) is c.combined-newer.ensures.later))) c.remove_oldest.ensures.folded)

pub invariant_of-self-in-Ok-None : goal.invariant_of-self-in-Ok-None
invariant_of-self-in-Ok-None g c =
    let ks = g.R.RingBuffer.contents c.self.inside.ring in
    let limit = g.R.RingBuffer.limit c.self.inside.ring in
    let leaves = rw c.in-Ok-None.field-0-is at c.in-Ok-None.ensures.overwrites in
    rw c.in-Ok-None.ensures.ok
    (pushed limit None ks c.new.result c.push.ensures.within leaves c.self.invariant
    (λ xs is. rw c.new.ensures (c.combined-newer.ensures.both xs (c.args.item ∷ []) is c.combined-newer.ensures.later)))

pub returns-in-Ok-Some-clause-overwrites : goal.returns-in-Ok-Some-clause-overwrites
returns-in-Ok-Some-clause-overwrites g c =
    rw (← c.before_push.ensures.contents, ← c.before_push.ensures.limit, ← c.self.view_is, ← map-overwritten g.K.KeepsFold.item_of (g.R.RingBuffer.limit c.self.inside.ring) (g.R.RingBuffer.contents c.self.inside.ring), ← c.in-Ok-Some.ensures.overwrites, c.in-Ok-Some.field-0-is, c.remove_oldest.ensures.value) refl

pub returns-in-Ok-Some-clause-ok : goal.returns-in-Ok-Some-clause-ok
returns-in-Ok-Some-clause-ok g c =
    rw (← c.before_push.ensures.contents, ← c.before_push.ensures.limit, ← c.self.view_is, c.in-Ok-Some.ensures.ok, ← c.new.ensures)
    (map-pushed g.K.KeepsFold.item_of (g.R.RingBuffer.limit c.self.inside.ring) (g.R.RingBuffer.contents c.self.inside.ring) c.new.result)

pub returns-in-Ok-None-clause-overwrites : goal.returns-in-Ok-None-clause-overwrites
returns-in-Ok-None-clause-overwrites g c =
    rw (← c.before_push.ensures.contents, ← c.before_push.ensures.limit, ← c.self.view_is, ← map-overwritten g.K.KeepsFold.item_of (g.R.RingBuffer.limit c.self.inside.ring) (g.R.RingBuffer.contents c.self.inside.ring), ← c.in-Ok-None.ensures.overwrites, c.in-Ok-None.field-0-is) refl

pub returns-in-Ok-None-clause-ok : goal.returns-in-Ok-None-clause-ok
returns-in-Ok-None-clause-ok g c =
    rw (← c.before_push.ensures.contents, ← c.before_push.ensures.limit, ← c.self.view_is, c.in-Ok-None.ensures.ok, ← c.new.ensures)
    (map-pushed g.K.KeepsFold.item_of (g.R.RingBuffer.limit c.self.inside.ring) (g.R.RingBuffer.contents c.self.inside.ring) c.new.result)
