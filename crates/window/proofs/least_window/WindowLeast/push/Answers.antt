use Rattle.std.proofs.Common.{◌*◌, ◌∙◌, ap, refl}
use Rattle.window.proofs.Mapped.{map-overwritten, map-pushed}
use Rattle.window.proofs.Pushed.{stay, stay_behind, stay_pushed}
use Rattle.window.specs.MonotonicQueue.{item_on}
use Rattle.window.proofs.least_window.WindowLeast.push.Goals as goal

pub forget-oldest-requires : goal.forget-oldest-requires
forget-oldest-requires g c =
    let rs = g.R.RingBuffer.contents c.self.inside.ring in
    let limit = g.R.RingBuffer.limit c.self.inside.ring in
    (stay limit rs, c.self.inside.counts.compared, 2 * c.self.inside.counts.pushed, rw (c.in-Ok.ensures.overwrites, stay_behind limit rs c.len.ensures.within) c.self.invariant)

pub rank_newest-requires : goal.rank_newest-requires
rank_newest-requires g c =
    let rs = g.R.RingBuffer.contents c.self.inside.ring in
    let limit = g.R.RingBuffer.limit c.self.inside.ring in
    let holds = c.forget-oldest.ensures.holds (stay limit rs) _ _ (rw (c.in-Ok.ensures.overwrites, stay_behind limit rs c.len.ensures.within) c.self.invariant) in
    (stay limit rs, c.unranked.result, c.in-Ok.ensures.ok refl ∙ stay_pushed limit rs c.unranked.result c.len.ensures.within, holds, ap (λ r. r.behind) c.unranked.ensures, ap (λ r. r.ahead) c.unranked.ensures)

pub returns-in-Ok-clause-overwrites : goal.returns-in-Ok-clause-overwrites
returns-in-Ok-clause-overwrites g c =
    rw (← c.self.view_is, c.forget-oldest.ensures.value, c.in-Ok.ensures.overwrites)
    (map-overwritten item_on (g.R.RingBuffer.limit c.self.inside.ring) (g.R.RingBuffer.contents c.self.inside.ring))

pub returns-in-Ok-clause-ok : goal.returns-in-Ok-clause-ok
returns-in-Ok-clause-ok g c =
    rw (← c.self.view_is, c.rank_newest.ensures.items, c.in-Ok.ensures.ok refl, c.unranked.ensures)
    (map-pushed item_on (g.R.RingBuffer.limit c.self.inside.ring) (g.R.RingBuffer.contents c.self.inside.ring) (record { item = c.args.item; behind = 1; ahead = 0 }))
