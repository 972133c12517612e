-- A store puts each reply into the next place.
use Rattle.ring_core.proofs.Words.{◌≡◌, ◌+◌, ◌++◌, [], ◌∷◌, arith, length, length_push, suc, ◌∙◌}
use Rattle.ring_core.proofs.RunParts.{length-places, places-more}
use Rattle.ring_core.proofs.runs.PlacesReplies.TheImpl.Goals as goal

pub store-asks : goal.store-asks
store-asks g x c =
    let (first, replies, room, held, next) = c.requires in
    rw (held.1, next) (omega (arith, length-places (length replies + suc room) replies (omega arith)))

pub store-tells : goal.store-tells
store-tells g x c = λ first replies room held next.
    let more = places-more (length replies + suc room) replies c.args.reply (omega arith) in
    let same : length (replies ++ c.args.reply ∷ []) + room ≡ length replies + suc room = omega (arith, length_push replies c.args.reply) in
    (c.ensures.same_reference ∙ held.0, rw (c.ensures.stored, held.1, next, same) more)
