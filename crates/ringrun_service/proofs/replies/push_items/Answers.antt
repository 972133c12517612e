-- The item goes from those to come to those so far.
use Rattle.std.proofs.Common.{◌≡◌, ◌++◌, ◌∷◌, [], ap, sym, ◌∙◌, append_assoc, flat_map, of_z, rules, to_z}
use Rattle.ringbuffer.specs.Walk.{iterator_to_come}
use Rattle.std.specs.Fmt.{signed_decimal}
use Rattle.std.specs.Int.{w64}
use Rattle.ringrun_service.specs.Replies.{item_text}
use Rattle.ringrun_service.proofs.replies.push_items.Goals as goal

pub loop-item-preserved : goal.loop-item-preserved
loop-item-preserved g c =
    let rest = flat_map item_text (iterator_to_come g.R.RingBuffer.contents c.next.new.self) in
    let x = c.in-Some.item.now in
    let read : to_z w64 (of_z w64 x) ≡ x = search rules in
    let item : c.push_decimal.new.text.items ≡ c.loop-item.text.items ++ item_text x = (rw read at c.in_ok-push_decimal.ensures.appended) ∙ ap (λ t. t ++ signed_decimal x) c.in_ok-push.ensures.items ∙ append_assoc c.loop-item.text.items (32 ∷ []) (signed_decimal x) in
    ap (λ t. t ++ rest) item
    ∙ append_assoc (c.loop-item.text.items) (item_text c.in-Some.item.now) (rest)
    ∙ ap (λ xs. c.loop-item.text.items ++ flat_map item_text xs) (sym c.in-Some.ensures.steps)
    ∙ c.loop-item.invariant
