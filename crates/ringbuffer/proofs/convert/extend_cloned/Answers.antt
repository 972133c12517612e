use Rattle.ringbuffer.proofs.Words.{[], Yields, ◌∷◌, ◌++◌, refl, ◌∙◌, append_assoc, map-append, AllZip-push, keep_last-keep_last}
use Rattle.ringbuffer.proofs.convert.extend_cloned.Goals as goal

pub loop-item-preserved : goal.loop-item-preserved
loop-item-preserved g c =
    let (same, (ys, clones, kept)) = c.loop-item.invariant in let made = c.in-Ok.clone in
    let all = AllZip-push _ _ _ _ _ clones c.in-Ok.ensures.cases in
    (c.push_item.ensures.limit ∙ same, (ys ++ made ∷ [], rw map-append all, c.in_ok-push_item.ensures.contents ∙ rw (same, kept, keep_last-keep_last, append_assoc) refl))

-- The clone of the item that came after those that were cloned is refused.
pub returns-in_default-clause-refused : goal.returns-in_default-clause-refused
returns-in_default-clause-refused g c = λ some.
    let given : Yields g.I.Iterator.next_gives c.into_iter-item-iterator.result c.loop-item.yielded c.loop-item.item-iterator = c.loop-item.yielded_by in
    let from_items = rw c.into_iter-item-iterator.ensures.into_iter_gives at given in
    (c.loop-item.yielded, c.in-Some.item, c.next.new.self, (c.loop-item.item-iterator, from_items, c.in-Some.ensures.steps), c.in_default.ensures.cases)
