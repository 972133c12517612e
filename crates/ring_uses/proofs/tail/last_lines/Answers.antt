use Rattle.std.proofs.Common.{◌∙◌, Some, ap, map, rules}
use Rattle.std.proofs.lemmas.Iterator.{items_from_collect}
use Rattle.std.proofs.lemmas.Iterator.Splits.{YieldsList-from_lines}
use Rattle.std.proofs.lemmas.Result.{IfOk-weaker}
use Rattle.ringbuffer.specs.Contents.{keep_last}
use Rattle.ringbuffer.proofs.SourceEnds.{YieldsList-unpacked, shown_extended}
use Rattle.ringbuffer.proofs.Limits.{map-keep_last}
use Rattle.ring_uses.proofs.tail.last_lines.Goals as goal

pub returns : goal.returns
returns c =
    let (it, xs, from, kept, changes, ran) = c.extend.ensures.extends in
    let given = shown_extended xs c.extend.result ran c.extend.ensures.succeeds (YieldsList-from_lines c.args.text.now (search rules)) in
    let moved = items_from_collect c.collect.result c.collect.ensures.ran (YieldsList-unpacked (λ r. r.items) (λ r. Some r.capacity) (λ r. r.changes) c.into_iter.result (keep_last (Some c.args.n) xs) (c.into_iter.ensures.left ∙ rw c.in_ok-last.ensures.made at kept)) in
    IfOk-weaker c.collect.result _ _ (λ last is. ap (λ l. map (λ line. line.now) l) is ∙ map-keep_last (λ line. line.now) c.args.n xs ∙ ap (λ l. keep_last (Some c.args.n) l) given) moved
