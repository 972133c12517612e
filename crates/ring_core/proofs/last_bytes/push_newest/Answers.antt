use Rattle.std.proofs.lemmas.Iterator.{YieldsList-from_slice}
use Rattle.std.proofs.lemmas.Iterator.Consumers.{YieldsList-from_copied}
use Rattle.ring_core.proofs.Words.{drop, ap, ◌∙◌, rules}
use Rattle.ring_core.proofs.Callers.{held_on_ok}
use Rattle.ring_core.proofs.Cloned.{keep_last-fitting}
use Rattle.ring_core.proofs.SourceEnds.{all_extended}
use Rattle.ring_core.proofs.last_bytes.push_newest.Goals as goal

-- The source gives the newest bytes, and the limit leaves of them what it leaves of all.
pub returns-then-newest-lt-FEW-clause-contents : goal.returns-then-newest-lt-FEW-clause-contents
returns-then-newest-lt-FEW-clause-contents g c =
    let R = g.R.RingBuffer in let ring = c.args.ring.now in let newest = c.split_at.result.1.now in
    let (it, xs, source, kept, _, took) = c.extend.ensures.extends in
    let gives = YieldsList-from_copied (YieldsList-from_slice newest (search rules)) in
    let is = c.split_at.ensures.back ∙ ap (λ n. drop n c.args.bytes.now) c.saturating_sub.ensures in
    held_on_ok c.extend.result (c.extend.ensures.succeeds c.requires) (all_extended xs (R.limit ring) (R.contents ring) _ c.extend.result kept (rw source at took) gives)
    ∙ keep_last-fitting (R.limit ring) c.capacity.result (R.contents ring) c.args.bytes.now newest c.requires c.capacity.ensures.value is

-- Clones of the newest bytes are those bytes.
pub returns-else-newest-lt-FEW-clause-contents : goal.returns-else-newest-lt-FEW-clause-contents
returns-else-newest-lt-FEW-clause-contents g c =
    let R = g.R.RingBuffer in let ring = c.args.ring.now in let newest = c.split_at.result.1.now in let pushed = c.extend_from_slice.ensures in
    let is = c.split_at.ensures.back ∙ ap (λ n. drop n c.args.bytes.now) c.saturating_sub.ensures in
    held_on_ok c.extend_from_slice.result (pushed.succeeds c.requires (search rules)) (pushed.items_if_clones_equal (search rules))
    ∙ keep_last-fitting (R.limit ring) c.capacity.result (R.contents ring) c.args.bytes.now newest c.requires c.capacity.ensures.value is
