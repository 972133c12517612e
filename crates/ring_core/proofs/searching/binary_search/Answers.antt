use Rattle.ring_core.proofs.Words.{ap, arith, false, rules, sym, ◌∙◌, ◌≡◌}
use Rattle.std.proofs.Common.{of_calls}
use Rattle.std.proofs.lemmas.Fn.{always_returns_same}
use Rattle.std.specs.Ordering.{is_eq, is_lt}
use Rattle.ring_core.proofs.BinarySearch.{greater_from, holds_at, less_before}
use Rattle.ring_core.proofs.searching.binary_search.Goals.{else-index-len-via-then-index-len+else-is_eq, else-index-len-via-else-index-len}
use Rattle.ring_core.proofs.searching.binary_search.Goals as goal

pub returns-then-is_eq-clause-first : goal.returns-then-is_eq-clause-first
returns-then-is_eq-clause-first g c =
    let order = λ (y : g.row.T.Denot). g.T.Ord.cmp y c.args.x.now in
    less_before order _ _ (c.partition_point-index.ensures.partitioned (λ y. is_lt (order y)) (always_returns_same _ _ _ (λ a r f k. search (rules, of_calls))))

pub returns-else-index-len-clause-position : goal.returns-else-index-len-clause-position
returns-else-index-len-clause-position g c = λ rise.
    let order = λ (y : g.row.T.Denot). g.T.Ord.cmp y c.args.x.now in
    let point = c.partition_point-index.ensures.partitioned (λ y. is_lt (order y)) (always_returns_same _ _ _ (λ a r f k. search (rules, of_calls))) in (
      less_before order _ _ point rise,
      greater_from order _ _ point rise (λ within. elim c.else-index-len.branch [
        | else-index-len-via-then-index-len+else-is_eq w ↦ holds_at (λ y. is_eq (order y) ≡ false) (g.R.RingBuffer.contents c.args.ring.now) c.partition_point-index.result w.item_at.result.now w.item_at.ensures (ap is_eq (sym w.cmp.ensures) ∙ sym w.is_eq.ensures ∙ w.if-is_eq.false)
        | else-index-len-via-else-index-len w ↦ absurd (omega arith)
      ]),
    )
