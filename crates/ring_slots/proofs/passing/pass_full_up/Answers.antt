use Rattle.ring_slots.proofs.Words.{◌+◌, ◌∷◌, None, Some, ap, arith}
use Rattle.ring_slots.proofs.Gap.{full_above, last_is_full, one_up}
use Rattle.ring_slots.proofs.passing.pass_full_up.Goals as goal

pub item_mut-requires : goal.item_mut-requires
item_mut-requires g c =
    let (xs, full) = c.requires in
    full_above (c.args.item ∷ xs) (Some c.args.item ∷ c.args.cells.now) (ap (λ l. Some c.args.item ∷ l) full) c.loop-at.cells c.loop-at.at c.index-cells-at.result
    (omega (arith, c.loop-at-test.true, c.loop-at.auto.cells)) c.loop-at.invariant.0

pub loop-at-preserved : goal.loop-at-preserved
loop-at-preserved g c =
    one_up (Some c.args.item ∷ c.args.cells.now) c.loop-at.cells c.loop-at.at (c.loop-at.at + 1) c.index-cells-at.result None (Some c.replace-passed.new.dest) (Some c.replace-passed.result)
    (omega arith) (omega (arith, c.loop-at-test.true, c.loop-at.auto.cells)) (rw c.replace-passed.ensures.value c.item_mut.ensures.value) c.loop-at.invariant.0 (rw c.replace-passed.ensures.after c.loop-at.invariant.1)

pub unwrap-requires : goal.unwrap-requires
unwrap-requires g c =
    let (xs, full) = c.requires in last_is_full (c.args.item ∷ xs) _ (ap (λ l. Some c.args.item ∷ l) full) c.pass_up.new.items c.pass_up.result c.pass_up.ensures
