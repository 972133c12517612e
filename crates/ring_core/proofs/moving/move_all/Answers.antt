use Rattle.ring_core.proofs.Words.{refl, rules}
use Rattle.ring_core.proofs.MovedItems.{HasMoved-turn}
use Rattle.ring_core.proofs.moving.move_all.Goals as goal

pub loop-item-preserved : goal.loop-item-preserved
loop-item-preserved g c =
    let so_far = c.loop-item.invariant in
    let pushed = rw so_far.limit_to at c.in_ok-overwritten.ensures.ok refl in
    let more = rw so_far.limit_to at c.in_ok-overwritten.ensures.changes in
    record {
      moves = rw c.in-Some.ensures.rest (HasMoved-turn so_far.moves c.in-Some.item _ _ c.in-Some.ensures.value pushed more);
      limit_to = search rules;
      limit_from = search rules;
      changes_from = search rules;
    }

pub loop-item-init : goal.loop-item-init
loop-item-init g c = search rules

pub returns-in_err-overwritten : goal.returns-in_err-overwritten
returns-in_err-overwritten g c = search rules
