-- One turn of the loop, its end, and its stop at a refusal.
use Rattle.ring_core.proofs.Words.{◌≡◌, IsSome, ◌-◌, ◌+◌, arith, suc, rules, steps, length, ap, sym, ◌∙◌}
use Rattle.ring_core.proofs.RunParts.{length-replies_to}
use Rattle.ring_core.proofs.HeldRange.{KeepsToNumbers-held}
use Rattle.ring_core.proofs.BothMeanings.{ChangesFewSlots-run, ChangesFewSlots-twice, contents_after-all, replies_of-all}
use Rattle.ring_core.proofs.CommandLoop.{HasDone-end, HasDone-first, HasDone-next, HasDone-stops, HasDone-turn, replies_to-turn}
use Rattle.ring_core.proofs.runs.run_all.Goals as goal

pub store-requires : goal.store-requires
store-requires g c =
    let so_far = c.loop-command.invariant in
    let room : length c.args.commands.items - c.loop-command.at ≡ suc (length c.args.commands.items - (c.loop-command.at + 1)) =
    omega (arith, HasDone-next c.in-Some.command _ so_far.done c.in-Some.ensures.steps.0) in
    (c.args.replies.now, _, length c.args.commands.items - (c.loop-command.at + 1), rw room at so_far.answered, so_far.done.count ∙ sym (length-replies_to _ _ c.loop-command.yielded))

pub overflow_add-at : goal.overflow_add-at
overflow_add-at g c = omega (arith, HasDone-next c.in-Some.command _ c.loop-command.invariant.done c.in-Some.ensures.steps.0, c.args.commands.ok.0, c.args.commands.small)

pub loop-command-preserved : goal.loop-command-preserved
loop-command-preserved g c =
    let so_far = c.loop-command.invariant in let next = c.in-Some.ensures.steps.0 in
    let room : length c.args.commands.items - c.loop-command.at ≡ suc (length c.args.commands.items - (c.loop-command.at + 1)) =
    omega (arith, HasDone-next c.in-Some.command _ so_far.done next) in
    record {
      done = HasDone-turn c.in-Some.command _ _ _ _ so_far.done next c.in-Ok.ensures.limit c.in-Ok.ensures.contents c.in-Ok.ensures.changes;
      answered = rw (replies_to-turn c.in-Some.command c.in-Ok.reply so_far.done c.in-Ok.ensures.reply)
          (c.store.ensures c.args.replies.now _ _ (rw room at so_far.answered) (so_far.done.count ∙ sym (length-replies_to _ _ c.loop-command.yielded)));
    }

pub returns-in_default : goal.returns-in_default
returns-in_default g c =
    let so_far = c.loop-command.invariant in let done = so_far.done in
    record {
      never_refused = grind arith;
      same_limit = grind arith;
      in_turn = tt;
      contents = tt;
      replies = tt;
      same_replies = replies_of-all _ _ c.args.commands.items c.len.ensures.within;
      numbers = KeepsToNumbers-held _ _ (steps c.args.commands.items) c.len.ensures.within;
      changes = grind arith;
      few_changes = grind arith;
      twice = grind arith;
      stopped = HasDone-stops c.in-Some.command _ _ c.in_default.field-0 done c.in-Some.ensures.steps.0 c.in_default.ensures.refused;
      replies_before = rw (← HasDone-first done) at so_far.answered;
    }

pub returns : goal.returns
returns g c =
    let so_far = c.loop-command.invariant in
    let all = c.args.commands.items in let within = c.len.ensures.within in let rest = c.loop-command.command-iterator.rest in
    let whole : c.loop-command.yielded ≡ all = HasDone-end rest.len so_far.done rest.ok.0 c.in-None.ensures.steps.0 in
    let full : length all - c.loop-command.at ≡ 0 = omega (arith, so_far.done.count, ap length whole) in
    let left = rw whole at so_far.done.left in
    let few = λ (some : IsSome (g.R.RingBuffer.limit c.args.ring.now)). ChangesFewSlots-run _ _ all within _ _ (rw (whole, left) at so_far.done.changes some) in
    record {
      never_refused = search rules;
      same_limit = search rules;
      in_turn = left;
      contents = left ∙ sym (contents_after-all _ _ all within);
      replies = rw (whole, full) at so_far.answered;
      same_replies = replies_of-all _ _ all within;
      numbers = KeepsToNumbers-held _ _ (steps all) within;
      changes = rw whole at so_far.done.changes;
      few_changes = few;
      twice = λ some. ChangesFewSlots-twice _ _ all within _ _ (few some);
      stopped = tt;
      replies_before = tt;
    }

pub loop-command-init : goal.loop-command-init
loop-command-init g c = search rules
