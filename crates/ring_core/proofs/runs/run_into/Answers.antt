-- A run into places is a run into a store of them, which holds no reply at first.
use Rattle.std.proofs.lemmas.Grind.{common_steps}
use Rattle.ring_core.proofs.Words.{arith, rules}
use Rattle.ring_core.proofs.runs.run_into.Goals as goal

pub run_all-requires : goal.run_all-requires
run_all-requires g c = search rules

pub returns : goal.returns
returns g c =
    let run = c.run_all.ensures in
    record {
      never_refused = run.never_refused;
      same_limit = run.same_limit;
      in_turn = run.in_turn;
      replies_in_turn = grind (arith, common_steps);
      contents = run.contents;
      replies = grind (arith, common_steps);
      numbers = run.numbers;
      changes = run.changes;
      few_changes = run.few_changes;
      twice = run.twice;
      stopped = run.stopped;
      replies_before = grind (arith, common_steps);
    }
