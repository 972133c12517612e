use Rattle.ring_core.proofs.Words.{arith, refl, rules, steps}
use Rattle.ring_core.proofs.HeldRange.{KeepsToNumbers-held}
use Rattle.ring_core.proofs.runs.run.Goals as goal

-- A run that does nothing changes nothing. Numbers keep to their rules in any run, so in this one too.
pub returns-in_default : goal.returns-in_default
returns-in_default g c = record {
  never_stopped = search rules;
  same_limit = refl;
  in_turn = tt;
  replies_in_turn = tt;
  contents = tt;
  replies = tt;
  numbers = KeepsToNumbers-held _ _ (steps c.args.commands.items) c.len-in_default.ensures.within;
  changes = λ some. (omega arith, omega arith);
  few_changes = λ some. (omega arith, omega arith);
  twice = λ some. omega arith;
  no_room = (refl, refl);
  stopped = tt;
  replies_before = tt;
}
