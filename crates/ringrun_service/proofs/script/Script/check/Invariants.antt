-- Each line takes a byte at least, and some commands come before those of the lines that are left.
use Rattle.std.proofs.Common.{◌≡◌, ℤ, List, length}
use Rattle.ringbuffer.specs.declared.Command.{Command}
use Rattle.ringrun_service.specs.Rest.{IsRest, script_left}
use Rattle.ringrun_service.specs.Script.{with_front}
use Rattle.ringrun_service.proofs.script.Script.check.Given as goal

abbrev pub invariant-loop-self : goal.invariant-loop-self
invariant-loop-self l = record {
  rest : IsRest l.self;
  read : (commands : List (Command ℤ)) × (script_left l.initial.self ≡ with_front commands (script_left l.self));
}

abbrev pub decreases-loop-self : goal.decreases-loop-self
decreases-loop-self l = length l.self.rest.now
