use Rattle.ringrun_service.proofs.WrittenSoFar.{Written}
use Rattle.ringrun_service.proofs.error_line.tell.Given as goal

abbrev pub invariant-loop : goal.invariant-loop
invariant-loop g l = Written (g.E.Write.contents l.fn.errors) (g.E.Write.contents l.errors) l.initial.rest l.rest
