use Rattle.std.proofs.Common.{Ok, rules}
use Rattle.ringrun_service.proofs.Outcomes.{done}
use Rattle.ringrun_service.specs.declared.fault.Fault.{Fault}
use Rattle.ringrun_service.proofs.service.attempt.Goals as goal

pub returns-clause-done : goal.returns-clause-done
returns-clause-done g c = done {E = Fault} (Ok (tt {0})) _ _ _ _ _ _ c.in_ok-text.ensures.text c.as_slice.ensures.value (search rules)

pub returns-in_err-text-clause-unwritten : goal.returns-in_err-text-clause-unwritten
returns-in_err-text-clause-unwritten g c = search rules

pub returns-in_err-text-clause-written_last : goal.returns-in_err-text-clause-written_last
returns-in_err-text-clause-written_last g c = search rules
