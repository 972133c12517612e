-- The line that is named is the input's first bad one.
use Rattle.std.proofs.Common.{rules}
use Rattle.ringrun_service.proofs.Outcomes.{answered_bad, carried}
use Rattle.ringrun_service.proofs.service.run_input.Goals as goal

pub returns-clause-bad : goal.returns-clause-bad
returns-clause-bad g c =
    answered_bad c.run_script.result (g.I.Read.remaining c.args.input.now) c.as_slice.result.now
    (carried (g.I.Read.remaining c.args.input.now) _ _ c.as_slice.ensures.value (search rules)) c.run_script.ensures.bad
