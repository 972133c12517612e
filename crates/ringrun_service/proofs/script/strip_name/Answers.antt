use Rattle.std.proofs.Common.{rules}
use Rattle.ringrun_service.specs.Parsing.{after_name}
use Rattle.ringrun_service.proofs.script.strip_name.Goals as goal

pub returns-clause-name : goal.returns-clause-name
unfolding after_name
returns-clause-name c = search rules
