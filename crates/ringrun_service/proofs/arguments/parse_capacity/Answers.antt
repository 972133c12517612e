use Rattle.std.proofs.Common.{rules}
use Rattle.ringrun_service.proofs.arguments.parse_capacity.Goals as goal

pub returns : goal.returns
returns c = search rules
