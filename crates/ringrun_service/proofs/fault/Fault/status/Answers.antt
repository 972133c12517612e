use Rattle.std.proofs.Common.{rules}
use Rattle.ringrun_service.proofs.fault.Fault.status.Goals as goal

pub returns-in-NoMemory : goal.returns-in-NoMemory
returns-in-NoMemory c = search rules
