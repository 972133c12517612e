use Rattle.std.proofs.Common.{rules}
use Rattle.ring_uses.proofs.pipe.Pipe.send.Goals as goal

pub returns-clause-rest : goal.returns-clause-rest
returns-clause-rest c = search rules
