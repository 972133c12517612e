use Rattle.std.proofs.Common.{rules}
use Rattle.ring_uses.proofs.undo.History.undo.Goals as goal

pub returns-clause-newest : goal.returns-clause-newest
returns-clause-newest g c = search rules
