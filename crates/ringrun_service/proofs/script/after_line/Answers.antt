-- A line feed at once.
use Rattle.std.proofs.Common.{rules}
use Rattle.ringrun_service.proofs.Blanks.{feed_at_once}
use Rattle.ringrun_service.proofs.script.after_line.Goals as goal

pub returns-in-10-clause-end : goal.returns-in-10-clause-end
returns-in-10-clause-end c = search (rules, feed_at_once)
