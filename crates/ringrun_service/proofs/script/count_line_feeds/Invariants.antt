-- What is counted so far, with what the rest has, is what the text has.
use Rattle.std.proofs.Common.{◌≡◌, ◌+◌, ◌≤◌, length, count_by}
use Rattle.ringrun_service.specs.Script.{is_line_feed}
use Rattle.ringrun_service.proofs.script.count_line_feeds.Given as goal

abbrev pub invariant-loop-rest : goal.invariant-loop-rest
invariant-loop-rest l = record {
  count : l.count + count_by is_line_feed l.rest ≡ count_by is_line_feed l.text;
  within : length l.rest ≤ length l.text;
}

abbrev pub decreases-loop-rest : goal.decreases-loop-rest
decreases-loop-rest l = length l.rest
