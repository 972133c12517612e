-- So far the bytes that were passed are counted.
use Rattle.std.proofs.Common.{◌≡◌, take, count_by}
use Rattle.ringrun_service.specs.Script.{is_line_feed}
use Rattle.ringrun_service.proofs.script.count_in_block.Given as goal

abbrev pub invariant-loop-byte : goal.invariant-loop-byte
invariant-loop-byte l = l.count ≡ count_by is_line_feed (take l.byte-index l.block)
