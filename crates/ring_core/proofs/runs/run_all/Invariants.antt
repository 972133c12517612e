use Rattle.ring_core.proofs.Words.{◌-◌, length, replies_to}
use Rattle.ring_core.proofs.CommandLoop.{HasDone}
use Rattle.ring_core.proofs.runs.run_all.Given as goal

-- the commands so far are done and answered
abbrev pub invariant-loop-command : goal.invariant-loop-command
invariant-loop-command g l =
    let limit = g.R.RingBuffer.limit in
    let contents = g.R.RingBuffer.contents in
    let count = g.R.RingBuffer.slot_changes in
    record {
      done : HasDone (limit l.fn.ring) (contents l.fn.ring) l.fn.commands.items l.yielded l.command-iterator.rest.items l.at (limit l.ring) (contents l.ring) (count l.fn.ring) (count l.ring);
      answered : g.P.Replies.HasTaken l.fn.replies l.replies (replies_to (limit l.fn.ring) (contents l.fn.ring) l.yielded) (length l.fn.commands.items - l.at);
    }
