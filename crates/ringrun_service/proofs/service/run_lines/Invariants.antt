-- Each turn takes a line. The ring stands, and the text reads, as after one run of the commands so far.
use Rattle.std.proofs.Common.{◌≡◌, ℤ, List, length, flat_map}
use Rattle.ringbuffer.specs.Meaning.{after_all, replies_to}
use Rattle.ringbuffer.specs.declared.Command.{Command}
use Rattle.ringrun_service.specs.Replies.{reply_line}
use Rattle.ringrun_service.specs.Rest.{IsRest, script_left}
use Rattle.ringrun_service.specs.Script.{with_front}
use Rattle.ringrun_service.proofs.service.run_lines.Given as goal

abbrev pub invariant-loop-ring : goal.invariant-loop-ring
invariant-loop-ring g l =
    let contents = g.R.RingBuffer.contents in let limit = g.R.RingBuffer.limit in
    record {
      rest : IsRest l.script;
      same_limit : limit l.ring ≡ limit l.fn.ring;
      run : (commands : List (Command ℤ)) × (script_left l.fn.script ≡ with_front commands (script_left l.script))
          × (l.text.items ≡ flat_map reply_line (replies_to (limit l.fn.ring) (contents l.fn.ring) commands))
          × (contents l.ring ≡ after_all (limit l.fn.ring) (contents l.fn.ring) commands);
    }

abbrev pub decreases-loop-ring : goal.decreases-loop-ring
decreases-loop-ring g l = length l.script.rest.now
