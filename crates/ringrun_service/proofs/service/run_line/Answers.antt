-- A command is run as a list's, and an extension as one by the vector of its numbers.
use Rattle.std.proofs.Common.{[], ◌∷◌, arith, refl, rules}
use Rattle.std.proofs.lemmas.Result.{err_from_is_err_and}
use Rattle.ringbuffer.specs.declared.Reply.TheVariants.{Extended}
use Rattle.ringrun_service.proofs.Extensions.{by_numbers, extended, extension_ended, extension_refused}
use Rattle.ringrun_service.proofs.Runs.{one_contents, one_reply}
use Rattle.ringrun_service.specs.Script.{plain}
use Rattle.ringrun_service.proofs.service.run_line.Goals as goal

pub returns-in_ok-push_reply-in-Command-clause-run : goal.returns-in_ok-push_reply-in-Command-clause-run
returns-in_ok-push_reply-in-Command-clause-run g c =
    let applied = c.in_ok-reply-in-Command.ensures in let limit = g.R.RingBuffer.limit c.args.ring.now in let l = g.R.RingBuffer.contents c.args.ring.now in
    let line = rw c.in-Command.is at c.in_ok-read_line.ensures.line in (
      plain c.in-Command.command ∷ [],
      line.0,
      one_reply limit l c.in-Command.command c.in_ok-reply-in-Command.reply c.args.text.now.items _ applied.reply c.in_ok-push_reply-in-Command.ensures,
      one_contents limit l _ c.in-Command.command applied.contents,
    )

pub returns-in_err-end_line-in-Extension-clause-bad : goal.returns-in_err-end_line-in-Extension-clause-bad
returns-in_err-end_line-in-Extension-clause-bad g c =
    let p = err_from_is_err_and c.from_residual-in_err-end_line-in-Extension.result c.from_residual-in_err-end_line-in-Extension.ensures.1 in
    let pushed = c.in_ok-rest-in-Extension.ensures.pushed in let err = c.in_err-end_line-in-Extension.ensures.err in
    let line = rw c.in-Extension.is at c.in_ok-read_line.ensures.line in
    rw (p.1, p.2, err.2) (extension_refused c.args.script.now c.read_line.new.self c.in-Extension.numbers c.in_ok-rest-in-Extension.rest.now pushed.0 line pushed.1 (omega (arith, pushed.2)) err.0)

pub returns-in_err-push_reply-in-Extension : goal.returns-in_err-push_reply-in-Extension
returns-in_err-push_reply-in-Extension g c =
    let pushed = c.in_ok-rest-in-Extension.ensures.pushed in let end = c.in_ok-end_line-in-Extension.ensures in
    let line = rw c.in-Extension.is at c.in_ok-read_line.ensures.line in
    let ended = extension_ended c.args.script.now c.read_line.new.self c.end_line.new.self c.in-Extension.numbers c.in_ok-rest-in-Extension.rest.now pushed.0 c.requires line pushed.1 (omega (arith, pushed.2)) end.text end.ok in
    record {
      rest = ended.0;
      limit = search rules;
      run = search rules;
      passed = (plain (by_numbers pushed.0) ∷ [], ended.1);
      bad = search rules;
      faults = search rules;
      shorter = search rules;
    }

pub returns-in_ok-push_reply-in-Extension : goal.returns-in_ok-push_reply-in-Extension
returns-in_ok-push_reply-in-Extension g c =
    let limit = g.R.RingBuffer.limit c.args.ring.now in let l = g.R.RingBuffer.contents c.args.ring.now in
    let pushed = c.in_ok-rest-in-Extension.ensures.pushed in let end = c.in_ok-end_line-in-Extension.ensures in
    let line = rw c.in-Extension.is at c.in_ok-read_line.ensures.line in
    let ended = extension_ended c.args.script.now c.read_line.new.self c.end_line.new.self c.in-Extension.numbers c.in_ok-rest-in-Extension.rest.now pushed.0 c.requires line pushed.1 (omega (arith, pushed.2)) end.text end.ok in
    record {
      rest = ended.0;
      limit = search rules;
      run = (
        plain (by_numbers pushed.0) ∷ [],
        ended.1,
        one_reply limit l (by_numbers pushed.0) Extended c.args.text.now.items _ refl c.in_ok-push_reply-in-Extension.ensures,
        one_contents limit l _ (by_numbers pushed.0) (extended limit l _ pushed.0 (omega (arith, pushed.2)) pushed.3),
      );
      passed = (plain (by_numbers pushed.0) ∷ [], ended.1);
      bad = search rules;
      faults = search rules;
      shorter = search rules;
    }
