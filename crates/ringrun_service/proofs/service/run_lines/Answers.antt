-- Runs join, and what came before a line that failed comes before the lines that are left.
use Rattle.std.proofs.Common.{◌≡◌, ◌++◌, ap, ◌∙◌, append-nil, length, rules, Ok}
use Rattle.ringrun_service.proofs.LinesLeft.{left_empty, step_passed}
use Rattle.ringrun_service.proofs.Runs.{line_run, printed}
use Rattle.ringrun_service.specs.Rest.{script_left}
use Rattle.ringrun_service.specs.Script.{with_front}
use Rattle.ringrun_service.proofs.service.run_lines.Goals as goal

pub returns-in_err-run_line-clause-passed : goal.returns-in_err-run_line-clause-passed
returns-in_err-run_line-clause-passed g c =
    let run = c.loop-ring.invariant.run in let line = c.in_err-run_line.ensures.passed in
    (run.0 ++ line.0, step_passed _ run.0 _ line.0 _ run.1 line.1)

pub loop-ring-preserved : goal.loop-ring-preserved
loop-ring-preserved g c =
    let run = c.loop-ring.invariant.run in let same = c.loop-ring.invariant.same_limit in
    let line = c.in_ok-run_line.ensures.run in let join = c.runs_join.ensures.in_turn in
    let limit = g.R.RingBuffer.limit c.args.ring.now in let start = g.R.RingBuffer.contents c.args.ring.now in let now = g.R.RingBuffer.contents c.loop-ring.ring in
    let ran = line_run join limit _ start now _ run.0 line.0 _ _ same run.3 run.2 line.2 line.3 in
    record {
      rest = c.in_ok-run_line.ensures.rest;
      same_limit = c.in_ok-run_line.ensures.limit ∙ same;
      run = (run.0 ++ line.0, step_passed _ run.0 _ line.0 _ run.1 line.1, ran.0, ran.1);
    }

pub returns-clause-text : goal.returns-clause-text
unfolding script_left
returns-clause-text g c =
    let run = c.loop-ring.invariant.run in let script = c.loop-ring.script in
    let empty : length script.rest.now ≡ 0 = search rules in (
      run.0,
      run.1 ∙ ap (with_front run.0) (left_empty script.text.now script.rest.now empty) ∙ ap Ok (append-nil run.0),
      printed c.runs_join.ensures.meanings (g.R.RingBuffer.limit c.args.ring.now) (g.R.RingBuffer.contents c.args.ring.now) (g.R.RingBuffer.contents c.loop-ring.ring) run.0 _ _ c.len.ensures.within run.3 run.2 c.in_ok-push_items.ensures,
    )
