-- Some commands come before those of one more line, and none are left at the end.
use Rattle.std.proofs.Common.{◌≡◌, ◌++◌, ◌∷◌, [], ap, arith, ◌∙◌, length, rules}
use Rattle.std.proofs.lemmas.Result.{err_from_is_err_and}
use Rattle.ringrun_service.proofs.Extensions.{by_numbers, extension_ended, extension_refused}
use Rattle.ringrun_service.proofs.LinesLeft.{left_empty, step_passed}
use Rattle.ringrun_service.specs.Rest.{script_left}
use Rattle.ringrun_service.specs.Script.{plain, with_front}
use Rattle.ringrun_service.proofs.script.Script.check.Goals as goal

pub loop-self-preserved-in_default : goal.loop-self-preserved-in_default
loop-self-preserved-in_default c =
    let line = c.in_ok-numbers.ensures in let read = c.loop-self.invariant.read in
    record { rest = line.rest; read = (read.0 ++ line.passed.0, step_passed _ read.0 _ line.passed.0 _ read.1 line.passed.1) }

pub loop-self-preserved : goal.loop-self-preserved
loop-self-preserved c =
    let read = c.loop-self.invariant.read in let skipped = c.count_numbers.ensures.numbers in
    let line = rw c.in-Extension.is at c.in_ok-numbers.ensures.line in
    let ended = extension_ended c.loop-self.self c.read_line.new.self c.end_line.new.self c.in-Extension.numbers c.count_numbers.result.1.now skipped.0 c.loop-self.invariant.rest line
    skipped.1 (omega (arith, skipped.2)) c.in_ok-end_line.ensures.text c.in_ok-end_line.ensures.ok in
    record { rest = ended.0; read = (read.0 ++ plain (by_numbers skipped.0) ∷ [], step_passed _ read.0 _ (plain (by_numbers skipped.0) ∷ []) _ read.1 ended.1) }

pub returns-in_err-end_line-clause-bad : goal.returns-in_err-end_line-clause-bad
returns-in_err-end_line-clause-bad c =
    let p = err_from_is_err_and c.from_residual-in_err-end_line.result c.from_residual-in_err-end_line.ensures.1 in
    let read = c.loop-self.invariant.read in let skipped = c.count_numbers.ensures.numbers in let err = c.in_err-end_line.ensures.err in
    let line = rw c.in-Extension.is at c.in_ok-numbers.ensures.line in
    rw (p.1, p.2, err.2) (read.1 ∙ ap (with_front read.0) (extension_refused c.loop-self.self c.read_line.new.self c.in-Extension.numbers c.count_numbers.result.1.now skipped.0 line
    skipped.1 (omega (arith, skipped.2)) err.0))

pub returns-clause-good : goal.returns-clause-good
unfolding script_left
returns-clause-good c =
    let read = c.loop-self.invariant.read in let script = c.loop-self.self in
    let empty : length script.rest.now ≡ 0 = search rules in
    (read.0 ++ [], read.1 ∙ ap (with_front read.0) (left_empty script.text.now script.rest.now empty))
