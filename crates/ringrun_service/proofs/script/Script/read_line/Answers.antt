-- The lines that are left are the one that is read and those after it.
use Rattle.std.proofs.Common.{[], ◌∷◌, ap, arith, rules, subst, sym, ◌∙◌}
use Rattle.std.proofs.lemmas.Result.{err_from_is_err_and}
use Rattle.ringrun_service.proofs.LinesLeft.{blank_read, command_bad, command_read, left, other_bad}
use Rattle.ringrun_service.specs.Parsing.{after_blanks, after_end, CommandAt, HasNoCommand}
use Rattle.ringrun_service.specs.Rest.{script_left}
use Rattle.ringrun_service.specs.Script.{plain, with_front}
use Rattle.ringrun_service.proofs.script.Script.read_line.Goals as goal

-- ---- no command

pub returns-in_err-end_line-clause-bad : goal.returns-in_err-end_line-clause-bad
unfolding script_left
returns-in_err-end_line-clause-bad c =
    let p = err_from_is_err_and c.from_residual.result c.from_residual.ensures.1 in
    let h = c.in_err-end_line.ensures in
    let words = c.skip_blanks-words.ensures.rest in
    let none : HasNoCommand c.skip_blanks-words.result.now = c.in_default.ensures.command c.in_default-strip_name.ensures.name in
    rw (p.1, p.2, h.err.2) (other_bad c.args.self.now.text.now c.args.self.now.rest.now (subst HasNoCommand words none) (ap (λ w. after_end (after_blanks w)) (sym words) ∙ h.err.0))

pub returns-in_default : goal.returns-in_default
unfolding script_left
returns-in_default c =
    let old = c.args.self.now in let h = c.in_ok-end_line.ensures in
    let line = blank_read old.text.now c.requires.0 old.rest.now c.end_line.new.self.rest.now c.requires.1 (ap (λ w. after_end (after_blanks w)) (sym c.skip_blanks-words.ensures.rest) ∙ h.ok) in
    let script = line.script ∙ ap (λ t. with_front [] (left t.now c.end_line.new.self.rest.now)) (sym h.text) in
    record {
      rest = (line.front, ap (λ t. t.now) h.text ∙ line.is);
      line = (script, λ some. omega (arith, some, h.shorter, c.skip_blanks-words.ensures.within));
      passed = ([], script);
      bad = search rules;
      faults = search rules;
    }

-- ---- a command

pub returns-in_err-end_line-2-clause-bad : goal.returns-in_err-end_line-2-clause-bad
unfolding script_left
returns-in_err-end_line-2-clause-bad c =
    let p = err_from_is_err_and c.from_residual-in_err-end_line-2.result c.from_residual-in_err-end_line-2.ensures.1 in
    let h = c.in_err-end_line-2.ensures in
    rw (p.1, p.2, h.err.2) (command_bad c.args.self.now.text.now c.args.self.now.rest.now c.in-Some.command c.in-Some.rest.now
    (subst (λ w. CommandAt w c.in-Some.command c.in-Some.rest.now) c.skip_blanks-words.ensures.rest c.in-Some.ensures.command) h.err.0)

pub returns : goal.returns
unfolding script_left
returns c =
    let old = c.args.self.now in let h = c.in_ok-end_line-2.ensures in let command = plain c.in-Some.command in
    let line = command_read old.text.now c.requires.0 old.rest.now c.in-Some.command c.in-Some.rest.now c.end_line-2.new.self.rest.now c.requires.1
    (subst (λ w. CommandAt w c.in-Some.command c.in-Some.rest.now) c.skip_blanks-words.ensures.rest c.in-Some.ensures.command) h.ok in
    let script = line.script ∙ ap (λ t. with_front (command ∷ []) (left t.now c.end_line-2.new.self.rest.now)) (sym h.text) in
    record {
      rest = (line.front, ap (λ t. t.now) h.text ∙ line.is);
      line = (script, λ some. omega (arith, some, h.shorter, c.in-Some.ensures.rest, c.skip_blanks-words.ensures.within));
      passed = (command ∷ [], script);
      bad = search rules;
      faults = search rules;
    }
