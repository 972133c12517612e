use Rattle.std.proofs.Common.{not, rules, tests}
use Rattle.std.proofs.lemmas.Iterator.{YieldsList-from_slice}
use Rattle.std.proofs.lemmas.Iterator.Search.{position_from_yields_List}
use Rattle.ringrun_service.proofs.Blanks.{after_position}
use Rattle.ringrun_service.specs.Script.{is_blank}
use Rattle.ringrun_service.proofs.script.skip_blanks.Goals as goal

pub returns-clause-rest : goal.returns-clause-rest
returns-clause-rest c =
    let text = c.args.text.now in
    after_position text c.position.result c.unwrap_or-end.result
    (position_from_yields_List (λ b. not (is_blank b)) _ _ c.position.result c.position.ensures.ran (YieldsList-from_slice text cc) (λ x b q k. search (rules, tests)))
    c.unwrap_or-end.ensures
