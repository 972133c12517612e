-- By item numbers a run of both lists is what it is as lists, and there it is the two runs in turn.
use Rattle.ring_core.proofs.Words.{◌++◌, ◌∙◌, ap, flat_map-append, pushed, steps, steps_of, after_all}
use Rattle.ring_core.proofs.HeldRange.{pushed-append}
use Rattle.ring_core.proofs.BothMeanings.{IsWithin-after_all, contents_after-all, replies_of-all}
use Rattle.ring_core.proofs.RunParts.{after_all-append, replies_to-append}
use Rattle.ring_core.proofs.runs.runs_join.Goals as goal

pub returns-clause-meanings : goal.returns-clause-meanings
returns-clause-meanings g c = λ limit start cs within. (contents_after-all limit start cs within, replies_of-all limit start cs within)

pub returns-clause-in_turn : goal.returns-clause-in_turn
returns-clause-in_turn g c = λ limit l xs ys. (after_all-append limit l xs ys, replies_to-append limit l xs ys)

pub returns-clause-by_number : goal.returns-clause-by_number
returns-clause-by_number g c = λ limit start xs ys within.
    let between = IsWithin-after_all limit start xs within in (
      rw (contents_after-all limit start (xs ++ ys) within, contents_after-all limit start xs within, contents_after-all limit (after_all limit start xs) ys between)
          (after_all-append limit start xs ys),
      rw (replies_of-all limit start (xs ++ ys) within, contents_after-all limit start xs within, replies_of-all limit start xs within, replies_of-all limit (after_all limit start xs) ys between)
          (replies_to-append limit start xs ys),
      ap pushed (flat_map-append steps_of xs ys) ∙ pushed-append (steps xs) (steps ys),
    )
