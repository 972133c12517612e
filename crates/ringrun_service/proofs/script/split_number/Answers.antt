-- The number after the blanks, where there is a blank.
use Rattle.std.proofs.Common.{◌≡◌, rules}
use Rattle.decimal.specs.Numerals.{signed_at}
use Rattle.ringrun_service.specs.Parsing.{number_at}
use Rattle.ringrun_service.proofs.Numbers.{read_word, word_behind_space}
use Rattle.ringrun_service.proofs.Blanks.{word_at_once}
use Rattle.ringrun_service.proofs.script.split_number.Goals as goal
use Rattle.ringrun_service.proofs.script.split_number.Goals.{in-32, in_default+else-word-text}

pub returns-then-word-text-clause-number : goal.returns-then-word-text-clause-number
returns-then-word-text-clause-number c = (read_word c.args.text.now c.skip_blanks-word.result.now c.skip_blanks-word.ensures.rest).0 c.if-word-text.true

is_there : (c : goal.After-read_decimal) → number_at c.args.text.now ≡ signed_at c.if-text-lt1.word.now
is_there c = elim c.if-text-lt1.branch [
  | in-32 w ↦ rw w.word-is (search (rules, word_behind_space, word_at_once))
  | in_default+else-word-text w ↦ rw w.word-is ((read_word c.args.text.now w.skip_blanks-word.result.now w.skip_blanks-word.ensures.rest).1 w.if-word-text.false)
]

pub returns-clause-number : goal.returns-clause-number
returns-clause-number c = rw (is_there c) c.read_decimal.ensures.number
