-- The steps, by the lemma on numbers alone.
use Rattle.decimal.proofs.EightDigitsWritten.{steps}
use Rattle.decimal.proofs.write.split_eight.Goals as goal

pub overflow_sub-pairs : goal.overflow_sub-pairs
overflow_sub-pairs c = (steps c.args.number c.requires).hundreds_within

pub overflow_mul-tens : goal.overflow_mul-tens
overflow_mul-tens c = record { fits = (steps c.args.number c.requires).pairs_within }

pub overflow_sub-result : goal.overflow_sub-result
overflow_sub-result c = (steps c.args.number c.requires).tens_within

pub overflow_add-result : goal.overflow_add-result
overflow_add-result c = record { fits = (steps c.args.number c.requires).word_within }

pub returns : goal.returns
returns c = (steps c.args.number c.requires).made
