-- The digits, by the lemma on numbers alone.
use Rattle.std.proofs.Common.{drop, ◌∙◌}
use Rattle.decimal.proofs.LeadingZeros.{eight_written}
use Rattle.decimal.proofs.write.write_eight.Goals as goal

pub returns-clause-digits : goal.returns-clause-digits
returns-clause-digits c = (eight_written c.args.number _ _ (drop 8 c.args.output.now) c.requires.eight c.split_eight.ensures (c.copy_from_slice.ensures.after ∙ c.to_le_bytes.ensures)).0

pub returns-clause-value : goal.returns-clause-value
returns-clause-value c = (eight_written c.args.number _ _ (drop 8 c.args.output.now) c.requires.eight c.split_eight.ensures (c.copy_from_slice.ensures.after ∙ c.to_le_bytes.ensures)).1
