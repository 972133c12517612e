use Rattle.window.proofs.Combined.{both_combine}
use Rattle.window.proofs.fold_window.KeptKeepsFold.combine.Goals as goal

-- By the laws, of two lists in a row.
pub returns-clause-both : goal.returns-clause-both
returns-clause-both g c = λ xs ys is is'. rw c.combine.ensures.value (both_combine g.met.M.Monoid.laws xs ys is is')
