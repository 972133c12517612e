use Rattle.window.specs.FloatSumLaws.{float_sum_of_nan, float_sum_of_whole}
use Rattle.ring_uses.proofs.window_laws.whole_sum.Goals as goal

pub returns-clause-exact : goal.returns-clause-exact
returns-clause-exact g c = λ ns are few. float_sum_of_whole ns few (rw are at c.sum.ensures)

pub returns-clause-nan : goal.returns-clause-nan
returns-clause-nan g c = λ has. float_sum_of_nan has c.sum.ensures
