use Rattle.ring_core.specs.Walk.{iterator_to_come}
use Rattle.std.proofs.lemmas.Iterator.Consumers.{YieldsList-from_first}
use Rattle.std.proofs.lemmas.Iterator.Search.{all_from_yields_List}
use Rattle.ring_core.proofs.iter.RingBufferIterator.all.Goals as goal

pub returns-clause-value : goal.returns-clause-value
returns-clause-value g c = λ test xs is told. all_from_yields_List test c.all.new.self _ _ c.all.ensures.ran (YieldsList-from_first (λ x. x.now) (iterator_to_come g.RB.RingBuffer.contents) xs is) told
