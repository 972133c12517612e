use Rattle.std.proofs.Common.{length, ap}
use Rattle.std.proofs.iter.runs.Sources.{as_is, as_is_back, from_back, from_front}
use Rattle.ring_core.specs.Walk.{into_iter_to_come}
use Rattle.ring_core.proofs.into_iter.RingBufferIntoIterator.new.Goals as goal

pub returns-clause-runs : goal.returns-clause-runs
returns-clause-runs g c = λ p _. as_is p _ (from_front _ (λ x. x) (into_iter_to_come g.RB.RingBuffer.contents) (λ s t ends. ap length ends.0.0) (λ s x t gives. gives.0) p p.seen)

pub returns-clause-runs_back : goal.returns-clause-runs_back
returns-clause-runs_back g c = λ p _. as_is_back p _ (from_back _ (λ x. x) (into_iter_to_come g.RB.RingBuffer.contents) (λ s t ends. ap length ends.0.0) (λ s x t gives. gives.0) p p.seen)
