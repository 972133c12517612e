-- An extension by a vector takes the vector's items in order: all of them, or a cut beginning at a refusal.
use Rattle.ring_core.proofs.Words.{◌≡◌, Err, Ok, sym, ◌∙◌, map-id, rules}
use Rattle.ring_core.proofs.SourceEnds.{YieldsList-of_vec, all_extended, cut_extended, shown_drained}
use Rattle.ring_core.proofs.runs.apply.Goals as goal

pub returns-in-Ok-extend-clause-contents : goal.returns-in-Ok-extend-clause-contents
returns-in-Ok-extend-clause-contents g c =
    let (it, taken, source, kept, _, took) = c.in-Ok-extend.ensures.extends in
    rw c.in-Extend.is (all_extended {E = Unit {0}} taken (g.R.RingBuffer.limit c.args.ring.now) (g.R.RingBuffer.contents c.args.ring.now) _ (Ok tt) kept took (YieldsList-of_vec c.in-Extend.items it source.0 source.1))

pub returns-in-Ok-extend-clause-changes : goal.returns-in-Ok-extend-clause-changes
returns-in-Ok-extend-clause-changes g c =
    let (it, taken, source, _, changes, took) = c.in-Ok-extend.ensures.extends in
    let all : taken ≡ c.in-Extend.items.items = sym (map-id taken) ∙ shown_drained (λ x. x) taken _ took (YieldsList-of_vec c.in-Extend.items it source.0 source.1) in
    rw c.in-Extend.is (rw (← all) (λ some. search rules))

pub returns-in-Err-extend-clause-refused : goal.returns-in-Err-extend-clause-refused
returns-in-Err-extend-clause-refused g c =
    let (it, taken, source, kept, _, took) = c.in-Err-extend.ensures.extends in
    let v = c.in-Extend.items in
    let part = cut_extended {E = Unit {0}} taken (g.R.RingBuffer.limit c.args.ring.now) (g.R.RingBuffer.contents c.args.ring.now) _ (Err tt) kept took c.in-Err-extend.ensures.succeeds (YieldsList-of_vec v it source.0 source.1) in
    (v, c.in-Extend.is, rw c.in-Extend.is part)

pub returns-in-Clear-clause-contents : goal.returns-in-Clear-clause-contents
returns-in-Clear-clause-contents g c = search rules

pub returns-in-Dequeue-clause-contents : goal.returns-in-Dequeue-clause-contents
returns-in-Dequeue-clause-contents g c = search rules

pub returns-in-Dequeue-clause-reply : goal.returns-in-Dequeue-clause-reply
returns-in-Dequeue-clause-reply g c = search rules

pub returns-in-Ok : goal.returns-in-Ok
returns-in-Ok g c = search rules
