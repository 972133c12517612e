use Rattle.ring_core.proofs.Words.{sym, ◌∙◌, arith, drop_all, false, true}
use Rattle.ring_core.proofs.Answered.{IsAnyAnswer-list_any}
use Rattle.ring_core.proofs.Reading.{drop_read}
use Rattle.ring_core.proofs.ring.RingBuffer.contains.Goals as goal

pub returns-then-eq : goal.returns-then-eq
returns-then-eq g c =
    let read = drop_read (g.Self.RingBuffer.contents c.args.self.now) c.loop-i.i _ c.unwrap.result (omega arith) c.get.ensures.value c.unwrap.ensures in
    let value = rw (read, sym c.eq.ensures ∙ c.if-eq.true) at c.loop-i.invariant in
    record {
      value = value;
      cases = IsAnyAnswer-list_any _ _ true value;
    }

pub returns-clause-cases : goal.returns-clause-cases
returns-clause-cases g c =
    let items = g.Self.RingBuffer.contents c.args.self.now in
    IsAnyAnswer-list_any _ items false (rw (drop_all c.loop-i.i items (omega arith)) at c.loop-i.invariant)

pub loop-i-preserved : goal.loop-i-preserved
loop-i-preserved g c =
    let read = drop_read (g.Self.RingBuffer.contents c.args.self.now) c.loop-i.i _ c.unwrap.result (omega arith) c.get.ensures.value c.unwrap.ensures in
    rw (read, sym c.eq.ensures ∙ c.if-eq.false) at c.loop-i.invariant
