use Rattle.std.proofs.Common.{◌≡◌, ◌∙◌, ◌-◌, ◌++◌, ap, append_assoc, arith, drop, length, length-append, length-drop, sym, take}
use Rattle.std.proofs.Math.Seq.{take-add}
use Rattle.std.proofs.lemmas.List.{length-take, take_all}
use Rattle.ring_uses.specs.Bytes.{Bytes}
use Rattle.ring_uses.proofs.Sent.{take-append-sent}
use Rattle.ring_uses.proofs.pipe.relay.Goals as goal

pub loop-sent-preserved : goal.loop-sent-preserved
loop-sent-preserved c =
    let done = c.loop-sent.invariant in
    let left = drop c.loop-sent.received c.args.input.now in
    let whole : take (length c.args.input.now - c.loop-sent.received) left ≡ left = take_all _ left (omega (arith, length-drop c.loop-sent.received c.args.input.now)) in
    let fits = rw whole at c.receive-received.ensures.count in
    let received = rw whole at c.receive-received.ensures.bytes in let bytes = ap (λ (v : Bytes). v.bytes) received in
    let sent = c.send-sent.ensures in
    record {
      within = omega (arith, fits, length-drop c.loop-sent.received c.args.input.now);
      on_its_way = rw sent.rest (omega (arith, fits, sent.count, ap length bytes, length-append c.loop-sent.pipe.bytes (take c.receive-received.result left), length-take c.receive-received.result left, length-drop c.send-sent.result c.receive-received.new.self.bytes));
      capacity = rw sent.rest (ap (λ (v : Bytes). v.capacity) received ∙ done.capacity);
      in_order = rw (sent.sent, sent.rest) (take-append-sent c.loop-sent.output c.receive-received.new.self.bytes _ _ c.loop-sent.sent c.send-sent.result (omega arith) (omega (arith, sent.count))
          ∙ rw bytes (sym (append_assoc _ c.loop-sent.pipe.bytes _) ∙ ap (λ l. l ++ take c.receive-received.result left) done.in_order ∙ sym (take-add c.loop-sent.received c.receive-received.result c.args.input.now)));
    }
