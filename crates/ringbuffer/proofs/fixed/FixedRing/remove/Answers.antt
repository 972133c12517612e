use Rattle.ringbuffer.proofs.Words.{◌-◌, ◌∙◌, View, after_writes, ap, arith, length, sym}
use Rattle.ringbuffer.proofs.Passed.{take_first_is, took_last}
use Rattle.ringbuffer.proofs.fixed.FixedRing.remove.Goals as goal

pub returns-then-index-behind-clause-some : goal.returns-then-index-behind-clause-some
returns-then-index-behind-clause-some g c = λ low.
    let i = c.args.index in let len = c.self.invariant.counted ∙ ap (λ (w : View _). length w.items) c.self.view_is in
    let (xs, order, after) = c.pass_up.ensures in let took = c.take_first.ensures in
    after ∙ ap (after_writes 0 xs) took.after
    ∙ take_first_is i c.args.self.now c.pass_up.result xs low c.in_ok-first.first (sym took.value ∙ c.in_ok-first.was)
    (rw (ap (λ (w : View _). w.items) took.after) at order) (omega (arith, len, c.if-index-behind.true))

pub returns-clause-value : goal.returns-clause-value
returns-clause-value g c =
    let i = c.args.index in let len = c.self.invariant.counted ∙ ap (λ (w : View _). length w.items) c.self.view_is in
    let (xs, order, after) = c.pass_down.ensures in let took = c.pop_back.ensures in
    let (value, rest) = took_last i c.args.self.now c.pass_down.result xs (omega (arith, c.if-index-len.false, c.len.ensures.value)) c.in_ok-last.last (c.self.inside.span.len - 1 - i) (omega (arith, len)) (sym took.value ∙ c.in_ok-last.was)
    (rw (ap (λ (w : View _). w.items) took.after) at order) in
    sym value

pub returns-clause-some : goal.returns-clause-some
returns-clause-some g c = λ low.
    let i = c.args.index in let len = c.self.invariant.counted ∙ ap (λ (w : View _). length w.items) c.self.view_is in
    let (xs, order, after) = c.pass_down.ensures in let took = c.pop_back.ensures in
    let (value, rest) = took_last i c.args.self.now c.pass_down.result xs low c.in_ok-last.last (c.self.inside.span.len - 1 - i) (omega (arith, len)) (sym took.value ∙ c.in_ok-last.was)
    (rw (ap (λ (w : View _). w.items) took.after) at order) in
    after ∙ ap (after_writes i xs) took.after ∙ rest (omega (arith, len, c.if-index-behind.false))
