-- The digits at the front, as the function counts them.
use Rattle.std.proofs.Common.{take, ap, sym, ◌∙◌}
use Rattle.std.proofs.lemmas.List.{take_rest}
use Rattle.decimal.proofs.Digits.{digits_front, is_long, size_read, unread_empty, unread_long}
use Rattle.decimal.proofs.read.read_size.Goals as goal

pub returns-then-end-eq0-clause-size : goal.returns-then-end-eq0-clause-size
returns-then-end-eq0-clause-size c = unread_empty c.args.text.now c.read_digits-size.result.1 c.read_digits-size.ensures.count c.if-end-eq0.true

pub returns-then-is_long-clause-size : goal.returns-then-is_long-clause-size
returns-then-is_long-clause-size c =
    let text = c.args.text.now in
    unread_long text (ap is_long (digits_front text ∙ ap (λ n. take n text) (sym c.read_digits-size.ensures.count)) ∙ sym c.is_long.ensures ∙ c.if-is_long.true)

pub returns-clause-size : goal.returns-clause-size
returns-clause-size c =
    let text = c.args.text.now in
    size_read text c.read_digits-size.result.0 c.read_digits-size.result.1 _ c.read_digits-size.ensures.size c.read_digits-size.ensures.count c.if-end-eq0.false
    (ap is_long (digits_front text ∙ ap (λ n. take n text) (sym c.read_digits-size.ensures.count)) ∙ sym c.is_long.ensures ∙ c.if-is_long.false)
    (take_rest text c.read_digits-size.result.1)
