-- The bytes so far are the digits at the front where the next is none.
use Rattle.std.proofs.Common.{◌≡◌, ◌^◌, ◌%◌, refl, get_or, length, take, arith, ap, sym, ◌∙◌}
use Rattle.decimal.proofs.Digits.{all_from, below_length, digit, digits_done, told}
use Rattle.std.proofs.lemmas.Int.Digits.{digits_value_more}
use Rattle.std.proofs.lemmas.List.{length-take, length-take-le}
use Rattle.std.proofs.lemmas.List.Folds.{list_all_more}
use Rattle.std.specs.Str.Parse.{digits_value}
use Rattle.decimal.specs.Numerals.{digits_at}
use Rattle.decimal.proofs.read.read_digits.Goals as goal
use Rattle.decimal.proofs.read.read_digits.Goals.{in-Some, in-None}

pub loop-at-init : goal.loop-at-init
loop-at-init c = elim c.match-first_eight.branch [
  | in-Some w ↦
      let facts = w.in-Some.ensures in
      let all = all_from (take 8 c.args.text.now) facts.0.1 in
      let few = below_length (take 8 c.args.text.now) 8 all (omega (arith, length-take 8 c.args.text.now)) in
      rw w.size-is (record { within = facts.0.0; digits = all; size = omega (arith, facts.1, few) })
  | in-None w ↦ rw w.size-is (record { within = omega arith; digits = refl; size = refl })
]

-- the byte that is none
stops : (c : goal.Then-digit-gt9) → digits_at c.args.text.now ≡ take c.loop-at.at c.args.text.now
stops c =
    let b = get_or c.args.text.now c.loop-at.at 0 in
    let byte = told b _ _ _ (c.type_inv.text c.loop-at.at).fits c.from.ensures c.from-in-loop-at.ensures refl in
    digits_done c.args.text.now c.loop-at.at c.loop-at.invariant.digits (λ _. byte.0 c.if-digit-gt9.true)

pub returns-then-digit-gt9-clause-size : goal.returns-then-digit-gt9-clause-size
returns-then-digit-gt9-clause-size c = c.loop-at.invariant.size ∙ ap (λ ds. digits_value 10 ds % 2 ^ 64) (sym (stops c))

pub returns-then-digit-gt9-clause-count : goal.returns-then-digit-gt9-clause-count
returns-then-digit-gt9-clause-count c =
    let at = length-take-le c.loop-at.at c.args.text.now (omega (arith, c.loop-at-test.true)) in sym (ap length (stops c) ∙ at)

pub loop-at-preserved : goal.loop-at-preserved
loop-at-preserved c =
    let text = c.args.text.now in let at = c.loop-at.at in let b = get_or text at 0 in
    let byte = (told b _ _ _ (c.type_inv.text at).fits c.from.ensures c.from-in-loop-at.ensures refl).1 (omega (arith, c.if-digit-gt9.false)) in
    record {
      within = omega (arith, c.loop-at-test.true);
      digits = rw (list_all_more digit text at 0 c.loop-at-test.true, c.loop-at.invariant.digits, byte.0) refl;
      size = omega (arith, c.loop-at.invariant.size, byte.1, digits_value_more 10 text at c.loop-at-test.true);
    }

all : (c : goal.After-loop-at) → (c.loop-at.at ≡ length c.args.text.now) × (digits_at c.args.text.now ≡ take c.loop-at.at c.args.text.now)
all c = (omega (arith, c.loop-at.invariant.within, c.loop-at-test.false), digits_done c.args.text.now c.loop-at.at c.loop-at.invariant.digits (λ l. absurd (omega (arith, l, c.loop-at-test.false))))

pub returns-clause-size : goal.returns-clause-size
returns-clause-size c = c.loop-at.invariant.size ∙ ap (λ ds. digits_value 10 ds % 2 ^ 64) (sym (all c).1)

pub returns-clause-count : goal.returns-clause-count
returns-clause-count c =
    let at = length-take-le c.loop-at.at c.args.text.now (omega (arith, (all c).0)) in sym (ap length (all c).1 ∙ at ∙ (all c).0)
