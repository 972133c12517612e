use Rattle.std.proofs.Common.{◌≡◌, ℕ, ◌-◌, ◌<◌, ◌≤◌, ◌++◌, ◌∷◌, ◌∙◌, [], Some, ap, append-nil, append_assoc, arith, get_or, length, refl, take}
use Rattle.std.proofs.lemmas.List.{take_all, take_more}
use Rattle.ringbuffer.proofs.Limits.{keep_last-keep_last}
use Rattle.ringbuffer.specs.Contents.{keep_last}
use Rattle.ringbuffer.specs.View.{View}
use Rattle.ring_uses.proofs.owned.push_each.Goals as goal

-- A ring holds no more than its limit.
pub loop-number-init : goal.loop-number-init
loop-number-init c = record {
  contents = let none_over : length c.args.ring.items - c.args.ring.capacity ≡ 0 = omega arith in rw (append-nil, none_over) refl;
  capacity = refl;
}

-- One more number is pushed.
pub loop-number-preserved : goal.loop-number-preserved
loop-number-preserved c =
    let start = c.args.ring in
    let xs = c.args.numbers.now in
    let i = c.loop-number.number-index in
    let x : ℕ = get_or xs i 0 in
    let below : i < length xs = omega arith in
    let so_far = c.loop-number.invariant in
    let last : c.push.new.self.items ≡ keep_last (Some c.loop-number.ring.capacity) (c.loop-number.ring.items ++ x ∷ []) = ap (λ (ring : View ℕ). ring.items) c.push.ensures.pushes in
    let pushed = rw (so_far.contents, so_far.capacity) at last in
    record {
      contents = rw (take_more xs i 0 below, ← append_assoc start.items (take i xs) (x ∷ [])) (pushed ∙ keep_last-keep_last (Some start.capacity) (start.items ++ take i xs) (x ∷ []));
      capacity = ap (λ (ring : View ℕ). ring.capacity) c.push.ensures.pushes ∙ so_far.capacity;
    }

-- All numbers are pushed at the end.
pub returns-clause-contents : goal.returns-clause-contents
returns-clause-contents c =
    let all : length c.args.numbers.now ≤ c.loop-number.number-index = omega arith in
    rw (take_all c.loop-number.number-index c.args.numbers.now all) at c.loop-number.invariant.contents

pub returns-clause-capacity : goal.returns-clause-capacity
returns-clause-capacity c = c.loop-number.invariant.capacity
