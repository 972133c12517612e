use Rattle.std.proofs.Common.{◌≡◌, ℤ, pos, ◌-◌, ◌<◌, ◌≤◌, ◌++◌, ◌∷◌, ◌∙◌, [], Some, append-nil, append_assoc, arith, get_or, length, refl, rules, take}
use Rattle.std.specs.Prelude.{FitsSigned}
use Rattle.std.specs.Int.{w64}
use Rattle.std.proofs.lemmas.Int.{to_z-of_z}
use Rattle.std.proofs.lemmas.List.{take_all, take_more}
use Rattle.ringbuffer.proofs.Limits.{keep_last-keep_last}
use Rattle.ring_uses.proofs.sliding_window.Window.extend.Goals as goal

-- A window holds no more than it can.
pub loop-sample-init : goal.loop-sample-init
loop-sample-init g c =
    let none_over : length c.args.self.now - g.row.N ≡ 0 = omega (arith, c.count.ensures.value, c.count.ensures.within) in
    rw (append-nil, none_over) refl

-- One more sample is pushed.
pub loop-sample-preserved : goal.loop-sample-preserved
loop-sample-preserved g c =
    let xs = c.args.series.now in
    let i = c.loop-sample.sample-index in
    let x : ℤ = get_or xs i (pos 0) in
    let in_range : FitsSigned w64 x = search rules in
    let below : i < length xs = omega arith in
    let pushed = rw (to_z-of_z w64 x in_range, c.loop-sample.invariant) at c.push.ensures in
    rw (take_more xs i (pos 0) below, ← append_assoc c.args.self.now (take i xs) (x ∷ [])) (pushed ∙ keep_last-keep_last (Some g.row.N) (c.args.self.now ++ take i xs) (x ∷ []))

-- All samples are pushed at the end.
pub returns : goal.returns
returns g c =
    let all : length c.args.series.now ≤ c.loop-sample.sample-index = omega arith in
    rw (take_all c.loop-sample.sample-index c.args.series.now all) at c.loop-sample.invariant
