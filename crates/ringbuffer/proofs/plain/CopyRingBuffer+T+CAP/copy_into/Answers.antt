use Rattle.ringbuffer.proofs.Words.{common_steps, ◌≡◌, ℕ, ◌+◌, ◌<◌, ◌≤◌, List, ◌++◌, View, after_extend_from_slice, after_truncate, ap, arith, length, length-append, refl, ◌∙◌, after_fill}
use Rattle.ringbuffer.proofs.RepeatedSteps.{view_is}
use Rattle.ringbuffer.proofs.plain.CopyRingBuffer+T+CAP.copy_into.Goals as goal

-- Two slices that are pushed onto an emptied ring with room for both are what it holds.
filled : {X : Type 0} (v : View X) (xs ys all : List X) (n : ℕ) → 0 < n → length xs + length ys ≤ n → xs ++ ys ≡ all → after_extend_from_slice n (after_extend_from_slice n (after_truncate 0 v) xs) ys ≡ after_fill v all
filled v xs ys all n some room is =
    view_is (grind (arith, common_steps, is)) (grind (arith, common_steps, ap length is)) refl

pub returns : goal.returns
returns g c =
    let n = g.row.CAP in let first = c.as_slices.result.0.now in let second = c.as_slices.result.1.now in let all = c.as_slices.ensures.items in
    let room : length first + length second ≤ n = omega (arith, length-append first second, ap length all, c.len.ensures.within) in
    c.extend_from_slice-2.ensures ∙ ap (λ v. after_extend_from_slice n v second) (c.extend_from_slice.ensures ∙ ap (λ v. after_extend_from_slice n v first) c.truncate.ensures) ∙ filled c.args.other.now first second c.args.self.now.items n c.len.ensures.within.0 room all
