use Rattle.ringbuffer.proofs.Words.{◌≡◌, ◌≤◌, ◌+◌, ◌-◌, ◌++◌, AllZip, IfOk, IfOk-weaker, List, ap, arith, common_steps, drop, length, length-append, length-take, rules, take, take-take}
use Rattle.ringbuffer.proofs.PushedClones.{joined}
use Rattle.ringbuffer.proofs.two_slices.clone_slices_into.Goals as goal
use Rattle.ringbuffer.proofs.two_slices.clone_slices_into.Goals.{After-clone_slice_into-2}

-- Clones of the first slice, which is done unless the output is full, and then those of the second.
made : (g : _) (c : After-clone_slice_into-2 g) → (xs : List _) × AllZip g.T.Clone.is_clone (take (length xs) (c.args.items.0.now ++ c.args.items.1.now)) xs
    × (c.clone_slice_into.new.output ++ c.clone_slice_into-2.new.output ≡ xs ++ drop (length xs) c.args.output.now)
    × IfOk c.clone_slice_into-2.result (λ n. c.min-before.result + n ≡ length xs)
made g c =
    let (ys, first, is, all) = c.in_ok-clone_slice_into.ensures.clones in let (zs, second, goes_on, whole) = c.clone_slice_into-2.ensures.clones in
    let parts = c.split_at_mut-front.ensures in let cut = c.min-before.result in let out = c.args.output.now in
    let long : length ys ≡ cut = omega (arith, all, c.in_ok-clone_slice_into.ensures.count, length-take cut c.args.items.0.now) in
    let few : length zs ≤ length out - cut = omega (arith, ap (λ (l : List _). length l) goes_on, length-append zs (drop (length zs) c.split_at_mut-front.result.1.now)) in
    let start = rw (take-take (length ys) cut c.args.items.0.now (omega arith)) at first in (
      ys ++ zs,
      joined g.T.Clone.is_clone c.args.items.0.now c.args.items.1.now ys zs (omega arith) (λ some. omega arith) start second,
      rw (is, goes_on, parts.front, parts.back) (grind (arith, common_steps)),
      IfOk-weaker c.clone_slice_into-2.result _ _ (λ n counted. omega (arith, long, counted, length-append ys zs)) whole,
    )

pub returns-in_err-clone_slice_into-2-clause-clones : goal.returns-in_err-clone_slice_into-2-clause-clones
returns-in_err-clone_slice_into-2-clause-clones g c = let (xs, clones, out, _) = made g c.before.before.before.before.before.before in (xs, clones, out, search rules)

pub returns-clause-clones : goal.returns-clause-clones
returns-clause-clones g c = let (xs, clones, out, whole) = made g c.before.before.before.before.before in (xs, clones, out, omega (arith, simp c.in_ok-clone_slice_into-2.was at whole))

pub returns-in_err-clone_slice_into-clause-clones : goal.returns-in_err-clone_slice_into-clause-clones
returns-in_err-clone_slice_into-clause-clones g c = grind (arith, common_steps)
