use Rattle.ring_slots.proofs.Words.{◌++◌, ◌-◌, ◌<◌, ◌∙◌, ◌∷◌, ◌≡◌, None, Some, List, [], ap, arith, length, length-append, map, map-append, suc, sym}
use Rattle.ring_slots.proofs.Gap.{first_is_full, full_below, one_down, without}
use Rattle.ring_slots.proofs.passing.pass_full_down.Goals as goal

-- full cells and one more are full
one_more : {X : Type 0} (xs : List X) (cells : List _) (item : X) → cells ≡ map Some xs → cells ++ Some item ∷ [] ≡ map Some (xs ++ item ∷ [])
one_more xs cells item full = ap (λ l. l ++ Some item ∷ []) full ∙ sym (map-append Some xs (item ∷ []))

pub item_mut-requires : goal.item_mut-requires
item_mut-requires g c =
    let (xs, full) = c.requires in let i = c.loop-at.at - 1 in let all = c.args.cells.now ++ Some c.args.item ∷ [] in
    let next : c.loop-at.at ≡ suc i = omega (arith, c.loop-at-test.true) in
    let within : suc i < length all = omega (arith, c.loop-at-test.true, c.loop-at.invariant.2, length-append c.args.cells.now (Some c.args.item ∷ [])) in
    full_below (xs ++ c.args.item ∷ []) all (one_more xs c.args.cells.now c.args.item full) c.loop-at.cells i c.index-cells-at.result within (c.loop-at.invariant.0 ∙ ap (without all) next)

pub loop-at-preserved : goal.loop-at-preserved
loop-at-preserved g c =
    let i = c.loop-at.at - 1 in let all = c.args.cells.now ++ Some c.args.item ∷ [] in
    let within : suc i < length all = omega (arith, c.loop-at-test.true, c.loop-at.invariant.2, length-append c.args.cells.now (Some c.args.item ∷ [])) in
    let moved = one_down all c.loop-at.cells i c.loop-at.at c.index-cells-at.result None (Some c.replace-passed.new.dest) (Some c.replace-passed.result)
    (omega (arith, c.loop-at-test.true)) within (rw c.replace-passed.ensures.value c.item_mut.ensures.value) c.loop-at.invariant.0 (rw c.replace-passed.ensures.after c.loop-at.invariant.1) in
    (moved.0, moved.1, omega (arith, c.loop-at.invariant.2))

pub unwrap-requires : goal.unwrap-requires
unwrap-requires g c =
    let (xs, full) = c.requires in first_is_full (xs ++ c.args.item ∷ []) _ (one_more xs c.args.cells.now c.args.item full) c.pass_down.new.items c.pass_down.result c.pass_down.ensures
