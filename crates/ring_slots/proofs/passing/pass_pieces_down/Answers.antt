use Rattle.ring_slots.proofs.Words.{◌≡◌, ◌-◌, ◌+◌, arith}
use Rattle.ring_slots.proofs.Pieces.{last_piece, piece_more}
use Rattle.ring_slots.proofs.passing.pass_pieces_down.Goals as goal

pub loop-end-preserved : goal.loop-end-preserved
loop-end-preserved g c =
    let old = c.args.items.now in let now = c.loop-end.items in let end = c.loop-end.end in let from = end - c.args.piece in
    let (within, same, back) = c.loop-end.invariant in
    let apart : from + (end - from) ≡ end = omega (arith, c.loop-end-test.true) in
    let moved = piece_more old now c.pass_piece_down-passed.new.items from end (end - from) c.args.item c.loop-end.passed c.pass_piece_down-passed.result same within c.loop-end.auto.items back apart c.pass_piece_down-passed.ensures in
    (omega (arith, within), moved.0, moved.1)

pub returns : goal.returns
returns g c =
    last_piece c.args.items.now c.loop-end.items c.pass_piece_down.new.items c.loop-end.end c.loop-end.end c.loop-end.end c.args.item c.loop-end.passed c.pass_piece_down.result
    c.loop-end.invariant.1 c.loop-end.invariant.0 c.loop-end.auto.items c.loop-end.invariant.2 c.pass_piece_down.ensures
