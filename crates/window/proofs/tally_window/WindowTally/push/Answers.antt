use Rattle.std.proofs.Common.{◌∷◌, ◌∙◌, [], ap, length, length-append, refl, arith}
use Rattle.window.proofs.Pushed.{stay, stay_behind, stay_pushed}
use Rattle.window.proofs.tally_window.WindowTally.push.Goals as goal

-- What was overwritten stood before what stays, and the pushed item comes behind that.
pub slide-requires : goal.slide-requires
slide-requires g c =
    let xs = g.R.RingBuffer.contents c.self.inside.ring in
    let limit = g.R.RingBuffer.limit c.self.inside.ring in
    let all = stay_behind limit xs c.len.ensures.within in
    let pushed = c.in_ok-overwritten.ensures.ok refl ∙ stay_pushed limit xs c.args.item c.len.ensures.within in
    (stay limit xs, rw (c.in_ok-overwritten.ensures.overwrites, all) c.self.invariant, omega (arith, ap length pushed, length-append (stay limit xs) (c.args.item ∷ []), c.len-2.ensures.value, c.len-2.type_inv))
