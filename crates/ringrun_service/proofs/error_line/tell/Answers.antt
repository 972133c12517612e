-- A write takes the front of the rest.
use Rattle.std.proofs.Common.{ap, subst, sym, ◌∙◌}
use Rattle.std.proofs.lemmas.List.{take_rest}
use Rattle.ringrun_service.proofs.WrittenSoFar.{wrote, wrote_nothing, Written}
use Rattle.ringrun_service.proofs.error_line.tell.Goals as goal
use Rattle.ringrun_service.proofs.error_line.tell.Goals.{in-Ok, in-Err+else-ne}

pub loop-preserved : goal.loop-preserved
loop-preserved g c =
    let old = g.E.Write.contents c.args.errors.now in let mid = g.E.Write.contents c.loop.errors in let new = g.E.Write.contents c.write.new.self in
    let rest = c.loop.rest.now in
    elim c.match-write.branch [
      | in-Ok w ↦ subst (Written old new _) (sym (ap (λ r. r.now) w.rest-is ∙ take_rest rest w.in-Ok.count)) (wrote old mid new _ rest w.in-Ok.count c.loop.invariant w.in-Ok.ensures.bytes)
      | in-Err+else-ne w ↦ subst (Written old new _) (sym (ap (λ r. r.now) w.rest-is)) (wrote_nothing old mid new _ rest c.loop.invariant w.in-Err.ensures.bytes)
    ]
