-- One more number, and the end where none is left.
use Rattle.std.proofs.Common.{◌++◌, ◌∷◌, [], arith, refl, length-append}
use Rattle.ringrun_service.proofs.Extensions.{one_more}
use Rattle.ringrun_service.proofs.script.count_numbers.Goals as goal

pub loop-after-init : goal.loop-after-init
loop-after-init c = ([], (λ numbers rest at. at), omega arith, refl)

pub loop-after-preserved : goal.loop-after-preserved
loop-after-preserved c =
    let all = c.loop-after.invariant in let n = c.in-Some.field-0-0 in let long = length-append all.0 (n ∷ []) in (
      all.0 ++ n ∷ [],
      one_more c.args.text.now c.loop-after.rest.now c.in-Some.after.now all.0 n all.1 c.in-Some.ensures.number,
      omega (arith, all.2, c.in-Some.ensures.shorter, long),
      omega (arith, all.3, long),
    )

pub returns : goal.returns
returns c =
    let all = c.loop-after.invariant in let long = length-append all.0 [] in
    record { numbers = (all.0 ++ [], all.1 [] c.loop-after.rest.now (c.in_default.ensures.number, refl), omega (arith, all.2, long), omega (arith, all.3, long)) }
