-- One more number, and the end where none is left.
use Rattle.std.proofs.Common.{◌++◌, ◌∷◌, [], ap, sym, ◌∙◌, append-nil, append_assoc, arith, refl, rules, w64, length-append}
use Rattle.std.proofs.lemmas.Int.{to_z-of_z}
use Rattle.ringbuffer.specs.Contents.{keep_last}
use Rattle.ringbuffer.proofs.Limits.{keep_last-keep_last, keep_last_within}
use Rattle.ringrun_service.proofs.Extensions.{one_more}
use Rattle.ringrun_service.proofs.Numbers.{number_fits}
use Rattle.ringrun_service.proofs.service.push_numbers.Goals as goal

pub loop-number-init : goal.loop-number-init
loop-number-init g c =
    let l = g.R.RingBuffer.contents c.args.ring.now in let limit = g.R.RingBuffer.limit c.args.ring.now in
    record {
      same_limit = refl;
      read = ([], (λ numbers rest at. at), omega arith, sym (ap (keep_last limit) (append-nil l) ∙ keep_last_within limit l c.len-held.ensures.within));
    }

pub loop-number-preserved : goal.loop-number-preserved
loop-number-preserved g c =
    let all = c.loop-number.invariant.read in let same = c.loop-number.invariant.same_limit in let n = c.in-Some.number in
    let l = g.R.RingBuffer.contents c.args.ring.now in let limit = g.R.RingBuffer.limit c.args.ring.now in let made = c.make_room.new.ring in let now = g.R.RingBuffer.contents made in
    record {
      same_limit = c.push.ensures.limit ∙ c.make_room.ensures.limit ∙ same;
      read = (
        all.0 ++ n ∷ [],
        one_more c.args.text.now c.loop-number.rest.now c.in-Some.after.now all.0 n all.1 c.in-Some.ensures.number,
        omega (arith, all.2, c.in-Some.ensures.shorter, length-append all.0 (n ∷ [])),
        c.push.ensures.ok (search rules) ∙ ap (λ x. keep_last (g.R.RingBuffer.limit made) (now ++ x ∷ [])) (to_z-of_z w64 n (number_fits c.loop-number.rest.now n c.in-Some.after.now c.in-Some.ensures.number))
            ∙ ap (λ m. keep_last m (now ++ n ∷ [])) (c.make_room.ensures.limit ∙ same)
            ∙ ap (λ xs. keep_last limit (xs ++ n ∷ [])) (c.make_room.ensures.contents ∙ all.3) ∙ keep_last-keep_last limit (l ++ all.0) (n ∷ []) ∙ ap (keep_last limit) (append_assoc l all.0 (n ∷ [])),
      );
    }

pub returns-clause-pushed : goal.returns-clause-pushed
returns-clause-pushed g c =
    let all = c.loop-number.invariant.read in
    let l = g.R.RingBuffer.contents c.args.ring.now in let limit = g.R.RingBuffer.limit c.args.ring.now in (
      all.0 ++ [],
      all.1 [] c.loop-number.rest.now (c.in_default.ensures.number, refl),
      omega (arith, all.2, length-append all.0 []),
      all.3 ∙ ap (λ xs. keep_last limit (l ++ xs)) (sym (append-nil all.0)),
    )
