use Rattle.ringbuffer.proofs.Words.{Err, IsOk, MatchResult, Ok, Result}
use Rattle.ringbuffer.proofs.fixed.extend.FixedRingExtend.extend.Goals as goal

-- what follows of a call that is never refused, whatever a refusal would say
never_refused : {T E : Type 0} (Done : T → Type 0) (Refused Other : E → Type 0) (r : Result T E) → IsOk r → MatchResult r Done Refused → MatchResult r Done Other
never_refused _ _ _ (Ok x) ok done = done
never_refused _ _ _ (Err e) ok done = absurd cc

pub returns-clause-ran : goal.returns-clause-ran
returns-clause-ran g c =
    let (it, xs, is_it, kept, changes, ran) = c.extend.ensures.extends in
    (it, xs, is_it, (kept, c.extend.ensures.limit, changes), never_refused _ _ _ c.extend.result c.extend.ensures.succeeds ran)
