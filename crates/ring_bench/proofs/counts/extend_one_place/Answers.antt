use Rattle.std.proofs.Common.{◌≡◌, ◌∷◌, [], List, refl, ◌∙◌, length, IsOk, is_ok, true, Result, Ok, Err, MatchResult, rules, ap, arith}
use Rattle.std.specs.declared.array.IntoIter.{IntoIter}
use Rattle.std.specs.Array.Iter.{array_into_iter_items, array_steps}
use Rattle.std.specs.Iterator.{Drains}
use Rattle.std.proofs.lemmas.Iterator.Consumers.{YieldsList-from_shown}
use Rattle.ringbuffer.proofs.Conversions.{items_drained}
use Rattle.ring_bench.proofs.counts.extend_one_place.Goals as goal

-- what a match says of Ok holds where the result is Ok
on_ok : {X E P : Type 0} (Q : E → Type 0) (r : Result X E) → IsOk r → MatchResult r (λ _. P) Q → P
on_ok Q (Ok x) ok holds = holds
on_ok {X} {E} Q (Err e) ok holds = absurd (let no : is_ok {T = X} {E = E} (Err e) ≡ true = ok in cc)

-- what an array's items were, when all were taken
taken : {X : Type 0} {n : _} (it : IntoIter X n) (xs : List X) → Drains array_steps it xs → xs ≡ array_into_iter_items it
taken it xs drained = items_drained xs _ drained (YieldsList-from_shown array_steps (λ x. x) array_into_iter_items (λ s t e. e.0) (λ s x t e. e) it)

pub returns-clause-contents : goal.returns-clause-contents
returns-clause-contents g c =
    let (it, xs, from, kept, counted, drained) = c.extend.ensures.extends in
    let all : xs ≡ 1 ∷ 2 ∷ 3 ∷ [] = taken it xs (on_ok _ _ (c.extend.ensures.succeeds (search rules)) drained) ∙ from.0 in
    kept ∙ rw (c.requires.limit, c.requires.empty, all) refl

pub returns-clause-changes : goal.returns-clause-changes
returns-clause-changes g c =
    let (it, xs, from, kept, counted, drained) = c.extend.ensures.extends in
    let all : xs ≡ 1 ∷ 2 ∷ 3 ∷ [] = taken it xs (on_ok _ _ (c.extend.ensures.succeeds (search rules)) drained) ∙ from.0 in
    let risen = rw c.requires.limit at counted in
    omega (arith, risen.1, ap length (returns-clause-contents g c), ap length all, ap length c.requires.empty)
