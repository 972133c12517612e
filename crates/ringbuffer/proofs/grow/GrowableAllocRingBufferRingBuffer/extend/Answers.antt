use Rattle.ringbuffer.proofs.Words.{◌∷◌, ◌++◌, [], append_assoc, refl, List, Option, Some, Result, Ok, Err, MatchResult, YieldsThen, Drains, Yields-both}
use Rattle.ringbuffer.proofs.grow.GrowableAllocRingBufferRingBuffer.extend.Goals as goal

-- a part, an item, and all that comes after it or a part of that
both_parts : {S A E : Type 0} (steps : S → Option A → S → Type 0) (s u : S) (xs ys : List A) (x : A) (r : Result (Unit {0}) E)
    → YieldsThen steps s xs (Some x) u → MatchResult r (λ _. Drains steps u ys) (λ _. (y : A) × (after : S) × YieldsThen steps u ys (Some y) after)
    → MatchResult r (λ _. Drains steps s (xs ++ x ∷ ys)) (λ _. (y : A) × (after : S) × YieldsThen steps s (xs ++ x ∷ ys) (Some y) after)
both_parts steps s u xs ys x (Ok done) first later =
    let all = later.1 in (later.0, (all.0, Yields-both steps xs (x ∷ ys) s first.0 all.0 first.1 (u, first.2, all.1), all.2))
both_parts steps s u xs ys x (Err e) first later =
    let part = later.2 in (later.0, later.1, (part.0, Yields-both steps xs (x ∷ ys) s first.0 part.0 first.1 (u, first.2, part.1), part.2))

-- What was poured, the item that found no room, and what came after it.
pub returns-clause-extends : goal.returns-clause-extends
returns-clause-extends g c =
    let source = c.into_iter-items.result in let old = c.args.self.now in let item = c.in-Some.item in
    let (xs, poured, given, _) = c.pour-filled.ensures in let (ys, pushed, later) = c.push_each-2.ensures in let put = c.in_default-push.ensures.ok refl in
    let ran = both_parts g.I.IntoIter.Iterator.next_gives source c.pour-filled.result.1 xs ys item _ (rw c.in-Some.is at given) later in
    (source, xs ++ item ∷ ys, c.into_iter-items.ensures.into_iter_gives, cc (append_assoc (old ++ xs) (item ∷ []) ys, append_assoc old xs (item ∷ ys)), tt, ran)

-- All was poured.
pub returns-in_default-clause-extends : goal.returns-in_default-clause-extends
returns-in_default-clause-extends g c =
    let (xs, poured, given, _) = c.pour-filled.ensures in
    (c.into_iter-items.result, xs, c.into_iter-items.ensures.into_iter_gives, cc, tt, (_, rw c.in_default.is at given))

-- The item that found no room was refused it.
pub returns-in-Err-clause-extends : goal.returns-in-Err-clause-extends
returns-in-Err-clause-extends g c =
    let (xs, poured, given, _) = c.pour-filled.ensures in let (_, same) = c.in-Err.ensures.err in
    (c.into_iter-items.result, xs, c.into_iter-items.ensures.into_iter_gives, cc, tt, (c.in-Some.item, _, rw c.in-Some.is at given))
