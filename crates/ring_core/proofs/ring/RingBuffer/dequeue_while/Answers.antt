use Rattle.ring_core.proofs.Words.{◌≡◌, ◌∙◌, ◌+◌, ◌++◌, ◌∷◌, [], add-one, ap, arith, drop, drop-drop, option_to_list, slice_get_past, take}
use Rattle.std.proofs.Common.{of_calls}
use Rattle.std.specs.Fn.{CalledAt}
use Rattle.std.proofs.lemmas.Fn.{FoldsTo-push, called_at}
use Rattle.ring_core.proofs.Items.{take-suc_get}
use Rattle.ring_core.proofs.Mapped.{first_fails, first_left, prefix_len-passes}
use Rattle.ring_core.proofs.ring.RingBuffer.dequeue_while.Goals as goal

pub returns-then-not-test-clause-called : goal.returns-then-not-test-clause-called
returns-then-not-test-clause-called g c = (_, c.loop-count.invariant.passed, rw (first_left _ _ _ _ _ c.loop-count.invariant.rest c.front.ensures c.unwrap.ensures) (_, called_at g.F.FnMut c.test.ensures c.if-not-test.true))

pub returns-then-not-test-clause-value : goal.returns-then-not-test-clause-value
returns-then-not-test-clause-value g c =
    λ test same. prefix_len-passes (CalledAt g.F.FnMut) test _ same _ _ (omega arith) (returns-then-not-test-clause-called g c)

pub returns-then-not-test-clause-first : goal.returns-then-not-test-clause-first
returns-then-not-test-clause-first g c =
    λ test same. rw (c.loop-count.invariant.rest, returns-then-not-test-clause-value g c test same) (first_fails test (g.Self.RingBuffer.contents c.args.self.now))

pub loop-count-preserved : goal.loop-count-preserved
loop-count-preserved g c =
    let old = g.Self.RingBuffer.contents c.args.self.now in
    let n = c.loop-count.count in
    let at = c.loop-count.invariant in
    let one_more : take (n + 1) old ≡ take n old ++ c.unwrap.result.now ∷ [] = rw add-one (take-suc_get old n ∙ ap (λ o. take n old ++ option_to_list o) (first_left old (g.Self.RingBuffer.contents c.loop-count.self) n c.front.result c.unwrap.result at.rest c.front.ensures c.unwrap.ensures)) in
    record {
      rest = c.skip.ensures.rest ∙ ap (drop 1) at.rest ∙ drop-drop 1 n old;
      passed = rw one_more (FoldsTo-push _ _ _ _ _ _ at.passed (called_at g.F.FnMut c.test.ensures c.if-not-test.false));
      callable = search of_calls;
      limit = c.skip.ensures.limit ∙ at.limit;
      changes = λ some. let before = at.changes some in let one = (rw at.limit at c.skip.ensures.changes) some in (omega (arith, before, one), omega (arith, before, one));
    }

pub returns-clause-called : goal.returns-clause-called
returns-clause-called g c =
    let old = g.Self.RingBuffer.contents c.args.self.now in
    let all : c.loop-count.count ≡ c.len-len.result = omega arith in
    rw (← all) (_, c.loop-count.invariant.passed, rw (slice_get_past old c.loop-count.count (omega arith)) tt)

pub returns-clause-value : goal.returns-clause-value
returns-clause-value g c = λ test same. prefix_len-passes (CalledAt g.F.FnMut) test _ same _ _ (omega arith) (returns-clause-called g c)

pub returns-clause-first : goal.returns-clause-first
returns-clause-first g c =
    let all : c.loop-count.count ≡ c.len-len.result = omega arith in
    λ test same. rw (c.loop-count.invariant.rest, all, returns-clause-value g c test same) (first_fails test (g.Self.RingBuffer.contents c.args.self.now))
