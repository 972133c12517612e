-- Words that ask for no ring at all ask for none that the program has, and for none that is too large.
use Rattle.std.proofs.Common.{◌≡◌, ℕ, IfOk, IfSome, List, Option, Result, Vec, refl, rules}
use Rattle.std.specs.Global.{Global}
use Rattle.std.proofs.lemmas.Result.{IfOk-weaker}
use Rattle.ringrun_service.specs.Arguments.{AsksFor}
use Rattle.ringrun_service.specs.Program.{Prints, limit_of}
use Rattle.ringrun_service.specs.declared.arguments.Arguments.{Arguments}
use Rattle.ringrun_service.proofs.service.text_for.Goals as goal

pub returns-in_err-kind-clause-arguments : goal.returns-in_err-kind-clause-arguments
returns-in_err-kind-clause-arguments g c =
    let asks_for_none = c.in_err-kind.ensures.asks_for_none in
    ((λ _ named. asks_for_none (search rules) named.0 named.1), (λ _. search rules))

pub returns-in_err-kind-clause-ring_first : goal.returns-in_err-kind-clause-ring_first
returns-in_err-kind-clause-ring_first g c =
    let asks_for_none = c.in_err-kind.ensures.asks_for_none in
    λ asks. absurd (asks_for_none (search rules) asks.0 asks.1)

-- What a ring prints that has the limit which the words ask for.
asked_for : {E : Type 0} (result : Result (Vec ℕ Global) E) (words : List (List ℕ)) (input : Option (List ℕ)) (limit : Option ℕ) (a : Arguments) → AsksFor words a → limit_of a.kind a.capacity ≡ limit
    → IfOk result (λ text. IfSome input (λ bytes. Prints limit bytes text.items)) → IfOk result (λ text. (b : Arguments) × AsksFor words b × IfSome input (λ bytes. Prints (limit_of b.kind b.capacity) bytes text.items))
asked_for result words input limit a asks is text = IfOk-weaker result _ _ (λ made prints. (a, asks, rw is prints)) text

pub returns-in-1-clause-text : goal.returns-in-1-clause-text
returns-in-1-clause-text g c = asked_for c.run_input.result _ _ _ c.in_ok-kind.field-0 c.in_ok-kind.ensures.ok (rw (c.in-Array.is, c.in-1.is) refl) c.run_input.ensures.text

pub returns-in-2-clause-text : goal.returns-in-2-clause-text
returns-in-2-clause-text g c = asked_for c.run_input-in-2.result _ _ _ c.in_ok-kind.field-0 c.in_ok-kind.ensures.ok (rw (c.in-Array.is, c.in-2.is) refl) c.run_input-in-2.ensures.text

pub returns-in-3-clause-text : goal.returns-in-3-clause-text
returns-in-3-clause-text g c = asked_for c.run_input-in-3.result _ _ _ c.in_ok-kind.field-0 c.in_ok-kind.ensures.ok (rw (c.in-Array.is, c.in-3.is) refl) c.run_input-in-3.ensures.text

pub returns-in-4-clause-text : goal.returns-in-4-clause-text
returns-in-4-clause-text g c = asked_for c.run_input-in-4.result _ _ _ c.in_ok-kind.field-0 c.in_ok-kind.ensures.ok (rw (c.in-Array.is, c.in-4.is) refl) c.run_input-in-4.ensures.text

pub returns-in-8-clause-text : goal.returns-in-8-clause-text
returns-in-8-clause-text g c = asked_for c.run_input-in-8.result _ _ _ c.in_ok-kind.field-0 c.in_ok-kind.ensures.ok (rw (c.in-Array.is, c.in-8.is) refl) c.run_input-in-8.ensures.text

pub returns-in-10-clause-text : goal.returns-in-10-clause-text
returns-in-10-clause-text g c = asked_for c.run_input-in-10.result _ _ _ c.in_ok-kind.field-0 c.in_ok-kind.ensures.ok (rw (c.in-Array.is, c.in-10.is) refl) c.run_input-in-10.ensures.text

pub returns-in_ok-ring-in-Heap-clause-text : goal.returns-in_ok-ring-in-Heap-clause-text
returns-in_ok-ring-in-Heap-clause-text g c = asked_for c.run_input-in-Heap.result _ _ _ c.in_ok-kind.field-0 c.in_ok-kind.ensures.ok (rw (c.in-Heap.is, c.in_ok-ring-in-Heap.ensures.made) refl) c.run_input-in-Heap.ensures.text

pub returns-in_ok-ring-in-Grow-clause-text : goal.returns-in_ok-ring-in-Grow-clause-text
returns-in_ok-ring-in-Grow-clause-text g c = asked_for c.run_input-in-Grow.result _ _ _ c.in_ok-kind.field-0 c.in_ok-kind.ensures.ok (rw c.in-Grow.is refl) c.run_input-in-Grow.ensures.text
