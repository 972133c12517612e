use Rattle.ring_slots.proofs.Words.{ap, drop-drop, refl, sym, take-append-drop, ◌∙◌, ◌≡◌, ◌++◌, ◌+◌, List, ℕ, cut, take}
use Rattle.ring_slots.proofs.cells.Cells.copy_within.Goals as goal

-- a list is what comes before a stretch of it, the stretch, and what comes after
in_three : {A : Type 0} (xs : List A) (from n : ℕ) → xs ≡ take from xs ++ (take n (cut from xs) ++ cut (from + n) xs)
in_three xs from n = sym (take-append-drop from xs) ∙ ap (λ l. take from xs ++ l) (sym (take-append-drop n (cut from xs)) ∙ rw (drop-drop n from xs) refl)

-- Nothing moves.
pub returns-then-from-to : goal.returns-then-from-to
returns-then-from-to g c = rw c.if-from-to.true (in_three c.args.self.now.xs c.args.to c.args.count)
