use Rattle.ring_core.proofs.Words.{All, rules, List, [], ◌∷◌, FoldsTo, All-cons, All-nil}
use Rattle.ring_core.proofs.ring.RingBuffer.fill_default.Goals as goal

-- what calls made, where each call makes such an item
All-FoldsTo : {F A : Type 0} (step : F → A → F → Type 0) (P : A → Type 0) → ((f : F) (x : A) (g : F) → step f x g → P x)
    → (f : F) (xs : List A) (last : F) → FoldsTo step f xs last → All P xs
All-FoldsTo step P each f [] last ran = All-nil P
All-FoldsTo step P each f (x ∷ xs) last ran = All-cons P x xs (each f x ran.0 ran.1) (All-FoldsTo step P each ran.0 xs last ran.2)

pub returns-clause-items : goal.returns-clause-items
returns-clause-items g c =
    All-FoldsTo _ g.T.Default.is_default (λ f x h called. search rules) _ (g.Self.RingBuffer.contents c.fill_with.new.self) _ c.fill_with.ensures.made.1
