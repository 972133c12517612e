-- The answer of a search item by item, and what it says of the items.
use Rattle.ring_core.proofs.Words.{◌≡◌, Bool, true, false, List, sym, ap, ◌∙◌, inl, inr, list_any, cases_Bool, false≢true, get_or}
use Rattle.std.proofs.lemmas.List.{get_or_default}
use Rattle.std.proofs.lemmas.List.Folds.{Any-from_list_any, list_any_at}
use Rattle.std.specs.List.{IsAnyAnswer}

-- The test passes some item, or no item.
pub IsAnyAnswer-list_any : {X : Type 0} (p : X → Bool) (xs : List X) (r : Bool) → r ≡ list_any p xs → IsAnyAnswer (λ y b. p y ≡ b) xs r
IsAnyAnswer-list_any p xs true is =
    let (k, x, below, at, passes) = Any-from_list_any p xs (sym is) in
    (k, below, λ d. ap p (get_or_default xs k d x below ∙ at) ∙ passes)
IsAnyAnswer-list_any p xs false is = λ k d low below.
    elim (cases_Bool (p (get_or xs k d))) [ inl passes ↦ absurd (false≢true (is ∙ list_any_at p xs k d below passes)) | inr fails ↦ fails ]
