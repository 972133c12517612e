-- What a source gave in several calls, joined.
use Rattle.ringbuffer.proofs.Words.{List, [], ◌∷◌, ◌++◌, Bool, true, false, Some, refl, arith, IsFinite, MakesProgress, Ghosts, Gives, Yields-both}

module _ {S A : Type 0} (it : Ghosts S A) where
  abbrev pub gives : Bool → S → List A → S → Type 0
  gives = Gives it.can_next it.next_gives it.remaining

  -- no call yet
  pub Gives-none : (s : S) → it.can_next s → IsFinite (it.remaining s) → gives true s [] s
  Gives-none s may ends = (refl, may, ends, omega arith)

  -- one call gave an item
  pub Gives-one : (s t : S) (x : A) → it.next_gives s (Some x) t → MakesProgress it.can_next it.remaining s (Some x) t → IsFinite (it.remaining s) → gives true s (x ∷ []) t
  Gives-one s t x given goes ends = let on = goes.on ends in ((t, given, refl), on.0, on.1, omega (arith, on.2))

  -- some calls, and then others
  pub Gives-then : (more : Bool) (s t u : S) (xs ys : List A) → gives true s xs t → gives more t ys u → gives more s (xs ++ ys) u
  Gives-then true s t u xs ys (given, may, ends, nearer) (given', may', ends', nearer') = (Yields-both it.next_gives xs ys s t u given given', may', ends', omega (arith, nearer, nearer'))
  Gives-then false s t u xs ys first (v, given, ended) = (v, Yields-both it.next_gives xs ys s t v first.0 given, ended)
