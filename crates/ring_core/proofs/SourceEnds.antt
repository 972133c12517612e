-- What a source gave that was taken to its end, or up to an item that was refused.
use Rattle.ring_core.proofs.Words.{◌≡◌, ℕ, ◌++◌, List, length, map, Option, Some, IsOk, IsSome, MatchResult, OnErr, OnOk, Ok, Err, Result, is_ok, true, Drains, YieldsThen, ◌∙◌, ap, refl, sym, YieldsList-from_shown, YieldsList-so_far, YieldsList-turn, AppendsCut, IsCut, map-id, keep_last, DrainsFirst, UnpacksFirst, drain_to_come, into_iter_to_come}
use Rattle.std.proofs.lemmas.Iterator.{YieldsList, items_from_drains}
use Rattle.std.proofs.lemmas.Iterator.Adapters.{YieldsList-from_vec}
use Rattle.std.specs.Prelude.{Vec, vec_len}
use Rattle.std.specs.Global.{Global}
use Rattle.std.specs.declared.vec.IntoIter.{IntoIter}
use Rattle.std.specs.Vec.Iter.{into_iter_items, into_iter_len, into_iter_steps}
use Rattle.ring_core.proofs.Limits.{keep_last-unlimited}
use Rattle.ring_core.specs.declared.drain.RingBufferDrainingIterator.{RingBufferDrainingIterator}
use Rattle.ring_core.specs.declared.into_iter.RingBufferIntoIterator.{RingBufferIntoIterator}
use Rattle.ring_core.specs.Extension.{Extends}

module _ {S A B : Type 0} {steps : S → Option A → S → Type 0} {s : S} where
  -- what v takes the items to of a source that was taken to its end is the list that the source shows
  pub shown_drained : (v : A → B) (xs : List A) (all : List B) → Drains steps s xs → YieldsList steps v s all → map v xs ≡ all
  shown_drained v xs all (u, (t, took, ended)) yields = items_from_drains xs (t, took, λ _. (u, ended)) yields

  -- so it is with the items of an extension that was not refused
  pub shown_extended : {E : Type 0} {v : A → B} {all : List B} (xs : List A) (r : Result (Unit {0}) E)
      → MatchResult r (λ _. Drains steps s xs) (λ _. (x : A) × (after : S) × YieldsThen steps s xs (Some x) after)
      → IsOk r → YieldsList steps v s all → map v xs ≡ all
  shown_extended {v = v} {all = all} xs (Ok _) drained ok yields = shown_drained v xs all drained yields
  shown_extended {E = E} xs (Err e) ran ok yields = absurd (let no : is_ok {T = Unit {0}} {E = E} (Err e) ≡ true = ok in cc)

-- a source gave xs: all that it has, or a part after which one more item came and was refused
abbrev pub Took : {S A E : Type 0} → (S → Option A → S → Type 0) → S → List A → Result (Unit {0}) E → Type 0
Took {S} {A} steps it xs r = MatchResult r (λ _. Drains steps it xs) (λ _. (x : A) × (after : S) × YieldsThen steps it xs (Some x) after)

module _ {S A : Type 0} {steps : S → Option A → S → Type 0} {all : List A} where
  -- what a source gave before one item more is a cut beginning of the list that it shows
  IsCut-given : {s : S} (xs : List A) (x : A) (u : S) → YieldsThen steps s xs (Some x) u → YieldsList steps (λ x. x) s all → IsCut all xs
  IsCut-given xs x u (t, given, more) yields = ((YieldsList-turn yields xs t given (Some x) u x refl more).0, sym (map-id xs) ∙ YieldsList-so_far yields xs t given)

  module _ {E : Type 0} {s : S} (xs : List A) (limit : Option ℕ) (old new : List A) where
    -- an extension that was not refused pushes all that its source shows
    pub all_extended : (r : Result (Unit {0}) E) → new ≡ keep_last limit (old ++ xs) → Took steps s xs r → YieldsList steps (λ x. x) s all
        → OnOk r (new ≡ keep_last limit (old ++ all))
    all_extended (Ok u) kept drained yields = kept ∙ ap (λ l. keep_last limit (old ++ l)) (sym (map-id xs) ∙ shown_drained (λ x. x) xs all drained yields)
    all_extended (Err e) kept took yields = tt

    -- a refused extension, which no ring with a limit meets, appends a cut beginning of it
    pub cut_extended : (r : Result (Unit {0}) E) → new ≡ keep_last limit (old ++ xs) → Took steps s xs r → (IsSome limit → IsOk r) → YieldsList steps (λ x. x) s all
        → OnErr r (AppendsCut old all new)
    cut_extended (Ok u) kept took never yields = tt
    cut_extended (Err e) kept (x, after, more) never yields =
        (xs, IsCut-given xs x after more yields, kept ∙ keep_last-unlimited limit (old ++ xs) (λ some. let no : is_ok {T = Unit {0}} {E = E} (Err e) ≡ true = never some in cc))

-- a vector gives its items
pub YieldsList-of_vec : {T : Type 0} (v : Vec T Global) (it : IntoIter T Global) → into_iter_items it ≡ v.items → into_iter_len it ≡ vec_len v
    → YieldsList into_iter_steps (λ x. x) it v.items
YieldsList-of_vec v it shows counts = YieldsList-from_vec v.items shows (counts ∙ v.ok.0)

module _ {T RB : Type 0} (contents : RB → List T) (limit : RB → Option ℕ) (slot_changes : RB → ℕ) where
  -- an owning walk gives what its ring holds
  pub YieldsList-unpacked : (it : RingBufferIntoIterator T RB) (xs : List T) → into_iter_to_come contents it ≡ xs
      → YieldsList (UnpacksFirst contents limit slot_changes) (λ x. x) it xs
  YieldsList-unpacked it xs is = rw (← is) (YieldsList-from_shown (UnpacksFirst contents limit slot_changes) (λ x. x) (into_iter_to_come contents)
      (λ s t ends. ap length ends.0.0) (λ s x t gives. gives.0) it)

  -- an extension by a drain that was not refused pushes all that the drained ring held
  pub extended_by_drain : {E : Type 0} (it : RingBufferDrainingIterator T RB) (bound : Option ℕ) (old new : List T) (a b : ℕ) (r : Result (Unit {0}) E)
      → Extends (λ s t. t ≡ s) (DrainsFirst contents limit slot_changes) it bound old new a b r
      → OnOk r (new ≡ keep_last bound (old ++ contents it.ring.now))
  extended_by_drain it bound old new a b r (s, xs, is, kept, changes, took) = all_extended {steps = DrainsFirst contents limit slot_changes} {s = s} xs bound old new r kept took
      (rw is (YieldsList-from_shown (DrainsFirst contents limit slot_changes) (λ x. x) (drain_to_come contents) (λ s t ends. ap length ends.0.0) (λ s x t gives. gives.0) it))
