-- A loop over commands: what holds at each turn, what one more command makes of it, and what follows at its end.
use Rattle.ring_core.proofs.Words.{◌≡◌, ℕ, ◌+◌, ◌<◌, List, [], ◌∷◌, ◌++◌, length, slice_get, take, Option, Some, IsSome, refl, ap, ◌∙◌, append-nil, append_assoc, length-append, arith, flat_map-append, drop_all, length_push, take_at, Command, Refused, Reply, ChangesSlots, IsRefused, StopsAt, after_all, after_one, puts, replies_to, reply_to, pushed, steps, steps_of}
use Rattle.ring_core.proofs.Items.{slice_get-at}
use Rattle.ring_core.proofs.RunParts.{LeavesPart-refused, after_all-append, replies_to-append}
use Rattle.ring_core.proofs.HeldRange.{pushed-append}
use Rattle.ring_core.proofs.BothMeanings.{pushed-steps_of}

-- of all the commands some are done and the others to do, and the ring holds what those that are done leave
pub record HasDone {T : Type 0} (limit : Option ℕ) (start : List T) (all done todo : List (Command T)) (at : ℕ) (limit' : Option ℕ) (now : List T) (before after : ℕ) : Type 0 where
  pub parts : done ++ todo ≡ all
  pub count : at ≡ length done
  pub same_limit : limit' ≡ limit
  pub left : now ≡ after_all limit start done
  pub changes : IsSome limit → ChangesSlots before start after now (length (pushed (steps done)))

module _ {T : Type 0} {limit : Option ℕ} {start : List T} {all done todo : List (Command T)} {at : ℕ} {limit' : Option ℕ} {now : List T} {before after : ℕ} where
  -- One more command is done.
  pub HasDone-turn : (c : Command T) (rest : List (Command T)) (limit'' : Option ℕ) (next : List T) (later : ℕ) → HasDone limit start all done todo at limit' now before after → todo ≡ c ∷ rest
      → limit'' ≡ limit' → next ≡ after_one limit' now c → (IsSome limit' → ChangesSlots after now later next (length (puts c)))
      → HasDone limit start all (done ++ c ∷ []) rest (at + 1) limit'' next before later
  HasDone-turn c rest limit'' next later h first same is more =
      let pushes : pushed (steps (done ++ c ∷ [])) ≡ pushed (steps done) ++ puts c =
      rw (flat_map-append steps_of done (c ∷ []), append-nil, pushed-append, pushed-steps_of c) refl in
      record {
        parts = rw (append_assoc, ← first) h.parts;
        count = rw length_push (ap (λ n. n + 1) h.count);
        same_limit = same ∙ h.same_limit;
        left = rw (after_all-append limit start done (c ∷ []), ← h.left, ← h.same_limit) is;
        changes = λ some. rw pushes (grind (arith, h.changes some, more (rw h.same_limit some), length-append (pushed (steps done)) (puts c)));
      }

  -- Where none is to do, all are done.
  pub HasDone-end : (n : ℕ) → HasDone limit start all done todo at limit' now before after → n ≡ length todo → n ≡ 0 → done ≡ all
  HasDone-end n h count none =
      let empty : todo ≡ [] = drop_all 0 todo (omega arith) in
      rw (empty, append-nil) at h.parts

  -- One more command is answered.
  pub replies_to-turn : (c : Command T) (r : Reply T) → HasDone limit start all done todo at limit' now before after → r ≡ reply_to limit' now c
      → replies_to limit start (done ++ c ∷ []) ≡ replies_to limit start done ++ r ∷ []
  replies_to-turn c r h is = rw (is, h.same_limit, h.left) (replies_to-append limit start done (c ∷ []))

  -- The next command is one of all.
  pub HasDone-next : (c : Command T) (rest : List (Command T)) → HasDone limit start all done todo at limit' now before after → todo ≡ c ∷ rest → at < length all
  HasDone-next c rest h first =
      let sum : length all ≡ length done + length (c ∷ rest) = rw (← h.parts, first) (length-append done (c ∷ rest)) in
      omega (arith, h.count)

  -- The commands that are done are the first ones.
  pub HasDone-first : HasDone limit start all done todo at limit' now before after → take at all ≡ done
  HasDone-first h = rw (← h.parts, h.count) (take_at done todo (length done) refl)

  -- A refusal of the next command stops the run at its number.
  pub HasDone-stops : (c : Command T) (rest : List (Command T)) (new : List T) (r : Refused T) → HasDone limit start all done todo at limit' now before after → todo ≡ c ∷ rest
      → IsRefused c now new r → StopsAt limit start all at new
  HasDone-stops c rest new r h first refused =
      let whole : done ++ c ∷ rest ≡ all = rw (← first) h.parts in
      let next : slice_get all at ≡ Some c = rw (← whole, h.count) (slice_get-at done c rest) in
      (c, next, rw (HasDone-first h, ← h.left) (LeavesPart-refused c now new r refused))
