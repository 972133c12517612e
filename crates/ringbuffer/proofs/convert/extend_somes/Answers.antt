use Rattle.ringbuffer.proofs.Words.{rules, ◌≡◌, ◌+◌, ◌++◌, [], ◌∷◌, MatchOption, refl, sym, ◌∙◌, arith, drop-drop, drop-set-lt, common_steps, keep_last, ℕ, ◌<◌, List, drop, get_or, length, take, Option, None, Some, ap, add-one, append-nil, append_assoc, length-drop, get_or-drop, filter_map-append, take-suc, keep_last-keep_last, somes}
use Rattle.ringbuffer.proofs.convert.extend_somes.Goals as goal

-- one more place of an array of options: its item, if it holds one, came after the others
somes_turn : {A : Type 0} (limit : Option ℕ) (old now next : List A) (whole left : List (Option A)) (i : ℕ) (o : Option A)
    → now ≡ keep_last limit (old ++ somes (take i whole)) → drop i left ≡ drop i whole → i < length left → o ≡ get_or left i o
    → MatchOption o (next ≡ now) (λ x. next ≡ keep_last limit (now ++ x ∷ []))
    → next ≡ keep_last limit (old ++ somes (take (i + 1) whole))
somes_turn {A = A} limit old now next whole left i o so_far same within at moved =
    let long : i < length whole = omega (arith, ap length same, length-drop i left, length-drop i whole) in
    let there : get_or whole i o ≡ o = grind (arith, get_or-drop i whole 0 o, get_or-drop i left 0 o) in rw (add-one, take-suc whole i o long, there, filter_map-append) (rotated o moved)
  where
    rotated : (p : Option A) → MatchOption p (next ≡ now) (λ x. next ≡ keep_last limit (now ++ x ∷ [])) → next ≡ keep_last limit (old ++ (somes (take i whole) ++ somes (p ∷ [])))
    rotated None stays = rw append-nil (stays ∙ so_far)
    rotated (Some x) pushed = pushed ∙ rw (so_far, keep_last-keep_last, append_assoc) refl

pub loop-i-preserved : goal.loop-i-preserved
loop-i-preserved g c =
    let done = c.loop-i.invariant in let i = c.loop-i.i in
    let limit = g.R.RingBuffer.limit c.args.ring.now in
    let old = g.R.RingBuffer.contents c.args.ring.now in
    let turn : MatchOption c.take.result (g.R.RingBuffer.contents c.match-take.ring ≡ g.R.RingBuffer.contents c.loop-i.ring) (λ x. g.R.RingBuffer.contents c.match-take.ring ≡ keep_last limit (g.R.RingBuffer.contents c.loop-i.ring ++ x ∷ [])) =
    elim c.match-take.branch [ goal.in-Some+in_ok-push_item w ↦ grind (arith, common_steps) | goal.in_default w ↦ grind (arith, common_steps) ] in
    record {
      pushed = somes_turn limit old _ _ c.args.items c.loop-i.items i c.take.result done.pushed done.left (omega arith)
          (rw (c.take.ensures.value ∙ sym c.index-items-i.is) c.index-items-i.is) turn;
      left = rw (drop-set-lt (i + 1) c.loop-i.items i _ (omega arith), ← drop-drop, ← drop-drop, done.left) refl;
      same_limit = elim c.match-take.branch [ goal.in-Some+in_ok-push_item w ↦ grind (arith, common_steps) | goal.in_default w ↦ grind (arith, common_steps) ];
    }

pub loop-i-init : goal.loop-i-init
loop-i-init g c = search rules
