-- Items that one more pushes along piece by piece: what the back hands on goes after the front.
use Rattle.ring_slots.proofs.Words.{append_assoc, drop-take, ◌≡◌, ◌∙◌, sym, ap, subst, List, [], ◌∷◌, ◌++◌, ℕ, ◌+◌, ◌≤◌, arith, length, take, cut, take-append-drop, common_steps, passed_down}

module _ {X : Type 0} where
  joined : (front ys had has : List X) (item mid over : X) → passed_down item mid had has → passed_down mid over front ys → passed_down item over (front ++ had) (ys ++ has)
  joined front ys had has item mid over back ahead =
      append_assoc front had (item ∷ []) ∙ ap (λ l. front ++ l) back ∙ sym (append_assoc front (mid ∷ []) has) ∙ ap (λ l. l ++ has) ahead

  module _ (old now ys : List X) (from end count : ℕ) (item mid over : X) (same : take end now ≡ take end old) (within : end ≤ length old) (many : length now ≡ length old) (back : passed_down item mid (cut end old) (cut end now)) where
    pub piece_more : from + count ≡ end → passed_down mid over (take count (cut from now)) ys
        → let next = take from now ++ (ys ++ cut count (cut from now)) in (take from next ≡ take from old) × passed_down item over (cut from old) (cut from next)
    piece_more apart ahead =
        let next = take from now ++ (ys ++ cut count (cut from now)) in
        let same_part : take count (cut from now) ≡ take count (cut from old) =
        sym (drop-take from count now) ∙ ap (λ k. cut from (take k now)) apart ∙ ap (cut from) same ∙ ap (λ k. cut from (take k old)) (sym apart) ∙ drop-take from count old in
        let rest : cut end old ≡ cut count (cut from old) = grind (arith, common_steps) in
        let whole : take count (cut from now) ++ cut end old ≡ cut from old = rw (same_part, rest) (take-append-drop count (cut from old)) in
        let tail : cut from next ≡ ys ++ cut end now = grind (arith, common_steps) in
        let front : take from next ≡ take from (take end now) = grind (arith, common_steps) in
        let was : take from (take end old) ≡ take from old = grind (arith, common_steps) in (
          front ∙ ap (take from) same ∙ was,
          rw tail (subst (λ l. passed_down item over l (ys ++ cut end now)) whole (joined (take count (cut from now)) ys (cut end old) (cut end now) item mid over back ahead)),
        )

    pub last_piece : passed_down mid over (take end now) ys → passed_down item over old (ys ++ cut end now)
    last_piece ahead =
        let whole : take end now ++ cut end old ≡ old = ap (λ l. l ++ cut end old) same ∙ take-append-drop end old in
        subst (λ l. passed_down item over l (ys ++ cut end now)) whole (joined (take end now) ys (cut end old) (cut end now) item mid over back ahead)
