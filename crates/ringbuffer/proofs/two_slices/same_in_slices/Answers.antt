-- The parts of both lists have equal lengths pair by pair, except the middles, of which one is empty.
use Rattle.ringbuffer.proofs.Words.{◌≡◌, arith, ℕ, ◌+◌, ◌⊎◌, inl, inr, length, List, ◌++◌, take, drop, take-append-drop, length-drop, Bool, ◌&&◌, append_assoc, dec_lt, common_steps, nil_from_length, min, pointwise}
use Rattle.ringbuffer.proofs.Paired.{pointwise-append}
use Rattle.ringbuffer.proofs.two_slices.same_in_slices.Goals as goal

-- a middle is compared with what lies beside it in the other list
pointwise-beside : {A : Type 0} (eq : A → A → Bool) (am ab al bm bb bl : List A) → length am ≡ length bb → length ab ≡ length bm
    → (length am ≡ 0) ⊎ (length bm ≡ 0)
    → pointwise eq (am ++ (ab ++ al)) (bm ++ (bb ++ bl)) ≡ (pointwise eq am bb && (pointwise eq ab bm && pointwise eq al bl))
pointwise-beside eq am ab al bm bb bl one other (inl none) = rw (nil_from_length am none, nil_from_length bb (omega arith)) (pointwise-append eq ab bm al bl other)
pointwise-beside eq am ab al bm bb bl one other (inr none) = rw (nil_from_length ab (omega arith), nil_from_length bm none) (pointwise-append eq am bb al bl one)

-- two lists in two slices each are equal where the parts are that the slices are cut into
pointwise-parts : {A : Type 0} (eq : A → A → Bool) (a b c d : List A) (n : ℕ) → length a + length b ≡ length c + length d → n ≡ min (length a) (length c)
    → let am = drop n a in let bm = drop n c in let ab = take (length bm) b in let bb = take (length am) d in
    pointwise eq (a ++ b) (c ++ d) ≡ (pointwise eq (take n a) (take n c) && (pointwise eq am bb && (pointwise eq ab bm && pointwise eq (drop (length bm) b) (drop (length am) d))))
pointwise-parts eq a b c d n same least =
    let am = drop n a in let bm = drop n c in let left_a = length-drop n a in let left_c = length-drop n c in
    let front = pointwise-append eq (take n a) (take n c) (am ++ b) (bm ++ d) (grind (arith, common_steps, least)) in
    let behind = pointwise-beside eq am (take (length bm) b) (drop (length bm) b) bm (take (length am) d) (drop (length am) d) (grind (arith, common_steps, least, same)) (grind (arith, common_steps, least, same))
    (elim (dec_lt (length a) (length c)) [ yes low ↦ inl (omega arith) | no high ↦ inr (omega arith) ]) in
    rw (rw (take-append-drop, take-append-drop) at behind) at (rw (← append_assoc (take n a), ← append_assoc (take n c), take-append-drop n a, take-append-drop n c) at front)

pub returns-then-same_items-3 : goal.returns-then-same_items-3
returns-then-same_items-3 g c = rw (pointwise-parts g.T.PartialEq.eq _ _ _ _ _ c.requires c.min-in_both.ensures) (grind (arith, common_steps))

pub returns-else-same_items-3 : goal.returns-else-same_items-3
returns-else-same_items-3 g c = rw (pointwise-parts g.T.PartialEq.eq _ _ _ _ _ c.requires c.min-in_both.ensures) (grind (arith, common_steps))
