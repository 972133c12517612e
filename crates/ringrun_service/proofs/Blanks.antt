-- The blanks at the front, as a search for the first other byte passes over them.
use Rattle.std.proofs.Common.{◌≡◌, ℕ, suc, ◌+◌, ◌-◌, ◌<◌, ◌≤◌, true, cond, not, List, [], ◌∷◌, length, take, drop, get_or, Option, Some, None, ltb, refl, ap, ◌∙◌, arith, unwrap_or}
use Rattle.std.proofs.lemmas.Bool.Decides.{nat_tests}
use Rattle.std.proofs.lemmas.Grind.{common_steps}
use Rattle.std.proofs.lemmas.List.{take_rest}
use Rattle.std.specs.List.{position_or_len}
use Rattle.ringrun_service.specs.Parsing.{after_blanks, after_end, starts_blank}
use Rattle.ringrun_service.specs.Script.{is_blank}

abbrev pub first_other : List ℕ → ℕ
first_other text = position_or_len (λ b. not (is_blank b)) text

blanks_passed : (text : List ℕ) → drop (first_other text) text ≡ after_blanks text
unfolding after_blanks
blanks_passed [] = refl
blanks_passed (b ∷ bs) = let more : 1 + first_other bs ≡ suc (first_other bs) = omega arith in rw more (grind (arith, blanks_passed bs))

bounded : (text : List ℕ) → first_other text ≤ length text
bounded [] = omega arith
bounded (b ∷ bs) = grind (arith, bounded bs)

pub blank_shorter : (text : List ℕ) → starts_blank text ≡ true → length (after_blanks text) < length text
unfolding after_blanks
blank_shorter [] h = absurd (cc)
blank_shorter (b ∷ bs) h = grind (arith, common_steps, ap length (blanks_passed bs))

pub after_position : (text : List ℕ) (at : Option ℕ) (end : ℕ) → at ≡ cond (ltb (first_other text) (length text)) (Some (first_other text)) None → end ≡ unwrap_or at (length text)
    → take (length text - end) (drop end text) ≡ after_blanks text
after_position text at end found is = take_rest text end ∙ grind (arith, nat_tests, blanks_passed text, bounded text)

pub feed_at_once : (text : List ℕ) → 1 ≤ length text → get_or text 0 0 ≡ 10 → after_end (after_blanks text) ≡ Some (take (length text - 1) (drop 1 text))
unfolding after_blanks
feed_at_once [] h e = absurd (omega arith)
feed_at_once (b ∷ bs) h e = grind (arith, nat_tests, take_rest (b ∷ bs) 1)

pub space_at_once : (text : List ℕ) → 1 ≤ length text → get_or text 0 0 ≡ 32 → after_blanks (take (length text - 1) (drop 1 text)) ≡ after_blanks text
unfolding after_blanks
space_at_once [] h e = absurd (omega arith)
space_at_once (b ∷ bs) h e = grind (arith, common_steps)

pub word_at_once : (text : List ℕ) → 1 ≤ length text → 32 < get_or text 0 0 → after_blanks text ≡ text
unfolding after_blanks
word_at_once [] h above = absurd (omega arith)
word_at_once (b ∷ bs) h above = grind (arith, nat_tests)
