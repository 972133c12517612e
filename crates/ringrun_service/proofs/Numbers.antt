-- A number at the front of a text, and the word that it stands in.
use Rattle.std.proofs.Common.{◌≡◌, ℕ, ◌^◌, ◌≤◌, not, Bool, true, false, cond, List, [], ◌∷◌, ◌++◌, length, take, drop, get_or, ◌-◌, ◌≢◌, Option, Some, None, ℤ, append-nil, ltb, refl, sym, ◌∙◌, w64, arith}
use Rattle.std.proofs.lemmas.Bool.Decides.{nat_tests}
use Rattle.std.proofs.lemmas.Grind.{common_steps}
use Rattle.std.specs.List.{list_all}
use Rattle.std.specs.Option.{option_map}
use Rattle.std.specs.Str.Parse.{digits_value, starts_with_minus, without_leading_sign}
use Rattle.decimal.proofs.Digits.{all_digits_at, digit, digits_front}
use Rattle.decimal.proofs.SignedNumbers.{before, signed_fits, too_large as above_i64}
use Rattle.decimal.proofs.Cases.{by_cases}
use Rattle.ringrun_service.proofs.Blanks.{blank_shorter, space_at_once}
use Rattle.ringrun_service.proofs.Lines.{ends_word, past_word, then_follows, word_at, word_goes_on, InWord}
use mir.Val.{SFits}
use Rattle.decimal.specs.Numerals.{digits_at, signed_at, signed_of, size_at, is_some_bytes}
use Rattle.ringrun_service.specs.Parsing.{after_blanks, after_end, number_at, starts_blank}
use Rattle.ringrun_service.specs.Script.{number_of}

-- a word may end here
abbrev pub ends_here : List ℕ → Bool
ends_here [] = true
ends_here (b ∷ bs) = ends_word b

-- what follows the digits at the front
abbrev pub behind_digits : List ℕ → List ℕ
behind_digits text = drop (length (digits_at text)) text

digits_inside : (text : List ℕ) → list_all (λ b. not (ends_word b)) (digits_at text) ≡ true
unfolding digits_at
digits_inside [] = refl
digits_inside (b ∷ bs) = grind (arith, nat_tests, digits_inside bs)

-- digits and signs stand in words
digits_in_word : (text : List ℕ) → InWord text (behind_digits text)
digits_in_word text = record { front = digits_at text; is = grind (arith, common_steps, digits_front text); all = digits_inside text }

sign_in_word : (text : List ℕ) → InWord text (without_leading_sign text)
sign_in_word text =
    record { front = take (length text - length (without_leading_sign text)) text; is = grind (arith, common_steps); all = grind (arith, common_steps) }

-- where no word ends after the digits, what stands there is no digit
stray : (text : List ℕ) → ends_here (behind_digits text) ≡ false → list_all digit (word_at (behind_digits text)) ≡ false
unfolding digits_at
stray [] h = absurd (cc)
stray (b ∷ bs) h = grind (arith, nat_tests, stray bs)

pub no_word : (text : List ℕ) → ends_here text ≡ true → (word_at text ≡ []) × (past_word text ≡ text)
no_word [] h = (refl, refl)
no_word (b ∷ bs) h = rw h (refl, refl)

sign_then_word : (text : List ℕ) → without_leading_sign (word_at text) ≡ word_at (without_leading_sign text)
sign_then_word [] = refl
sign_then_word (b ∷ bs) = grind (arith, nat_tests)

minus_then_word : (text : List ℕ) → starts_with_minus (word_at text) ≡ starts_with_minus text
minus_then_word [] = refl
minus_then_word (b ∷ bs) = grind (arith, nat_tests)

too_large : (is_negative : Bool) (n : ℕ) → ltb n (10 ^ 19) ≡ false → None ≡ signed_of is_negative n
too_large is_negative n h = above_i64 is_negative n (grind (arith, nat_tests))

number_is : (word digits : List ℕ) → without_leading_sign word ≡ digits → list_all digit digits ≡ true → number_of word ≡ cond (is_some_bytes digits) (signed_of (starts_with_minus word) (digits_value 10 digits)) None
unfolding number_of signed_of
number_is word digits e all = grind arith

no_number : (word : List ℕ) → list_all digit (without_leading_sign word) ≡ false → number_of word ≡ None
unfolding number_of
no_number word h = grind arith

-- what follows the sign and the digits at the front
abbrev pub behind_number : List ℕ → List ℕ
behind_number text = behind_digits (without_leading_sign text)

-- the number that was read, without what follows it
abbrev pub number_part : Option (ℤ × List ℕ) → Option ℤ
number_part read = option_map (λ (r : ℤ × List ℕ). r.0) read

-- the number of the digits after the sign, if it is in range, before what follows them
signed_is : (text : List ℕ) → let digits = digits_at (without_leading_sign text) in
    signed_at text ≡ before (behind_number text) (cond (is_some_bytes digits) (signed_of (starts_with_minus text) (digits_value 10 digits)) None)
unfolding signed_at size_at
signed_is text = grind (arith, too_large (starts_with_minus text) (digits_value 10 (digits_at (without_leading_sign text))))

-- the word that begins a text writes the number at the front, if it ends with it, and else none
pub number_of_word : (text : List ℕ) → number_of (word_at text) ≡ cond (ends_here (behind_number text)) (number_part (signed_at text)) None
unfolding digits_in_word
number_of_word text =
    let digits = without_leading_sign text in let behind = behind_number text in
    let word : without_leading_sign (word_at text) ≡ digits_at digits ++ word_at behind = sign_then_word text ∙ (word_goes_on digits behind (digits_in_word digits)).0 in
    by_cases (ends_here behind)
    (λ h. grind (arith, append-nil, no_word behind h, number_is (word_at text) (digits_at digits), all_digits_at digits, minus_then_word text, signed_is text))
    (λ h. grind (arith, common_steps, no_number (word_at text), all_digits_at digits, stray digits h))

-- the word of a number reaches past it
pub number_in_word : (text : List ℕ) → InWord text (behind_number text)
number_in_word text = let digits = without_leading_sign text in then_follows _ text digits (behind_number text) (sign_in_word text) (digits_in_word digits)

-- what is read after a number
pub signed_rest : (text : List ℕ) (n : ℤ) (rest : List ℕ) → signed_at text ≡ Some (n, rest) → rest ≡ behind_number text
signed_rest text n rest e = grind (arith, signed_is text)

-- where a number is read, a line doesn't end
pub not_at_end : (text : List ℕ) (r : ℤ × List ℕ) → signed_at text ≡ Some r → after_end text ≡ None
unfolding signed_at size_at digits_at
not_at_end [] r e = grind arith
not_at_end (b ∷ bs) r e = grind (arith, nat_tests)

-- ---- a number, as the function reads it

pub none_passed : (text : List ℕ) → starts_blank text ≡ false → after_blanks text ≡ text
unfolding after_blanks
none_passed [] h = refl
none_passed (b ∷ bs) h = rw h refl

-- the number is the one that begins what follows the blanks, if there are any
pub read_word : (text word : List ℕ) → word ≡ after_blanks text → (length word ≡ length text → number_at text ≡ None) × (length word ≢ length text → number_at text ≡ signed_at word)
unfolding number_at
read_word text word e = grind (arith, blank_shorter text, none_passed text)

-- after one space, where no other blank follows it
pub word_behind_space : (text : List ℕ) → 1 ≤ length text → get_or text 0 0 ≡ 32 → after_blanks (take (length text - 1) (drop 1 text)) ≡ take (length text - 1) (drop 1 text)
    → number_at text ≡ signed_at (take (length text - 1) (drop 1 text))
word_behind_space text h e stays =
    (read_word text (take (length text - 1) (drop 1 text)) (sym stays ∙ space_at_once text h e)).1 (grind (arith, common_steps))

pub read_here : (text : List ℕ) (r : ℤ × List ℕ) → number_at text ≡ Some r → (starts_blank text ≡ true) × (signed_at (after_blanks text) ≡ Some r)
unfolding number_at
read_here text r e = grind arith

-- a number that is read is in range
pub number_fits : (text : List ℕ) (n : ℤ) (after : List ℕ) → number_at text ≡ Some (n, after) → SFits w64 n
number_fits text n after e = signed_fits (after_blanks text) n after (read_here text (n, after) e).1
