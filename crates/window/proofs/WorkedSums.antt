-- The sums of a few lists, computed.
use Rattle.std.proofs.Common.{◌≡◌, pos, negsuc, [], ◌∷◌, refl}
use Rattle.window.specs.Sums.{total}

pub of_three : total (pos 5 ∷ pos 7 ∷ pos 9 ∷ []) ≡ pos 21
of_three = refl

pub of_none : total [] ≡ pos 0
of_none = refl

-- twice the greatest i64
pub of_the_greatest : total (pos 9223372036854775807 ∷ pos 9223372036854775807 ∷ []) ≡ pos 18446744073709551614
of_the_greatest = refl

-- the greatest and the least i64
pub of_both_ends : total (pos 9223372036854775807 ∷ negsuc 9223372036854775807 ∷ []) ≡ negsuc 0
of_both_ends = refl

-- -3 + -4 + 5
pub of_negatives : total (negsuc 2 ∷ negsuc 3 ∷ pos 5 ∷ []) ≡ negsuc 1
of_negatives = refl
