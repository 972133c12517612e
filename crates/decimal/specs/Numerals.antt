-- The number that a text begins with.
use Rattle.std.specs.Prelude.{ℕ, ◌^◌, ◌&&◌, nat_lt, Bool, cond, List, [], ◌∷◌, length, drop, ℤ, pos, negsuc, neg_ℤ, Option, None, Some, if◌then◌else◌}
use Rattle.std.specs.Char.{digit_value, is_digit}
use Rattle.std.specs.Option.{option_and_then, option_map}
use Rattle.std.specs.Str.Parse.{digits_value, starts_with_minus, without_leading_sign}

-- some bytes, not none
abbrev pub is_some_bytes : List ℕ → Bool
is_some_bytes [] = Bool.false
is_some_bytes (byte ∷ bytes) = Bool.true

-- in the range of an i64
abbrev pub is_i64 : ℤ → Bool
is_i64 (pos n) = nat_lt n (2 ^ 63)
is_i64 (negsuc n) = nat_lt n (2 ^ 63)

-- the digits at the front
unfoldable pub digits_at : List ℕ → List ℕ
digits_at [] = []
digits_at (byte ∷ bytes) = if is_digit byte 10 then byte ∷ digits_at bytes else []

-- the digit that comes first, as a number, and what follows it
abbrev pub digit_at : List ℕ → Option (ℤ × List ℕ)
digit_at [] = None
digit_at (byte ∷ bytes) = if is_digit byte 10 then Some (pos (digit_value byte), bytes) else None

-- the number below 10 ^ 19 that digits at the front write, and what follows them
unfoldable pub size_at : List ℕ → Option (ℕ × List ℕ)
size_at text = let digits = digits_at text in
    if is_some_bytes digits && nat_lt (digits_value 10 digits) (10 ^ 19) then Some (digits_value 10 digits, drop (length digits) text) else None

-- a size with its sign, in the range of an i64
unfoldable pub signed_of : Bool → ℕ → Option ℤ
signed_of is_negative size = let number = cond is_negative (neg_ℤ (pos size)) (pos size) in if is_i64 number then Some number else None

-- the number that a sign or none and digits at the front write, and what follows them
unfoldable pub signed_at : List ℕ → Option (ℤ × List ℕ)
signed_at text = option_and_then (λ read. option_map (λ number. (number, read.1)) (signed_of (starts_with_minus text) read.0)) (size_at (without_leading_sign text))
