-- The grammar of scripts: which bytes are which commands.
--
-- Lines end with a line feed, which the last may lack. The words of a line stand between runs of spaces, tabs, form feeds
-- and carriage returns. A line without words is no command. Else its first word names one, and the others are numbers.
use Rattle.std.specs.Prelude.{ℕ, ◌+◌, ◌-◌, ◌^◌, ◌<◌, ◌==◌, ◌||◌, ◌&&◌, Bool, List, [], ◌∷◌, ◌++◌, length, take, filter, ℤ, Option, None, Some, Result, Ok, Err, Vec, codes, if◌then◌else◌, refl}
use Rattle.std.specs.Char.{is_digit}
use Rattle.std.specs.Global.{Global}
use Rattle.std.specs.List.{list_all, slice_split}
use Rattle.std.specs.Option.{option_and_then, option_map}
use Rattle.std.specs.Ptr.{null_ptr}
use Rattle.std.specs.Str.{bytes_eq}
use Rattle.std.specs.Str.Parse.{signed_digits_value, without_leading_sign}
use Rattle.std.proofs.Common.{lit<, subst, sym}
use Rattle.std.proofs.Math.Nat.{le_refl, lt_of_le_of_lt, min-le_left}
use Rattle.std.proofs.lemmas.List.{length-take}
use Rattle.decimal.specs.Numerals.{is_i64, is_some_bytes}
use Rattle.ringbuffer.specs.declared.Command.{Command}
use Rattle.ringbuffer.specs.declared.Command.TheVariants.{Push, Extend, Dequeue, Skip, Clear}

-- a line feed
abbrev pub is_line_feed : ℕ → Bool
is_line_feed byte = byte == 10

-- a space, a tab, a form feed or a carriage return
abbrev pub is_blank : ℕ → Bool
is_blank byte = byte == 32 || byte == 9 || byte == 12 || byte == 13

-- the parts between line feeds. Behind the last line feed there may be an empty part, which says as little as an empty line
unfoldable pub lines_of : List ℕ → List (List ℕ)
lines_of text = slice_split is_line_feed text

-- the parts between blanks that aren't empty
unfoldable pub words_of : List ℕ → List (List ℕ)
words_of line = filter is_some_bytes (slice_split is_blank line)

-- one or more decimal digits, after one sign or none
abbrev pub is_numeral : List ℕ → Bool
is_numeral word = is_some_bytes (without_leading_sign word) && list_all (λ byte. is_digit byte 10) (without_leading_sign word)

-- the number that a word writes
unfoldable pub number_of : List ℕ → Option ℤ
number_of word = if is_numeral word && is_i64 (signed_digits_value 10 word) then Some (signed_digits_value 10 word) else None

-- the numbers that words write, if each writes one
abbrev pub numbers_of : List (List ℕ) → Option (List ℤ)
numbers_of [] = Some []
numbers_of (word ∷ words) = option_and_then (λ number. option_map (λ numbers. number ∷ numbers) (numbers_of words)) (number_of word)

pub fits_a_vector : (items : List ℤ) → length (take (2 ^ 63 - 1) items) < 2 ^ 63
fits_a_vector items = subst (λ n. n < 2 ^ 63) (sym (length-take (2 ^ 63 - 1) items)) (lt_of_le_of_lt (min-le_left (2 ^ 63 - 1) (length items)) (lit< tt))

-- the items in a vector, which has room for 2 ^ 63 - 1 at most
unfoldable pub vector_of : List ℤ → Vec ℤ Global
vector_of items = let held = take (2 ^ 63 - 1) items in
    record { ptr = null_ptr; len = length held; cap = length held; alloc = record { memory = record { seal = tt } }; items = held; ok = (refl, le_refl _); small = fits_a_vector items }

-- the same command, with its items as `vector_of` keeps them
abbrev pub plain : Command ℤ → Command ℤ
plain (Push item) = Push item
plain (Extend items) = Extend (vector_of items.items)
plain Dequeue = Dequeue
plain Skip = Skip
plain Clear = Clear

-- one number makes a push
abbrev pub push_of : List ℤ → Option (Command ℤ)
push_of (number ∷ []) = Some (Push number)
push_of numbers = None

-- a command that takes no number
abbrev pub alone : Command ℤ → List ℤ → Option (Command ℤ)
alone command [] = Some command
alone command (number ∷ numbers) = None

-- the command with this name and these numbers
unfoldable pub command_named : List ℕ → List ℤ → Option (Command ℤ)
command_named name numbers =
    if bytes_eq name (codes "push") then push_of numbers else (
    if bytes_eq name (codes "extend") then Some (Extend (vector_of numbers)) else (
    if bytes_eq name (codes "dequeue") then alone Dequeue numbers else (
    if bytes_eq name (codes "skip") then alone Skip numbers else (
    if bytes_eq name (codes "clear") then alone Clear numbers else None))))

-- the commands that the words of a line say, none or one, if they say any
abbrev pub commands_of : List (List ℕ) → Option (List (Command ℤ))
commands_of [] = Some []
commands_of (name ∷ words) = option_map (λ command. command ∷ []) (option_and_then (command_named name) (numbers_of words))

-- commands before those of a script, unless a line of it is bad
abbrev pub with_front : List (Command ℤ) → Result (List (Command ℤ)) ℕ → Result (List (Command ℤ)) ℕ
with_front front (Ok commands) = Ok (front ++ commands)
with_front front (Err number) = Err number

-- a line with this number before the script of those after it
abbrev pub with_line : ℕ → Option (List (Command ℤ)) → Result (List (Command ℤ)) ℕ → Result (List (Command ℤ)) ℕ
with_line number None script = Err number
with_line number (Some commands) script = with_front commands script

-- the script of lines, the first of which has this number
abbrev pub script_from : ℕ → List (List ℕ) → Result (List (Command ℤ)) ℕ
script_from number [] = Ok []
script_from number (line ∷ lines) = with_line number (commands_of (words_of line)) (script_from (number + 1) lines)

-- the commands of a text, or the number of its first bad line, counted from 1
unfoldable pub script_of : List ℕ → Result (List (Command ℤ)) ℕ
script_of text = script_from 1 (lines_of text)
