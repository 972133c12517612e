-- How a text is read from its front. The functions of the parser say what they read in these words, and a proof joins them to
-- the grammar, which works line by line.
use Rattle.std.specs.Prelude.{◌≡◌, ℕ, ◌⊎◌, Bool, false, List, [], ◌∷◌, length, take, drop, ℤ, Option, None, Some, codes, if◌then◌else◌}
use Rattle.std.specs.Str.{bytes_eq}
use Rattle.ringbuffer.specs.declared.Command.{Command}
use Rattle.ringbuffer.specs.declared.Command.TheVariants.{Push, Extend, Dequeue, Skip, Clear}
use Rattle.decimal.specs.Numerals.{signed_at}
use Rattle.ringrun_service.specs.Script.{is_blank, is_line_feed}

-- what follows the blanks at the front
unfoldable pub after_blanks : List ℕ → List ℕ
after_blanks [] = []
after_blanks (byte ∷ bytes) = if is_blank byte then after_blanks bytes else byte ∷ bytes

-- a blank comes first
abbrev pub starts_blank : List ℕ → Bool
starts_blank [] = false
starts_blank (byte ∷ bytes) = is_blank byte

-- what follows a line's end, which is a line feed or the text's end, if it comes first
abbrev pub after_end : List ℕ → Option (List ℕ)
after_end [] = Some []
after_end (byte ∷ bytes) = if is_line_feed byte then Some bytes else None

-- the number that follows blanks, of which there is one at least, and what follows it
unfoldable pub number_at : List ℕ → Option (ℤ × List ℕ)
number_at text = if starts_blank text then signed_at (after_blanks text) else None

-- numbers at the front, as many as there are, and what follows them
abbrev pub NumbersAt : List ℕ → List ℤ → List ℕ → Type 0
NumbersAt text [] rest = (number_at text ≡ None) × (rest ≡ text)
NumbersAt text (number ∷ numbers) rest = (after : List ℕ) × (number_at text ≡ Some (number, after)) × NumbersAt after numbers rest

-- what follows a name that comes first
unfoldable pub after_name : List ℕ → List ℕ → Option (List ℕ)
after_name name text = if bytes_eq (take (length name) text) name then Some (drop (length name) text) else None

-- a command comes first, and what follows it
abbrev pub CommandAt : List ℕ → Command ℤ → List ℕ → Type 0
CommandAt text (Push item) rest = (after : List ℕ) × (after_name (codes "push") text ≡ Some after) × (number_at after ≡ Some (item, rest))
CommandAt text (Extend items) rest = (after : List ℕ) × (after_name (codes "extend") text ≡ Some after) × NumbersAt after items.items rest
CommandAt text Dequeue rest = after_name (codes "dequeue") text ≡ Some rest
CommandAt text Skip rest = after_name (codes "skip") text ≡ Some rest
CommandAt text Clear rest = after_name (codes "clear") text ≡ Some rest

-- no name comes first
pub record HasNoName (text : List ℕ) : Type 0 where
  pub no_push : after_name (codes "push") text ≡ None
  pub no_extend : after_name (codes "extend") text ≡ None
  pub no_dequeue : after_name (codes "dequeue") text ≡ None
  pub no_skip : after_name (codes "skip") text ≡ None
  pub no_clear : after_name (codes "clear") text ≡ None

-- a push without a number comes first
abbrev pub HasNoNumber : List ℕ → Type 0
HasNoNumber text = (after : List ℕ) × (after_name (codes "push") text ≡ Some after) × (number_at after ≡ None)

-- no command comes first
abbrev pub HasNoCommand : List ℕ → Type 0
HasNoCommand text = HasNoName text ⊎ HasNoNumber text
