-- What the program's arguments ask for.
use Rattle.std.specs.Prelude.{◌≡◌, ℕ, ◌<◌, ◌^◌, List, [], ◌∷◌, Option, None, Some, IsTrue, ◌==◌, codes, if◌then◌else◌}
use Rattle.std.specs.List.{list_any}
use Rattle.std.specs.Str.{bytes_eq}
use Rattle.std.specs.Str.Parse.{IsNumeral, digits_value}
use Rattle.ringrun_service.specs.declared.arguments.Arguments.{Arguments}
use Rattle.ringrun_service.specs.declared.arguments.Kind.{Kind}
use Rattle.ringrun_service.specs.declared.arguments.Kind.TheVariants.{Array, Heap, Grow}

-- the kind of ring that a word names
abbrev pub kind_of : List ℕ → Option Kind
kind_of word =
    if bytes_eq word (codes "array") then Some Array else (
    if bytes_eq word (codes "heap") then Some Heap else (
    if bytes_eq word (codes "grow") then Some Grow else None))

-- a word of one or more decimal digits, in the range of a `usize`
abbrev pub IsCapacity : List ℕ → Type 0
IsCapacity word = IsNumeral 10 word × (digits_value 10 word < 2 ^ 64)

-- two words, a kind and a capacity
abbrev pub AsksFor : List (List ℕ) → Arguments → Type 0
AsksFor words a = (kind : List ℕ) × (capacity : List ℕ) × (words ≡ kind ∷ capacity ∷ [])
    × (kind_of kind ≡ Some a.kind) × IsCapacity capacity × (digits_value 10 capacity ≡ a.capacity)

-- the program has a ring of this kind and capacity
abbrev pub IsOffered : Kind → ℕ → Type 0
IsOffered Array capacity = IsTrue (list_any (λ n. n == capacity) (1 ∷ 2 ∷ 3 ∷ 4 ∷ 8 ∷ 10 ∷ []))
IsOffered Heap capacity = 0 < capacity
IsOffered Grow capacity = Unit {0}

-- the words ask for a ring that the program has
abbrev pub NamesRing : List (List ℕ) → Type 0
NamesRing words = (a : Arguments) × AsksFor words a × IsOffered a.kind a.capacity

-- the words ask for a ring on the heap of more items than any can have room for
abbrev pub AsksTooMuch : List (List ℕ) → Type 0
AsksTooMuch words = (a : Arguments) × AsksFor words a × (a.kind ≡ Heap) × (2 ^ 63 < a.capacity)
