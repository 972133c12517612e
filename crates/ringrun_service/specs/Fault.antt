-- How the program ends.
use Rattle.std.specs.Prelude.{◌≡◌, ℕ, ◌<◌, List, ◌++◌, Option, Result, MatchResult, codes}
use Rattle.std.specs.Fmt.{decimal}
use Rattle.std.specs.Io.{StartsWith}
use Rattle.std.specs.Io.KnownBytes.{Appends}
use Rattle.ringrun_service.specs.declared.fault.Fault.{Fault}
use Rattle.ringrun_service.specs.declared.fault.Fault.TheVariants.{NotACommand, BadArguments, NoMemory, InputOrOutput}

-- the status that the program ends with at a fault; it is 0 where there is none
abbrev pub status_of : Fault → ℕ
status_of (NotACommand line) = 1
status_of BadArguments = 2
status_of NoMemory = 3
status_of InputOrOutput = 4

-- what is said of a fault
abbrev pub text_of : Fault → List ℕ
text_of (NotACommand line) = codes "ringrun: line " ++ decimal line ++ codes ": not a command"
text_of BadArguments = codes "usage: ringrun array|heap|grow CAPACITY"
text_of NoMemory = codes "ringrun: no memory"
text_of InputOrOutput = codes "ringrun: input or output failed"

-- the line for standard error
abbrev pub line_of : Fault → List ℕ
line_of fault = text_of fault ++ codes "\n"

-- a writer gains a beginning of this line, which may be the whole, and nothing else
abbrev pub Begins : Option (List ℕ) → Option (List ℕ) → List ℕ → Type 0
Begins old new line = (told : List ℕ) × StartsWith line told × Appends old new told

-- what reading a script may end in: a line, counted from 1, or want of memory
abbrev pub IsInScript : Fault → Type 0
IsInScript (NotACommand line) = 0 < line
IsInScript BadArguments = ⊥
IsInScript NoMemory = Unit {0}
IsInScript InputOrOutput = ⊥

-- a line of the script, counted from 1
abbrev pub NamesALine : Fault → Type 0
NamesALine (NotACommand line) = 0 < line
NamesALine BadArguments = ⊥
NamesALine NoMemory = ⊥
NamesALine InputOrOutput = ⊥

-- P of the number of the line that is named, if one is
abbrev pub IfNotACommand : Fault → (ℕ → Type 0) → Type 0
IfNotACommand (NotACommand line) P = P line
IfNotACommand BadArguments P = Unit {0}
IfNotACommand NoMemory P = Unit {0}
IfNotACommand InputOrOutput P = Unit {0}

-- P where the program did its work or names a line: so where it got past its reading
abbrev pub IfLinesRead : {T : Type 0} → Result T Fault → Type 0 → Type 0
IfLinesRead result P = MatchResult result (λ _. P) (λ fault. status_of fault ≡ 1 → P)
