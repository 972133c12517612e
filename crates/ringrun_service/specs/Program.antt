-- What the program does, from the bytes that come in to the bytes that go out.
use Rattle.std.specs.Prelude.{◌≡◌, ℕ, ℤ, List, [], ◌++◌, Option, None, Some, Result, Ok, Err, IsOk, IfSome, flat_map}
use Rattle.std.specs.Io.KnownBytes.{Appends}
use Rattle.ringbuffer.specs.History.{contents_after, replies_of}
use Rattle.ringbuffer.specs.declared.Command.{Command}
use Rattle.ringrun_service.specs.Arguments.{AsksFor}
use Rattle.ringrun_service.specs.declared.arguments.Arguments.{Arguments}
use Rattle.ringrun_service.specs.declared.arguments.Kind.{Kind}
use Rattle.ringrun_service.specs.declared.arguments.Kind.TheVariants.{Array, Heap, Grow}
use Rattle.ringrun_service.specs.Fault.{status_of, line_of, Begins, IfNotACommand}
use Rattle.ringrun_service.specs.declared.fault.Fault.{Fault}
use Rattle.ringrun_service.specs.Replies.{items_line, reply_line}
use Rattle.ringrun_service.specs.Script.{script_of}

-- the most items that the ring holds, if there is such a number
abbrev pub limit_of : Kind → ℕ → Option ℕ
limit_of Array capacity = Some capacity
limit_of Heap capacity = Some capacity
limit_of Grow capacity = None

-- what a run of these commands prints on a ring with this limit that holds these items: a line for each reply, and one for
-- the items that the run leaves
unfoldable pub printed_on : Option ℕ → List ℤ → List (Command ℤ) → List ℕ
printed_on limit start commands = flat_map reply_line (replies_of limit start commands) ++ items_line (contents_after limit start commands)

-- what the program prints for an input whose lines are all commands, and nothing for another
abbrev pub printed_for : Option ℕ → Result (List (Command ℤ)) ℕ → List ℕ
printed_for limit (Ok commands) = printed_on limit [] commands
printed_for limit (Err line) = []

abbrev pub output_of : Kind → ℕ → List ℕ → List ℕ
output_of kind capacity input = printed_for (limit_of kind capacity) (script_of input)

-- the input's first bad line has this number
abbrev pub IsBad : ℕ → List ℕ → Type 0
IsBad line input = script_of input ≡ Err line

-- a fault that names a line names the first bad one of the input, where that is known
abbrev pub NamesBadLine : Option (List ℕ) → Fault → Type 0
NamesBadLine input fault = IfNotACommand fault (λ line. IfSome input (IsBad line))

-- every line of the input is a command or has no words, and this text is what a ring of this limit prints for them
abbrev pub Prints : Option ℕ → List ℕ → List ℕ → Type 0
Prints limit input text = (commands : List (Command ℤ)) × (script_of input ≡ Ok commands) × (text ≡ printed_on limit [] commands)

-- every line of the input is a command or has no words, and the writer gains what the program prints for it, and nothing else
abbrev pub Writes : Kind → ℕ → Option (List ℕ) → Option (List ℕ) → List ℕ → Type 0
Writes kind capacity old new input = IsOk (script_of input) × Appends old new (output_of kind capacity input)

-- the words ask for a ring, and where the input is known, the writer gains what the program prints for it
abbrev pub Answers : List (List ℕ) → Option (List ℕ) → Option (List ℕ) → Option (List ℕ) → Type 0
Answers words input old new = (a : Arguments) × AsksFor words a × IfSome input (Writes a.kind a.capacity old new)

-- the writer of errors gains a beginning of the line that says a fault of this status, and nothing else. A line of the input
-- that it names is the first bad one
abbrev pub Tells : ℕ → Option (List ℕ) → Option (List ℕ) → Option (List ℕ) → Type 0
Tells status input old new = (fault : Fault) × (status_of fault ≡ status) × NamesBadLine input fault × Begins old new (line_of fault)
