-- Inputs worked out: which commands they write, or which line is bad, and what the program prints for them.
use Rattle.std.proofs.Common.{◌≡◌, [], ◌∷◌, ◌++◌, Ok, pos, negsuc, codes, refl}
use Rattle.std.specs.Fmt.{digits}
use Rattle.ringbuffer.specs.declared.Command.TheVariants.{Push, Skip, Clear}
use Rattle.ringrun_service.specs.Program.{output_of, printed_on, IsBad}
use Rattle.ringrun_service.specs.Script.{command_named, lines_of, number_of, script_of, vector_of, words_of}
use Rattle.ringrun_service.specs.declared.arguments.Kind.TheVariants.{Array, Heap, Grow}

-- a push onto a full ring says what it overwrote
pub pushes_over : output_of Array 2 (codes "push 5\npush 42\npush 1\ndequeue\n") ≡ codes "pushed\npushed\npushed over 5\ndequeued 42\nitems 1\n"
unfolding script_of lines_of words_of number_of command_named vector_of printed_on digits
pushes_over = refl

-- an extension longer than the ring, an empty line, and an extension without a number
pub extends : output_of Heap 2 (codes "extend 1 2 3\n\nextend\nclear\ndequeue\n") ≡ codes "extended\nextended\ncleared\ndequeued none\nitems\n"
unfolding script_of lines_of words_of number_of command_named vector_of printed_on digits
extends = refl

-- no input
pub nothing : output_of Heap 2 [] ≡ codes "items\n"
unfolding script_of lines_of words_of number_of command_named vector_of printed_on digits
nothing = refl

-- a ring without a limit
pub grows : output_of Grow 0 (codes "extend 1 2 3\nskip\npush 4\n") ≡ codes "extended\nskipped\npushed\nitems 2 3 4\n"
unfolding script_of lines_of words_of number_of command_named vector_of printed_on digits
grows = refl

-- an extension, and a push over its oldest item that is left
pub extends_then_pushes : output_of Array 2 (codes "extend 1 2 3\npush 4\n") ≡ codes "extended\npushed over 2\nitems 3 4\n"
unfolding script_of lines_of words_of number_of command_named vector_of printed_on digits
extends_then_pushes = refl

-- the first bad line, of those with words and without
pub bad_lines : IsBad 2 (codes "push 1\npush x\n") × IsBad 3 (codes "\n\npush x") × IsBad 1 (codes "push 9223372036854775808")
unfolding script_of lines_of words_of number_of command_named vector_of
bad_lines = (refl, refl, refl)

-- lines that are no commands
pub no_commands : IsBad 1 (codes "push") × IsBad 1 (codes "push 1 2") × IsBad 1 (codes "dequeue 1") × IsBad 1 (codes "extend 1 x") × IsBad 1 (codes "PUSH 1") × IsBad 1 (codes "push ++1") × IsBad 1 (codes "push -")
    × IsBad 1 (codes "push 1.") × IsBad 1 (255 ∷ []) × IsBad 1 (codes "skip" ++ 11 ∷ [])
unfolding script_of lines_of words_of number_of command_named vector_of
no_commands = (refl, refl, refl, refl, refl, refl, refl, refl, refl, refl)

-- the least number, white space of each kind, and a last line without its line feed
pub good_lines : (script_of (codes "push -9223372036854775808") ≡ Ok (Push (negsuc 9223372036854775807) ∷ [])) × (script_of (codes " \tpush\t+07 \n" ++ 12 ∷ codes "skip" ++ 13 ∷ 10 ∷ codes "clear") ≡ Ok (Push (pos 7) ∷ Skip ∷ Clear ∷ []))
unfolding script_of lines_of words_of number_of command_named vector_of
good_lines = (refl, refl)
