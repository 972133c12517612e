-- What is left to read of a script.
use Rattle.std.specs.Prelude.{◌≡◌, ℕ, ℤ, ◌+◌, ◌-◌, List, ◌++◌, length, take, count_by, Result, Err}
use Rattle.ringbuffer.specs.declared.Command.{Command}
use Rattle.ringrun_service.specs.Fault.{IfNotACommand}
use Rattle.ringrun_service.specs.declared.fault.Fault.{Fault}
use Rattle.ringrun_service.specs.declared.script.Script.{Script}
use Rattle.ringrun_service.specs.Script.{is_line_feed, lines_of, script_from}

-- what is left ends the text
abbrev pub IsRest : Script → Type 0
IsRest script = (front : List ℕ) × (script.text.now ≡ front ++ script.rest.now)

-- the number of the first line that is left, counted from 1
abbrev pub next_number : Script → ℕ
next_number script = count_by is_line_feed (take (length script.text.now - length script.rest.now) script.text.now) + 1

-- the commands of the lines that are left, or the number of the first bad one
unfoldable pub script_left : Script → Result (List (Command ℤ)) ℕ
script_left script = script_from (next_number script) (lines_of script.rest.now)

-- a fault that names a line names the first bad one of those that are left
abbrev pub NamesFirstBad : Script → Fault → Type 0
NamesFirstBad script fault = IfNotACommand fault (λ line. script_left script ≡ Err line)
