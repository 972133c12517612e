-- The next line of a script, as it is read.
use Rattle.std.specs.Prelude.{◌≡◌, ◌<◌, ◌≤◌, [], ◌∷◌, length, Some, codes}
use Rattle.ringrun_service.specs.declared.script.Line.{Line}
use Rattle.ringrun_service.specs.declared.script.Line.TheVariants.{Blank, Command, Extension}
use Rattle.ringrun_service.specs.declared.script.Script.{Script}
use Rattle.ringrun_service.specs.Parsing.{after_blanks, after_name}
use Rattle.ringrun_service.specs.Rest.{script_left}
use Rattle.ringrun_service.specs.Script.{plain, with_front}

-- what is left is shorter, unless nothing was
abbrev pub IsShorter : Script → Script → Type 0
IsShorter old new = 0 < length old.rest.now → length new.rest.now < length old.rest.now

-- the first line that was left is this one: the rest goes on after it, or at it where an extension's numbers are to be read
abbrev pub IsLine : Line → Script → Script → Type 0
IsLine Blank old new = (script_left old ≡ with_front [] (script_left new)) × IsShorter old new
IsLine (Command command) old new = (script_left old ≡ with_front (plain command ∷ []) (script_left new)) × IsShorter old new
IsLine (Extension numbers) old new = (after_name (codes "extend") (after_blanks old.rest.now) ≡ Some numbers.now) × (length numbers.now ≤ length old.rest.now) × (new ≡ old)
