-- What commands do to the contents of a ring, as a list, and what they answer.
use Rattle.std.specs.Prelude.{◌≡◌, ℕ, ◌-◌, List, [], ◌∷◌, ◌++◌, length, take, drop, map, replicate, slice_get, Option, Some, None, Vec}
use Rattle.std.specs.Global.{Global}
use Rattle.ring_core.specs.declared.command.Command.{Command}
use Rattle.ring_core.specs.declared.command.Command.TheVariants.{Push, Extend, Dequeue, Skip, Clear}
use Rattle.ring_core.specs.declared.command.Reply.{Reply}
use Rattle.ring_core.specs.declared.command.Reply.TheVariants.{Pushed, Extended, Dequeued, Skipped, Cleared}
use Rattle.ring_core.specs.declared.command.Refused.{Refused}
use Rattle.ring_core.specs.declared.command.Refused.TheVariants as refused
use Rattle.ring_core.specs.declared.command.RunFault.{RunFault}
use Rattle.ring_core.specs.declared.command.RunFault.TheVariants as fault
use Rattle.ring_core.specs.Contents.{keep_last, overwritten, AppendsCut}

-- the items that a command pushes
abbrev pub puts : {T : Type 0} → Command T → List T
puts (Push x) = x ∷ []
puts (Extend items) = items.items
puts Dequeue = []
puts Skip = []
puts Clear = []

-- what a command leaves of the contents l
abbrev pub after_one : {T : Type 0} → Option ℕ → List T → Command T → List T
after_one limit l (Push x) = keep_last limit (l ++ x ∷ [])
after_one limit l (Extend items) = keep_last limit (l ++ items.items)
after_one limit l Dequeue = drop 1 l
after_one limit l Skip = drop 1 l
after_one limit l Clear = []

-- what a command answers where a push overwrites the first of these items, and a dequeue takes the second
abbrev pub reply_with : {T : Type 0} → Option T → Option T → Command T → Reply T
reply_with overwritten taken (Push x) = Pushed overwritten
reply_with overwritten taken (Extend items) = Extended
reply_with overwritten taken Dequeue = Dequeued taken
reply_with overwritten taken Skip = Skipped
reply_with overwritten taken Clear = Cleared

-- what a command answers at the contents l
abbrev pub reply_to : {T : Type 0} → Option ℕ → List T → Command T → Reply T
reply_to limit l c = reply_with (overwritten limit l) (slice_get l 0) c

-- what the commands leave, one after the other
abbrev pub after_all : {T : Type 0} → Option ℕ → List T → List (Command T) → List T
after_all limit l [] = l
after_all limit l (c ∷ cs) = after_all limit (after_one limit l c) cs

-- what they answer
abbrev pub replies_to : {T : Type 0} → Option ℕ → List T → List (Command T) → List (Reply T)
replies_to limit l [] = []
replies_to limit l (c ∷ cs) = reply_to limit l c ∷ replies_to limit (after_one limit l c) cs

-- a slice of n places that begins with these replies and holds no other
abbrev pub places : {T : Type 0} → ℕ → List (Reply T) → List (Option (Reply T))
places n replies = map Some replies ++ replicate (n - length replies) None

-- a cut beginning of the command's items came after the contents l
abbrev pub LeavesPart : {T : Type 0} → List T → Command T → List T → Type 0
LeavesPart l c new = AppendsCut l (puts c) new

-- the command was refused: a push hands its item back and changes nothing, an extension leaves a part of its items
abbrev pub IsRefused : {T : Type 0} → Command T → List T → List T → Refused T → Type 0
IsRefused c old new (refused.Push x) = (c ≡ Push x) × (new ≡ old)
IsRefused {T} c old new refused.Extend = (items : Vec T Global) × (c ≡ Extend items) × LeavesPart old c new

-- the run stopped at command number `at`: those before it were done, and of its own items a cut beginning came
abbrev pub StopsAt : {T : Type 0} → Option ℕ → List T → List (Command T) → ℕ → List T → Type 0
StopsAt {T} limit old cs at new =
    (c : Command T) × (slice_get cs at ≡ Some c) × LeavesPart (after_all limit old (take at cs)) c new

-- P of the commands that a run hands back, if it found no room for its replies
abbrev pub IfNoRoom : {T : Type 0} → RunFault T → (Vec (Command T) Global → Type 0) → Type 0
IfNoRoom (fault.NoRoom commands) P = P commands
IfNoRoom (fault.Stopped at replies) P = Unit {0}

-- P of the command's number and of the replies before it, if the run stopped
abbrev pub IfStopped : {T : Type 0} → RunFault T → (ℕ → List (Reply T) → Type 0) → Type 0
IfStopped (fault.NoRoom commands) P = Unit {0}
IfStopped (fault.Stopped at replies) P = P at replies.items

-- a run of xs and then of ys leaves and answers what a run of xs followed by ys does
abbrev pub RunsJoin : Type 0 → Type 0
RunsJoin T = (limit : Option ℕ) (l : List T) (xs ys : List (Command T))
    → (after_all limit l (xs ++ ys) ≡ after_all limit (after_all limit l xs) ys)
    × (replies_to limit l (xs ++ ys) ≡ replies_to limit l xs ++ replies_to limit (after_all limit l xs) ys)
