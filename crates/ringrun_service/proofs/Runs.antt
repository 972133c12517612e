-- Runs of the script's commands, one by one, and what they print.
use Rattle.std.proofs.Common.{◌≡◌, ℕ, ℤ, ◌-◌, ◌^◌, ◌≤◌, List, [], ◌∷◌, ◌++◌, length, flat_map, Option, refl, sym, ◌∙◌, arith, append-nil}
use Rattle.std.proofs.lemmas.Grind.{common_steps}
use Rattle.std.proofs.lemmas.List.{take_all}
use Rattle.ringbuffer.specs.Contents.{IsWithin}
use Rattle.ringbuffer.specs.History.{MeaningsAgree}
use Rattle.ringbuffer.specs.Meaning.{after_all, after_one, replies_to, reply_to, RunsJoin}
use Rattle.ringbuffer.specs.declared.Command.{Command}
use Rattle.ringbuffer.specs.declared.Reply.{Reply}
use Rattle.ringrun_service.specs.Program.{printed_on}
use Rattle.ringrun_service.specs.Replies.{items_line, reply_line}
use Rattle.ringrun_service.specs.Script.{plain, vector_of}

pub in_full : (numbers : List ℤ) → length numbers ≤ 2 ^ 63 - 1 → (vector_of numbers).items ≡ numbers
unfolding vector_of
in_full numbers few = take_all (2 ^ 63 - 1) numbers few

plain_same : (limit : Option ℕ) (l : List ℤ) (c : Command ℤ) → (after_one limit l (plain c) ≡ after_one limit l c) × (reply_to limit l (plain c) ≡ reply_to limit l c)
plain_same limit l c = grind (arith, in_full)

-- one command alone
pub one_reply : (limit : Option ℕ) (l : List ℤ) (command : Command ℤ) (reply : Reply ℤ) (old new : List ℕ) → reply ≡ reply_to limit l command → new ≡ old ++ reply_line reply
    → new ≡ old ++ flat_map reply_line (replies_to limit l (plain command ∷ []))
one_reply limit l command reply old new said more = grind (arith, append-nil, plain_same limit l command)

pub one_contents : (limit : Option ℕ) (l after : List ℤ) (command : Command ℤ) → after ≡ after_one limit l command → after ≡ after_all limit l (plain command ∷ [])
one_contents limit l after command there = there ∙ sym (plain_same limit l command).0

-- the commands of one more line
pub line_run : RunsJoin ℤ → (limit kept_limit : Option ℕ) (start now after : List ℤ) (done line : List (Command ℤ)) (old new : List ℕ) → kept_limit ≡ limit
    → now ≡ after_all limit start done → old ≡ flat_map reply_line (replies_to limit start done) → new ≡ old ++ flat_map reply_line (replies_to kept_limit now line) → after ≡ after_all kept_limit now line
    → (new ≡ flat_map reply_line (replies_to limit start (done ++ line))) × (after ≡ after_all limit start (done ++ line))
line_run join limit kept_limit start now after done line old new same here text more there = grind (arith, common_steps, join limit start done line)

-- the items after the replies
pub printed : MeaningsAgree ℤ → (limit : Option ℕ) (start now : List ℤ) (done : List (Command ℤ)) (old new : List ℕ) → IsWithin start limit
    → now ≡ after_all limit start done → old ≡ flat_map reply_line (replies_to limit start done) → new ≡ old ++ items_line now → new ≡ printed_on limit start done
unfolding printed_on
printed agree limit start now done old new within here text more = let same = agree limit start done within in more ∙ rw (text, here, same.0, same.1) refl
