-- How a run of the program ends, from how its parts did.
use Rattle.std.proofs.Common.{◌≡◌, ◌↔◌, ℕ, List, Option, Some, None, Result, Ok, Err, IfErr, IfSome, refl, arith}
use Rattle.std.specs.Io.KnownBytes.{Appends}
use Rattle.std.specs.Result.{OnOk}
use Rattle.ringrun_service.specs.Program.{limit_of, Answers, IsBad, NamesBadLine, Prints, Writes}
use Rattle.ringrun_service.specs.Arguments.{AsksFor}
use Rattle.ringrun_service.specs.declared.arguments.Arguments.{Arguments}
use Rattle.ringrun_service.specs.declared.arguments.Kind.{Kind}
use Rattle.ringrun_service.specs.declared.fault.Fault.{Fault}
use Rattle.ringrun_service.specs.declared.fault.Fault.TheVariants.{NotACommand}

-- a known text under another name
pub carried : (known : Option (List ℕ)) (xs ys : List ℕ) → xs ≡ ys → IfSome known (λ bytes. ys ≡ bytes) → IfSome known (λ bytes. xs ≡ bytes)
carried known xs ys e h = rw e h

-- what is printed is the output
written : (kind : Kind) (capacity : ℕ) (known : Option (List ℕ)) (old new : Option (List ℕ)) (text : List ℕ) → IfSome known (λ bytes. Prints (limit_of kind capacity) bytes text) → Appends old new text → IfSome known (Writes kind capacity old new)
written kind capacity None old new text h appends = tt
written kind capacity (Some bytes) old new text (commands, good, is) appends = rw good (refl, rw is at appends)

pub done : {T E : Type 0} (result : Result T E) (words : List (List ℕ)) (known old new : Option (List ℕ)) (text shown : List ℕ)
    → ((a : Arguments) × AsksFor words a × IfSome known (λ bytes. Prints (limit_of a.kind a.capacity) bytes text)) → shown ≡ text → OnOk result (Appends old new shown)
    → OnOk result (Answers words known old new)
done (Ok x) words known old new text shown (a, asks, prints) same appends = (a, asks, written a.kind a.capacity known old new text prints (rw same at appends))
done (Err x) words known old new text shown what same appends = tt

-- what is named is the input's first bad line
pub answered_bad : {T : Type 0} (result : Result T Fault) (known : Option (List ℕ)) (bytes : List ℕ) → IfSome known (λ xs. bytes ≡ xs)
    → ((line : ℕ) → (result ≡ Err (NotACommand line)) ↔ IsBad line bytes) → IfErr result (NamesBadLine known)
answered_bad (Err (NotACommand n)) (Some xs) bytes same h = rw same at ((h n).0 refl)
answered_bad result known bytes same h = grind arith
