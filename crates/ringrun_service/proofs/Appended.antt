-- What a text has at its end once a line is put there.
use Rattle.std.proofs.Common.{◌≡◌, ℕ, cond, List, ◌++◌, Result, append_assoc, arith}
use Rattle.std.specs.Result.{OnOk, is_ok}

pub appended : {T E : Type 0} (result : Result T E) (new old words : List ℕ) → new ≡ cond (is_ok result) (old ++ words) old → OnOk result (new ≡ old ++ words)
appended result new old words e = grind arith

pub number_appended : {T E : Type 0} (result : Result T E) (new text words number end : List ℕ) → OnOk result (new ≡ ((text ++ words) ++ number) ++ end) → OnOk result (new ≡ text ++ ((words ++ number) ++ end))
number_appended result new text words number end e = grind (arith, append_assoc)
