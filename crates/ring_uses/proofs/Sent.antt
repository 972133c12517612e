-- Bytes that were sent out of those on their way.
use Rattle.std.proofs.Common.{◌≡◌, ◌∙◌, ℕ, ◌+◌, ◌≤◌, List, ◌++◌, length, take, drop, ap, sym, refl, append_assoc, arith}
use Rattle.std.proofs.Math.Seq.{take-append-add, take-append_seam}
use Rattle.std.proofs.lemmas.List.{length-take, take-append-drop}

-- Once some of the bytes on their way were sent after those before, what was sent and what is still on its way is the
-- same as before.
pub take-append-sent : (output now part tail : List ℕ) (s n : ℕ) → s ≤ length output → n ≤ length now
    → take (s + n) (take s output ++ ((take n now ++ part) ++ tail)) ++ drop n now ≡ take s output ++ now
take-append-sent output now part tail s n before there =
    let front : length (take s output) ≡ s = omega (arith, length-take s output) in
    let size : length (take n now) ≡ n = omega (arith, length-take n now) in
    let all = (take n now ++ part) ++ tail in
    let cut : take n all ≡ take n now = rw append_assoc (ap (λ k. take k (take n now ++ (part ++ tail))) (sym size) ∙ take-append_seam (take n now) (part ++ tail)) in
    let sent : take (s + n) (take s output ++ all) ≡ take s output ++ take n now = ap (λ k. take (k + n) (take s output ++ all)) (sym front) ∙ take-append-add (take s output) all n ∙ ap (λ l. take s output ++ l) cut in
    rw (sent, append_assoc, take-append-drop) refl
