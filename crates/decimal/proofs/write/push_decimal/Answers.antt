-- What is cut off is what stands after the number's characters.
use Rattle.std.proofs.Common.{◌≡◌, ℕ, ◌+◌, ◌-◌, ◌≤◌, List, ◌++◌, length, append_assoc, arith, ap, drop, length-drop, take, ◌∙◌}
use Rattle.std.proofs.Math.Seq.{take-append-add, take-append_seam}
use Rattle.std.proofs.lemmas.Int.{to_z-of_z}
use Rattle.std.proofs.lemmas.List.{length-take, take-append-le, take-take}
use Rattle.std.specs.Fmt.{signed_decimal}
use Rattle.std.specs.Int.{w64}
use Rattle.decimal.proofs.write.push_decimal.Goals as goal

kept : {A : Type 0} (count all : ℕ) (text out after more : List A) → length text + count ≤ all → count ≤ length out → take (length text + count) (take all ((text ++ (out ++ after)) ++ more)) ≡ text ++ take count out
kept count all text out after more fits few =
    let joined : (text ++ (out ++ after)) ++ more ≡ text ++ (out ++ (after ++ more)) = append_assoc text (out ++ after) more ∙ ap (λ l. text ++ l) (append_assoc out after more) in
    take-take (length text + count) all _ fits ∙ ap (take (length text + count)) joined ∙ take-append-add text (out ++ (after ++ more)) count ∙ ap (λ l. text ++ l) (take-append-le count out (after ++ more) few)

pub returns-clause-appended : goal.returns-clause-appended
returns-clause-appended c =
    let text = c.args.text.now.items in let out = c.write_signed-count.new.output in let count = c.write_signed-count.result in
    let held = c.as_mut_slice.ensures.value ∙ c.in_ok-extend_from_slice.ensures.items in
    let long : c.len-len.result ≡ length text = omega (arith, ap length held, c.as_mut_slice.ensures.len, c.in_ok-extend_from_slice.ensures.len, c.len-len.ensures) in
    let more = c.in_ok-extend_from_slice.ensures.len in
    let slice = c.as_mut_slice.result.now in let left = length-drop c.len-len.result slice in let wide = length-take (length slice - c.len-len.result) (drop c.len-len.result slice) in
    let front : take c.len-len.result c.as_mut_slice.result.now ≡ text = rw (held, long) (take-append_seam text _) in
    let cut = rw (front, long) at c.truncate.ensures.items in
    cut ∙ kept count c.extend_from_slice.new.self.len text out _ _ (omega (arith, long, more, c.len-len.ensures)) (omega (arith, c.write_signed-count.ensures.long, wide, left, more, c.len-len.ensures, c.as_mut_slice.ensures.len))
    ∙ ap (λ l. text ++ l) (c.write_signed-count.ensures.written ∙ ap signed_decimal (to_z-of_z w64 c.args.number c.ranges.number))
