use Rattle.std.proofs.Common.{◌≡◌, ℕ, ◌-◌, ◌++◌, List, length, take, drop, refl, ◌∙◌, arith}
use Rattle.std.proofs.lemmas.List.{drop_min, length-drop, take_all}
use Rattle.ringbuffer.proofs.Items.{drop-append}
use Rattle.ring_uses.proofs.samples.SampleBuffer.last.Goals as goal

to_its_end : {A : Type 0} (n : ℕ) (xs : List A) → take (length xs - n) (drop n xs) ≡ drop n xs
to_its_end n xs = take_all (length xs - n) (drop n xs) (omega (arith, length-drop n xs))

pub returns : goal.returns
returns c =
    let xs = c.as_slices.result.0.now in let ys = c.as_slices.result.1.now in let n = c.saturating_sub-older.result in
    let one = c.in_ok-extend_from_slice.ensures.items in let two = c.in_ok-extend_from_slice-2.ensures.items in
    let all : drop n (xs ++ ys) ≡ drop (length c.args.self.now.samples - c.args.k) c.args.self.now.samples = rw (c.as_slices.ensures.items, ← c.self.view_is, c.saturating_sub-older.ensures, c.len.ensures.value) refl in
    two ∙ rw (one, c.new-last.ensures.items, to_its_end c.min.result xs, to_its_end c.saturating_sub.result ys, c.min.ensures, c.saturating_sub.ensures, drop_min) (drop-append n xs ys ∙ all)
