use Rattle.std.proofs.Common.{◌≡◌, ◌++◌, ◌∷◌, ◌∙◌, [], ap, rules}
use Rattle.std.specs.Prelude.{FitsSigned}
use Rattle.std.specs.Int.{w128}
use Rattle.std.proofs.lemmas.Int.{to_z-of_z}
use Rattle.ringbuffer.specs.Contents.{keep_last}
use Rattle.window.specs.SumLaws.{total_pushed}
use Rattle.window.specs.Sums.{total}
use Rattle.ring_uses.proofs.window_laws.sum_with.Goals as goal

-- The push changes the sum as the law says.
pub returns : goal.returns
returns g c =
    let samples = c.args.samples.now in
    let in_range : FitsSigned w128 c.sum.result = search rules in
    let pushed : c.push.new.self.contents ≡ keep_last samples.limit (samples.contents ++ c.args.sample ∷ []) = search rules in
    rw (to_z-of_z w128 c.sum.result in_range) (c.sum.ensures ∙ ap total pushed ∙ total_pushed samples.limit samples.contents c.args.sample c.len.ensures.within)
