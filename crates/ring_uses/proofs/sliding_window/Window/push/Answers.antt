use Rattle.std.proofs.Common.{◌≡◌, [], ◌∷◌, ◌++◌, ◌∙◌, Err, IsOk, Ok, OnOk, Result, Some, refl, sym}
use Rattle.std.proofs.lemmas.Int.{to_z-of_z}
use Rattle.ringbuffer.specs.Contents.{keep_last}
use Rattle.ring_uses.proofs.sliding_window.Window.push.Given.{Over}
use Rattle.ring_uses.proofs.sliding_window.Window.push.Goals as goal

-- what a call tells that is never refused
told : {T E : Type 0} (P : Type 0) (r : Result T E) → IsOk r → OnOk r P → P
told P (Ok x) ok p = p
told P (Err e) ok p = absurd cc

lows : (g : Over) (c : goal.After-push-2 g) → c.push.new.self.contents ≡ keep_last (Some g.row.N) (c.self.inside.lows.contents ++ c.args.sample ∷ [])
lows g c = let limit = c.self.invariant.1 in rw (limit, to_z-of_z _ c.args.sample c.ranges.sample) at (told _ c.push.result (c.push.ensures.succeeds (rw limit refl)) c.push.ensures.ok)

-- Both windows take the sample in.
pub invariant_of-self : goal.invariant_of-self
invariant_of-self g c =
    let (same, low, high) = c.self.invariant in
    let highs = rw (high, same, to_z-of_z _ c.args.sample c.ranges.sample) at (told _ c.push-2.result (c.push-2.ensures.succeeds (rw high refl)) c.push-2.ensures.ok) in
    (highs ∙ sym (lows g c), c.push.ensures.limit ∙ low, c.push-2.ensures.limit ∙ high)

pub returns : goal.returns
returns g c = rw (← c.self.view_is) (lows g c)
