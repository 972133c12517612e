use Rattle.ringbuffer.proofs.Words.{MatchResult-weaker, View, after_extend, ap, arith, length, sym, ◌∙◌}
use Rattle.ringbuffer.proofs.fixed.FixedRing.extend_by_clones.Goals as goal

-- The newest items have their clones, and the others give way.
pub returns : goal.returns
returns g c =
    let (ys, clones, done, (lies, _)) = c.push_clones-pushed.ensures in let parts = c.split_at.ensures in
    let limit = c.limit-capacity.ensures.value ∙ ap (λ (v : View _). g.S.RingSlots.limit v.capacity) c.self.view_is in (
      length c.split_at.result.0.now,
      ys,
      omega (arith, limit, parts.front_len),
      rw (parts.front_len, sym parts.back) clones,
      MatchResult-weaker c.push_clones-pushed.result.1 done (λ _ all. omega (arith, all, parts.front_len, parts.back_len)) (λ _ refused. refused),
      (rw c.limit-capacity.ensures.value at lies.shows) ∙ ap (λ v. after_extend (g.S.RingSlots.limit v.capacity) v ys) c.self.view_is,
    )
