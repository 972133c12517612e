use Rattle.ringbuffer.proofs.Passed.{all_down, first_full_down, second_full}
use Rattle.ringbuffer.proofs.fixed.FixedRing.pass_down.Goals as goal

pub pass_down-over-requires : goal.pass_down-over-requires
pass_down-over-requires g c = let at = c.stretch-place.ensures in second_full _ _ _ c.self.invariant _ c.self.view_is _ _ _ _ c.requires at.place at.first

pub pass_down-requires : goal.pass_down-requires
pass_down-requires g c = let at = c.stretch-place.ensures in first_full_down _ _ _ c.self.invariant _ c.self.view_is _ _ _ _ c.requires at.place at.first _ _ _ c.pass_down-over.ensures

pub invariant_of-self : goal.invariant_of-self
invariant_of-self g c = let at = c.stretch-place.ensures in (all_down _ _ _ c.self.invariant _ c.self.view_is _ _ _ _ c.requires at.place at.first _ _ _ c.pass_down-over.ensures _ _ c.pass_down.ensures).0

pub returns : goal.returns
returns g c = let at = c.stretch-place.ensures in (all_down _ _ _ c.self.invariant _ c.self.view_is _ _ _ _ c.requires at.place at.first _ _ _ c.pass_down-over.ensures _ _ c.pass_down.ensures).1
