use Rattle.ringbuffer.proofs.Passed.{all_up, first_full, second_full_up}
use Rattle.ringbuffer.proofs.fixed.FixedRing.pass_up.Goals as goal

pub pass_up-over-requires : goal.pass_up-over-requires
pass_up-over-requires g c = let at = c.stretch-place.ensures in first_full _ _ _ c.self.invariant _ c.self.view_is _ _ _ _ c.requires at.place at.first

pub pass_up-requires : goal.pass_up-requires
pass_up-requires g c = let at = c.stretch-place.ensures in second_full_up _ _ _ c.self.invariant _ c.self.view_is _ _ _ _ c.requires at.place at.first _ _ _ c.pass_up-over.ensures

pub invariant_of-self : goal.invariant_of-self
invariant_of-self g c = let at = c.stretch-place.ensures in (all_up _ _ _ c.self.invariant _ c.self.view_is _ _ _ _ c.requires at.place at.first _ _ _ c.pass_up-over.ensures _ _ c.pass_up.ensures).0

pub returns : goal.returns
returns g c = let at = c.stretch-place.ensures in (all_up _ _ _ c.self.invariant _ c.self.view_is _ _ _ _ c.requires at.place at.first _ _ _ c.pass_up-over.ensures _ _ c.pass_up.ensures).1
