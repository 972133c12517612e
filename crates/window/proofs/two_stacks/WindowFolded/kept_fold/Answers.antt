use Rattle.window.proofs.TwoStacks.{both}
use Rattle.window.proofs.two_stacks.WindowFolded.kept_fold.Goals as goal

-- The older items stand before the newer ones.
pub returns : goal.returns
returns g c = rw (← c.self.view_is) (both c.self.invariant c.combine.ensures.both)
