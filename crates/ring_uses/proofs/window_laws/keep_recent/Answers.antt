use Rattle.std.proofs.Common.{◌∙◌}
use Rattle.std.specs.Prelude.{◌-◌}
use Rattle.window.specs.TimeLaws.{without_older_is_filter}
use Rattle.ring_uses.proofs.window_laws.keep_recent.Goals as goal

pub returns : goal.returns
returns g c = c.advance.ensures.rest ∙ without_older_is_filter (c.args.now - c.args.events.now.span) c.args.events.now.contents c.requires
