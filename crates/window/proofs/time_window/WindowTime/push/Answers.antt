use Rattle.std.proofs.Common.{◌≡◌, ◌-◌, false, nat_lt, refl, rules}
use Rattle.window.proofs.Times.{without_older_pushed}
use Rattle.window.proofs.time_window.WindowTime.push.Goals as goal

-- What gave way was too old.
pub returns-else-came_since-clause-ok : goal.returns-else-came_since-clause-ok
returns-else-came_since-clause-ok g c =
    let w = c.self.inside in
    let time = c.args.stamp - w.span in
    let young : nat_lt c.args.stamp time ≡ false = search rules in
    rw (← c.self.view_is, c.drop_older.ensures.rest, c.saturating_sub-time.ensures, c.in-Ok.ensures.ok refl)
    (without_older_pushed (g.R.RingBuffer.limit w.ring) time (g.R.RingBuffer.contents w.ring) (record { stamp = c.args.stamp; item = c.args.item }) c.push.ensures.within young (search rules))
