use Rattle.std.proofs.Common.{refl}
use Rattle.ring_uses.proofs.limiter.RateLimiter.allow.Goals as goal

-- The event is remembered.
pub returns-clause-remembered : goal.returns-clause-remembered
returns-clause-remembered c = rw (c.push.ensures.pushes, ← c.self.view_is) refl
