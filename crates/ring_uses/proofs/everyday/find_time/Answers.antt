-- What a binary search finds among numbers that rise.
use Rattle.std.proofs.lemmas.List.Sorted.{searched}
use Rattle.std.proofs.lemmas.Result.{MatchResult-weaker}
use Rattle.ring_uses.proofs.everyday.find_time.Goals as goal

pub returns-clause-found : goal.returns-clause-found
returns-clause-found g c =
    let found = searched (g.R.RingBuffer.contents c.args.times.now) c.args.time c.binary_search.result c.binary_search.ensures.position (λ i j le lt. c.requires i j 0 le lt) in
    MatchResult-weaker c.binary_search.result found (λ i at. at.1) (λ i at. tt)

pub returns-clause-before : goal.returns-clause-before
returns-clause-before g c =
    let found = searched (g.R.RingBuffer.contents c.args.times.now) c.args.time c.binary_search.result c.binary_search.ensures.position (λ i j le lt. c.requires i j 0 le lt) in
    MatchResult-weaker c.binary_search.result found (λ i at. tt) (λ i at. at.1)

pub returns-clause-behind : goal.returns-clause-behind
returns-clause-behind g c =
    let found = searched (g.R.RingBuffer.contents c.args.times.now) c.args.time c.binary_search.result c.binary_search.ensures.position (λ i j le lt. c.requires i j 0 le lt) in
    MatchResult-weaker c.binary_search.result found (λ i at. tt) (λ i at. at.2)
