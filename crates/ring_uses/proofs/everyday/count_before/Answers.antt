-- Among numbers that rise, those below a number come first.
use Rattle.std.proofs.Common.{arith, ltb, ltb-false, ltb-true, rules}
use Rattle.std.proofs.lemmas.List.Sorted.{IsPartitionPoint-from_clause, IsPartitionedBy-ltb}
use Rattle.ring_uses.proofs.everyday.count_before.Goals as goal

pub returns-clause-before : goal.returns-clause-before
returns-clause-before g c =
    let parted = IsPartitionedBy-ltb (λ t. t) _ c.args.time c.requires in
    let point = IsPartitionPoint-from_clause (λ t. ltb t c.args.time) _ _ c.partition_point.ensures.partitioned parted (λ a r q k. search rules) in
    λ k below. ltb-true _ _ (point.0 k 0 (omega arith) below)

pub returns-clause-behind : goal.returns-clause-behind
returns-clause-behind g c =
    let parted = IsPartitionedBy-ltb (λ t. t) _ c.args.time c.requires in
    let point = IsPartitionPoint-from_clause (λ t. ltb t c.args.time) _ _ c.partition_point.ensures.partitioned parted (λ a r q k. search rules) in
    λ k from to. ltb-false _ _ (point.1 k 0 from to)
