use Rattle.ring_slots.proofs.Words.{RattleType, IsSync, sendable, shape, struct_sync, to}
use Rattle.ring_slots.proofs.SendSync.{lent-Common}
use Rattle.ring_slots.specs.contracts.block.Owner.{the_row, the_type}

pub sync : (R : RattleType) → IsSync R → IsSync (the_row R)
sync R y = let O = the_type R in record { shared = λ d b o κ. ((struct_sync (shape O) (search sendable, tt)).shared (to O d) b o κ, lent-Common R y d.at d.slots κ) }
