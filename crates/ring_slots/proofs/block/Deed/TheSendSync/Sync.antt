use Rattle.ring_slots.proofs.Words.{RattleType, IsSync, sendable, shape, struct_sync, to}
use Rattle.ring_slots.specs.contracts.block.Deed.{the_row, the_type}

pub sync : (R : RattleType) → IsSync (the_row R)
sync R = let O = the_type R in record { shared = λ d b o κ. ((struct_sync (shape O) (search sendable, tt)).shared (to O d) b o κ, tt) }
