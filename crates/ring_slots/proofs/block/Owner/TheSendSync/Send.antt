use Rattle.ring_slots.proofs.Words.{RattleType, IsSend, owning_send, sendable}
use Rattle.ring_slots.proofs.SendSync.{owned-Keyless}
use Rattle.ring_slots.specs.contracts.block.Owner.{the_row, the_type}

pub send : (R : RattleType) → IsSend R → IsSend (the_row R)
send R s = owning_send (the_type R) (search sendable, tt) (λ d. owned-Keyless R s d.at d.slots) (λ k d w. tt)
