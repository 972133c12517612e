use Rattle.ring_slots.proofs.Words.{RattleType, IsSend, owning_send, sendable}
use Rattle.ring_slots.proofs.SendSync.{right_if-Keyless}
use Rattle.ring_slots.specs.contracts.block.Deed.{the_row, the_type}

pub send : (R : RattleType) → IsSend (the_row R)
send R = owning_send (the_type R) (search sendable, tt) (λ d. right_if-Keyless R _ d.alloc d.at d.len) (λ k d w. tt)
