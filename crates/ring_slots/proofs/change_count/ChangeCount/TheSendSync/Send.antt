use Rattle.ring_slots.proofs.Words.{IsSend, owning_send}
use Rattle.ring_slots.specs.contracts.change_count.ChangeCount.{the_row, the_type}

pub send : IsSend the_row
send = owning_send the_type tt (λ d. tt) (λ k d w. tt)
