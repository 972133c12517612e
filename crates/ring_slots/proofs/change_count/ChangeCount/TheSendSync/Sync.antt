use Rattle.ring_slots.proofs.Words.{whole-keyless, IsSync}
use Rattle.ring_slots.specs.contracts.change_count.ChangeCount.{the_row}
use Rattle.ring_slots.proofs.change_count.ChangeCount.TheSendSync.Send.{send}

pub sync : IsSync the_row
sync = record { shared = λ d b o κ q. whole-keyless _ _ send.owned q d b o }
