-- The slice has the vector's words.
use Rattle.std.proofs.Common.{◌≡◌, ◌↔◌, map, subst}
use Rattle.std.specs.Prelude.{string_bytes}
use Rattle.ringrun_service.specs.Arguments.{NamesRing}
use Rattle.ringrun_service.proofs.entry.run.Goals as goal

pub returns-in-Ok-clause-arguments : goal.returns-in-Ok-clause-arguments
returns-in-Ok-clause-arguments g c = rw c.in-Ok.is (subst (λ words. (c.serve-code.result ≡ 2) ↔ (¬ NamesRing (map string_bytes words))) c.as_slice.ensures.value c.serve-code.ensures.arguments)
