-- What a writer gains piece by piece.
use Rattle.std.proofs.Common.{◌≡◌, ℕ, List, ◌++◌, Option, append_assoc, arith, drop, take}
use Rattle.std.proofs.lemmas.Grind.{common_steps}
use Rattle.std.specs.Io.KnownBytes.{Appends, Keeps}

-- some bytes of a line are gained, and these are left
abbrev pub Written : Option (List ℕ) → Option (List ℕ) → List ℕ → List ℕ → Type 0
Written old new line rest = (told : List ℕ) × (line ≡ told ++ rest) × Appends old new told

gained : (old mid new : Option (List ℕ)) (told more : List ℕ) → Appends old mid told → Appends mid new more → Appends old new (told ++ more)
gained old mid new told more first next = grind (arith, append_assoc)

pub wrote : (old mid new : Option (List ℕ)) (line rest : List ℕ) (n : ℕ) → Written old mid line rest → Appends mid new (take n rest) → Written old new line (drop n rest)
wrote old mid new line rest n (told, is, first) next = (told ++ take n rest, grind (arith, common_steps), gained old mid new told (take n rest) first next)

pub wrote_nothing : (old mid new : Option (List ℕ)) (line rest : List ℕ) → Written old mid line rest → Keeps mid new → Written old new line rest
wrote_nothing old mid new line rest (told, is, first) next = (told, is, grind arith)
