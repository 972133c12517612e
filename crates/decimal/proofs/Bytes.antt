-- Bytes in one number, and eight of them one by one.
use Rattle.std.proofs.Common.{◌≡◌, ℕ, ◌+◌, ◌*◌, ◌^◌, ◌<◌, List, [], ◌∷◌, length, map, arith}
use Rattle.std.specs.List.{AllByRecursion}

-- bytes, the lowest first
abbrev pub pack : List ℕ → ℕ
pack [] = 0
pack (b ∷ bs) = pack bs * 2 ^ 8 + b

abbrev pub Below : ℕ → List ℕ → Type 0
Below n bs = AllByRecursion (λ b. b < n) bs

pub mapped : (m n : ℕ) (f : ℕ → ℕ) → ((b : ℕ) → b < m → f b < n) → (bs : List ℕ) → Below m bs → Below n (map f bs)
mapped m n f small [] h = tt
mapped m n f small (b ∷ bs) (h, hs) = (small b h, mapped m n f small bs hs)

pub by_eight : (P : List ℕ → Type 0) → ((b0 b1 b2 b3 b4 b5 b6 b7 : ℕ) → P (b0 ∷ b1 ∷ b2 ∷ b3 ∷ b4 ∷ b5 ∷ b6 ∷ b7 ∷ [])) → (bs : List ℕ) → length bs ≡ 8 → P bs
by_eight P f (b0 ∷ b1 ∷ b2 ∷ b3 ∷ b4 ∷ b5 ∷ b6 ∷ b7 ∷ []) h = f b0 b1 b2 b3 b4 b5 b6 b7
by_eight P f _ h = absurd (omega (arith, h))
