-- A stretch of cells in memory is taken out of them and put back.
use Rattle.ring_slots.proofs.Words.{ap, arith, refl, rewrite, sym, ◌∙◌, ◌≡◌, ◌+◌, ◌*◌, ◌≤◌, ◌++◌, ℕ, List, [], ◌∷◌, length, length-drop, length-take, take, cut, take-append-drop, drop-drop, Ura, ent, sep, Fml, fsep, Logic, sem, cells, ‵, ◌⊛◌, ◌$◌, ◌∵◌, !, qed, move, split, fsplit, fjoin, use1, use2, by, done, at_mul}
use types.SemTy.{SemTy}
use borrow.Table.Elements.{at, cut_app, join_app}

module _ (T : SemTy) (b : ℕ) where
  -- the cells outside a stretch of them
  abbrev pub around : List T.rep → ℕ → ℕ → ℕ → Fml
  around xs from len o = fsep (cells T (take from xs) b o) (cells T (cut (from + len) xs) b (len * T.size + (from * T.size + o)))

  module _ {M : Type 1} {𝓤 : Ura M} (𝓛 : Logic 𝓤) where
    -- cells are cut in two, and joined
    cut_at : (n : ℕ) (xs : List T.rep) (o : ℕ) → n ≤ length xs → ent 𝓤 (sem 𝓛 (cells T xs b o)) (sep 𝓤 (sem 𝓛 (cells T (take n xs) b o)) (sem 𝓛 (cells T (cut n xs) b (n * T.size + o))))
    cut_at n xs o within =
        let count : length (take n xs) ≡ n = omega (arith, length-take n xs) in let place = at o T.size (length (take n xs)) in
        qed 𝓛 (‵ (cells T xs b o) ∷ []) ∵ rewrite ! 0 (λ (l : List T.rep). ‵ (cells T l b o)) (sym (take-append-drop n xs)) refl $
        use1 𝓛 (‵ (cells T (take n xs) b o) ⊛ ‵ (cells T (cut n xs) b place)) (cut_app 𝓛 T (take n xs) (cut n xs) b o) $ split ! $
        rewrite ! 1 (λ (k : ℕ). ‵ (cells T (cut n xs) b k)) (at_mul o T.size (length (take n xs)) ∙ ap (λ (k : ℕ). k * T.size + o) count) refl $ done !

    join_at : (n : ℕ) (xs ys : List T.rep) (o : ℕ) → length xs ≡ n → ent 𝓤 (sep 𝓤 (sem 𝓛 (cells T xs b o)) (sem 𝓛 (cells T ys b (n * T.size + o)))) (sem 𝓛 (cells T (xs ++ ys) b o))
    join_at n xs ys o many =
        qed 𝓛 (‵ (cells T xs b o) ∷ ‵ (cells T ys b (n * T.size + o)) ∷ []) ∵
        rewrite ! 1 (λ (k : ℕ). ‵ (cells T ys b k)) (sym (at_mul o T.size (length xs) ∙ ap (λ (k : ℕ). k * T.size + o) many)) refl $ by ! (join_app 𝓛 T xs ys b o)

    pub stretch_out : (xs : List T.rep) (from len o : ℕ) → from + len ≤ length xs
        → ent 𝓤 (sem 𝓛 (cells T xs b o)) (sep 𝓤 (sem 𝓛 (cells T (take len (cut from xs)) b (from * T.size + o))) (sem 𝓛 (around xs from len o)))
    stretch_out xs from len o within =
        let at = from * T.size + o in let rest = cut from xs in
        qed 𝓛 (‵ (cells T xs b o) ∷ []) ∵ use1 𝓛 (‵ (cells T (take from xs) b o) ⊛ ‵ (cells T rest b at)) (cut_at from xs o (omega arith)) $ split ! $ move ! (1 ∷ []) $
        use1 𝓛 (‵ (cells T (take len rest) b at) ⊛ ‵ (cells T (cut len rest) b (len * T.size + at))) (cut_at len rest at (omega (arith, length-drop from xs))) $ split ! $
        rewrite ! 1 (λ (l : List T.rep). ‵ (cells T l b (len * T.size + at))) (drop-drop len from xs) refl $ move ! (2 ∷ 1 ∷ []) $ fjoin ! $ move ! (1 ∷ 0 ∷ []) $ done !

    pub stretch_in : (xs : List T.rep) (from len o : ℕ) (new : List T.rep) → from ≤ length xs → length new ≡ len
        → ent 𝓤 (sep 𝓤 (sem 𝓛 (cells T new b (from * T.size + o))) (sem 𝓛 (around xs from len o))) (sem 𝓛 (cells T (take from xs ++ (new ++ cut (from + len) xs)) b o))
    stretch_in xs from len o new within long =
        let at = from * T.size + o in let behind = cut (from + len) xs in
        qed 𝓛 (‵ (cells T new b at) ∷ ‵ (around xs from len o) ∷ []) ∵ move ! (1 ∷ []) $ fsplit ! $ move ! (2 ∷ 1 ∷ []) $
        use2 𝓛 (‵ (cells T (new ++ behind) b at)) (join_at len new behind at long) $ move ! (1 ∷ 0 ∷ []) $
        by ! (join_at from (take from xs) (new ++ behind) o (omega (arith, length-take from xs)))
