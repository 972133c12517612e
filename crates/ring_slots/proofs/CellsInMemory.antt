-- The cells of an array lie where their struct does: they are taken out of memory as items side by side, all or a stretch of
-- them, and put back.
use Rattle.ring_slots.proofs.Words.{ap, ◌∙◌, ◌*◌, ◌++◌, ◌+◌, ◌≤◌, arith, length-take, length-drop, take, cut, take_front, by, rewritten, ◌≡◌, refl, sym, List, [], ◌∷◌, ℕ, length, Args, a_type, a_number, Ura, ty_array, full_share, SProp, ent, sep, guard, wand, all_e, apply∗, Fml, fsep, feq, Logic, sem, cells, ‵, raw, ◌⊛◌, ◌$◌, ◌∵◌, !, qed, move, split, check, fsplit, fjoin, feq_l, feq_i, use1, use2, rewrite, done, mem, part_at, param, number, layout, layouts, ArrayAt, Laws, param_laws, number_array_laws, RattleType, Struct, Array}
use denote.ArrayMemory.{Array-apart, Array-whole}
use denote.Index.{row, whole_in, whole_out}
use denote.Struct.CellSteps.{only_out, BackTo}
use denote.Struct.Declared.{shape}
use denote.Struct.Members.{Member}
use denote.Struct.Recorded.{Recorded-part}
use Rattle.ring_slots.proofs.Filled.{length-over}
use Rattle.ring_slots.proofs.Stretch.{around, stretch_out as taken_out, stretch_in as put_in}
use Rattle.ring_slots.specs.contracts.cells.Cells.{the_row, the_type}

module _ (X : RattleType) (n : ℕ) where
  -- the types of an element, of the length and of the struct, as the code of a function has them
  abbrev pub Element : RattleType
  Element = param 0 X

  abbrev pub Count : RattleType
  Count = param 1 (number n)

  abbrev pub Cells : RattleType
  Cells = the_row Element Count

  abbrev pub arguments : Args
  arguments = layouts (a_type ∷ a_number ∷ []) (X, (number n, tt))

  abbrev field : Member
  field = record { row = ArrayAt Element Count; ty = ty_array (layout X) n }

  abbrev Tuple : RattleType
  Tuple = Struct (shape (the_type Element Count))

  lies_as_tuple : (d : Cells.Denot) (b o : ℕ) → part_at Cells full_share d b o ≡ part_at Tuple full_share (d.xs, tt) b o
  lies_as_tuple d b o = let T = the_type Element Count in Recorded-part (Struct (shape T)) T.D T.to T.to_one full_share d b o

  module _ {M : Type 1} {𝓤 : Ura M} (𝓛 : Logic 𝓤) (b o : ℕ) where
    abbrev name : List ℕ
    name = (shape (the_type Element Count)).name

    abbrev To : List X.Denot → SProp 𝓤
    To xs = sem 𝓛 (part_at Tuple full_share (xs, tt) b o)

    -- the struct in memory without its array
    abbrev pub Shell : SProp 𝓤
    Shell = BackTo 𝓛 name [] [] field To b o

    pub array_out : Laws X → (d : Cells.Denot) → ent 𝓤 (sem 𝓛 ((mem Cells).own_at d b o)) (guard 𝓤 (length d.xs ≡ n) (sep 𝓤 (sem 𝓛 (cells (mem Element) d.xs b o)) Shell))
    array_out L d =
        let lawful = (number_array_laws Element (param_laws 0 X L) Count refl).lawful 𝓛 in
        qed 𝓛 (‵ (part_at Cells full_share d b o) ∷ []) ∵ rewrite ! 0 (λ (f : Fml). ‵ f) (lies_as_tuple d b o) refl $
        use1 𝓛 (‵ (part_at (Array Element n) full_share d.xs b o) ⊛ raw Shell) (only_out 𝓛 name [] [] field lawful b o d.xs) $ split ! $
        use1 𝓛 (‵ (fsep (feq ℕ (length d.xs) n) (row Element full_share d.xs b o))) (Array-apart 𝓛 Element full_share tt n d.xs b o) $
        fsplit ! $ feq_l ! (λ long. check ! long $
        use1 𝓛 (‵ (cells (mem Element) d.xs b o)) (whole_in 𝓛 Element d.xs b o) $ done !)

    array_in : (d : Cells.Denot) → length d.xs ≡ n → ent 𝓤 (sep 𝓤 (sem 𝓛 (cells (mem Element) d.xs b o)) Shell) (sem 𝓛 ((mem Cells).own_at d b o))
    array_in d long =
        let back : List X.Denot → SProp 𝓤 = λ xs. wand 𝓤 (sem 𝓛 (part_at (Array Element n) full_share xs b o)) (To xs) in
        qed 𝓛 (‵ (cells (mem Element) d.xs b o) ∷ raw Shell ∷ []) ∵
        use1 𝓛 (‵ (row Element full_share d.xs b o)) (whole_out 𝓛 Element d.xs b o) $ feq_i ! ℕ (length d.xs) n long $ fjoin ! $
        use1 𝓛 (‵ (part_at (Array Element n) full_share d.xs b o)) (Array-whole 𝓛 Element full_share n d.xs b o) $
        move ! (1 ∷ []) $ use1 𝓛 (raw (back d.xs)) (all_e 𝓤 back d.xs) $ move ! (1 ∷ 0 ∷ []) $
        use2 𝓛 (‵ (part_at Tuple full_share (d.xs, tt) b o)) (apply∗ 𝓤 (sem 𝓛 (part_at (Array Element n) full_share d.xs b o)) (To d.xs)) $
        rewrite ! 0 (λ (f : Fml). ‵ f) (sym (lies_as_tuple d b o)) refl $ done !

module _ (X : RattleType) (n : ℕ) {M : Type 1} {𝓤 : Ura M} (𝓛 : Logic 𝓤) (b o from len : ℕ) (d : (Cells X n).Denot) where
  abbrev R : RattleType
  R = Element X n

  -- the cells with these elements in the stretch
  abbrev pub with_cells : List X.Denot → (Cells X n).Denot
  with_cells ws = record { xs = rewritten d.xs from len ws }

  abbrev pub stretch : List X.Denot
  stretch = take len (cut from d.xs)

  -- the cells outside the stretch, and the struct without its array
  abbrev pub Rest : SProp 𝓤
  Rest = sep 𝓤 (sem 𝓛 (around (mem R) b d.xs from len o)) (Shell X n 𝓛 b o)

  pub stretch_out : from + len ≤ length d.xs
      → ent 𝓤 (sep 𝓤 (sem 𝓛 (cells (mem R) d.xs b o)) (Shell X n 𝓛 b o)) (sep 𝓤 (sem 𝓛 (cells (mem R) stretch b (from * (mem R).size + o))) Rest)
  stretch_out within =
      qed 𝓛 (‵ (cells (mem R) d.xs b o) ∷ raw (Shell X n 𝓛 b o) ∷ []) ∵
      use1 𝓛 (‵ (cells (mem R) stretch b (from * (mem R).size + o)) ⊛ ‵ (around (mem R) b d.xs from len o)) (taken_out (mem R) b 𝓛 d.xs from len o within) $ split ! $ done !

  pub stretch_in : length d.xs ≡ n → from + len ≤ n → (ws : List X.Denot) → length ws ≡ length stretch
      → ent 𝓤 (sep 𝓤 (sem 𝓛 (cells (mem R) ws b (from * (mem R).size + o))) Rest) (sem 𝓛 ((mem (Cells X n)).own_at (with_cells ws) b o))
  stretch_in long within ws same =
      let before = take from d.xs in let behind = cut (from + len) d.xs in
      let many : length ws ≡ len = omega (arith, length-take len (cut from d.xs), length-drop from d.xs) in
      let is : before ++ (ws ++ behind) ≡ (with_cells ws).xs = ap (λ (l : List X.Denot). before ++ (l ++ behind)) (sym (take_front ws (cut (length ws) stretch) len many)) in
      let whole : length (with_cells ws).xs ≡ n = ap length (sym is) ∙ length-over d.xs ws from len many (omega arith) ∙ long in
      qed 𝓛 (‵ (cells (mem R) ws b (from * (mem R).size + o)) ∷ ‵ (around (mem R) b d.xs from len o) ∷ raw (Shell X n 𝓛 b o) ∷ []) ∵
      use2 𝓛 (‵ (cells (mem R) (before ++ (ws ++ behind)) b o)) (put_in (mem R) b 𝓛 d.xs from len o ws (omega arith) many) $
      rewrite ! 0 (λ (l : List X.Denot). ‵ (cells (mem R) l b o)) is refl $ by ! (array_in X n 𝓛 b o (with_cells ws) whole)
