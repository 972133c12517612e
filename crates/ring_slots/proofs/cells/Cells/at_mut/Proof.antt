-- An element of the array is lent to the caller, which the borrow checker does not follow through an array. The element is
-- taken out of the cells in memory as a stretch of one, which goes back at any value, and then lent.
use Rattle.ring_slots.proofs.Words.{List, fsplit, fjoin, rewrite, take, cut, drop-cons, set_split, length-take, length-drop, Goes-number, stay_number, ◌≡◌, refl, sym, ap, [], ◌∷◌, ℕ, zero, ◌+◌, ◌*◌, ◌^◌, ◌<◌, ◌≤◌, mul-le-mul_right, arith, length, get_or, set, Ura, ty_array, named, w64, inst_fn, vptr, vint, ent, sep, GName, ftrue, flft, size, align, up, Logic, sem, cells, ‵, raw, ◌⊛◌, some, given, later, ◌$◌, ◌∵◌, !, qed, move, keep, drop, split, split3, join, learn, fsplit3, use1, use2, await, pick, suffices, frame, group, done, ◌⊑◌, stop, fld, addr, bin, size_word, returns, enter, alloc_all, pass_all, free_all, look_at, get, through, sets, is, RefMutOf, usize, no, follows, lends_Part, mem, number, layout, uint_vals, uint_Tells, RattleType, MutRef, mut_vals, mut_Tells, plain, nothing, says, Stays, stay_dropped, Goes-spent_ref, ends_at, proved, get_or_default, open_ref, first_at}
use Rattle.std.proofs.Common.{add-one}
use Rattle.ring_slots.proofs.CellsInMemory.{Cells, Element, Rest, Shell, arguments, array_out, stretch_in, stretch_out, with_cells}
use Rattle.ring_slots.proofs.Filled.{first_item}
use Rattle.ring_slots.proofs.SlotsInMemory.{product_is}
use Rattle.ring_slots.specs.contracts.cells.Cells.at_mut as contract
use Rattle.ring_slots.proofs.cells.Cells.at_mut.Statement.{statement}
use Rattle.ring_slots.proofs.cells.Cells.at_mut.Code as code

module _ (X : RattleType) (n : ℕ) {M : Type 1} {𝓤 : Ura M} (𝓛 : Logic 𝓤) (b o m : ℕ) (d : (Cells X n).Denot) where
  abbrev with : X.Denot → (Cells X n).Denot
  with x = record { xs = set d.xs m x }

  -- one element is a stretch of one
  back : length d.xs ≡ n → m < n → (x : X.Denot)
      → ent 𝓤 (sep 𝓤 (sem 𝓛 ((mem (Element X n)).own_at x b (m * (mem (Element X n)).size + o))) (Rest X n 𝓛 b o m 1 d)) (sem 𝓛 ((mem (Cells X n)).own_at (with x) b o))
  back long within x =
      let is : (with_cells X n 𝓛 b o m 1 d (x ∷ [])).xs ≡ set d.xs m x = rw add-one (sym (set_split d.xs m x (omega arith))) in
      qed 𝓛 (‵ ((mem (Element X n)).own_at x b (m * (mem (Element X n)).size + o)) ∷ raw (Rest X n 𝓛 b o m 1 d) ∷ []) ∵ nothing ! $ move ! (1 ∷ 0 ∷ []) $ fjoin ! $
      use2 𝓛 (‵ ((mem (Cells X n)).own_at (with_cells X n 𝓛 b o m 1 d (x ∷ [])) b o)) (stretch_in X n 𝓛 b o m 1 d long (omega arith) (x ∷ []) (omega (arith, length-take 1 (cut m d.xs), length-drop m d.xs))) $
      rewrite ! 0 (λ (l : List X.Denot). ‵ ((mem (Cells X n)).own_at (record { xs = l }) b o)) is refl $ done !

pub at_mut_spec : {M : Type 1} → statement M
at_mut_spec 𝓤 𝓛 𝓜 𝓡 wired X n L fits =
    let clauses = contract.clauses X (number n) 𝓛 𝓜.mem 𝓡.returns in
    let ended = contract.ended X (number n) in let stayed : Stays ended.signature.params ended.kept = (stay_dropped (RefMutOf (0 ∷ []) tt (plain (λ _. Cells X n)) (λ _. tt)) no, (stay_number, tt)) in
    let S : RattleType = Cells X n in
    proved 𝓛 ended stayed clauses 𝓜 𝓡
    (Goes-spent_ref 𝓛 3 (0 ∷ []) tt (plain (λ _. S)), (Goes-number 𝓛 3, tt))
    (contract.Key.name (arguments X n)) (inst_fn (arguments X n) code.function) (code.unfolded 𝓤 𝓛.H 𝓜 𝓡 wired (X, (number n, tt)))
    (λ κs. (mut_vals, (uint_vals w64, tt))) (λ κs. (mut_Tells (named 0) κs.0 S, (uint_Tells w64, tt))) (λ κs qs bounds a _ are.
    let b = a.0.ref_ptr.0 in let o = a.0.ref_ptr.1 in let γ = a.0.ghost_name in let d = a.0.now in let m = a.1.0 in
    let bytes : ℕ = size (layout X) in
    let self = mut_vals a.0 in let place = vint w64 m ∷ [] in
    qed 𝓛 (((‵ (flft κs.0 qs.0) ⊛ ‵ (flft κs.1.0 qs.1.0) ⊛ ‵ (flft κs.1.1.0 qs.1.1.0) ⊛ ‵ ftrue) ⊛ ‵ ((MutRef (named 0) κs.0 S).own_val a.0 self) ⊛ ‵ (usize.own_val m place) ⊛ ‵ ftrue)
    ∷ (given (κs.1.0 ⊑ X.lives) (‵ ftrue) ⊛ given (κs.1.1.0 ⊑ []) (‵ ftrue) ⊛ given (size (layout S) < 2 ^ 63) (‵ ftrue) ⊛ given (m < n) (‵ ftrue)) ∷ []) ∵
    move ! (1 ∷ []) $ split3 ! $ drop ! $ drop ! $ split ! $ learn ! (λ small. drop ! $ learn ! (λ within. drop ! $
    let product : m * bytes < 2 ^ 64 = let most : m * bytes ≤ n * bytes = mul-le-mul_right bytes (omega arith) in omega arith in
    let spot_is : m * bytes + (o + up (align (ty_array (layout X) n)) zero) ≡ m * bytes + o = ap (λ (k : ℕ). m * bytes + k) (first_at (align (ty_array (layout X) n)) o) in
    split ! $ split ! $ move ! (2 ∷ []) $ split ! $ keep ! (0 ∷ 2 ∷ 3 ∷ []) $
    enter ! _ _ _ _ _ $ alloc_all ! (λ l. pass_all ! refl ((tt, tt), ((tt, record { fits = are.1.0.1 }), tt)) $
    sets ! (is ! (bin ! (get ! refl) (size_word !) (record { fits = rw (product_is m bytes product) product })) (ap (vint w64) (product_is m bytes product))) refl (tt, record { fits = product }) $
    sets ! (addr ! (through ! refl (fld ! refl (stop !)))) refl (tt, tt) $
    sets ! (is ! (bin ! (get ! refl) (get ! refl) tt) (ap (vptr b) spot_is)) refl (tt, tt) $
    sets ! (addr ! (through ! refl (stop !))) refl (tt, tt) $
    let R : RattleType = Element X n in let with_element = with X n 𝓛 b o m d in let spot = m * bytes + o in let rest = Rest X n 𝓛 b o m 1 d in let was = S.coded.code d in
    fsplit3 ! $ drop ! $ open_ref ! tt (mem S) {b = b} {o = o} $
    use1 𝓛 (given (length d.xs ≡ n) (‵ (cells (mem R) d.xs b o) ⊛ raw (Shell X n 𝓛 b o))) (array_out X n 𝓛 b o L d) $ learn ! (λ long.
    let there : m < length d.xs = omega arith in let any : X.Denot = first_item d.xs (omega arith) in let x : X.Denot = get_or d.xs m any in
    use1 𝓛 (‵ (cells (mem R) (take 1 (cut m d.xs)) b spot) ⊛ raw rest) (stretch_out X n 𝓛 b o m 1 d (omega arith)) $ split ! $
    rewrite ! 0 (λ (l : List X.Denot). ‵ (cells (mem R) (take 1 l) b spot)) (drop-cons d.xs m any there) refl $ fsplit ! $
    move ! (1 ∷ []) $ drop ! $ move ! (2 ∷ 3 ∷ 4 ∷ 0 ∷ 1 ∷ []) $ group ! 5 $
    use1 𝓛 (later (some (λ (δ : GName). ‵ ((MutRef (named 0) κs.0 R).own_val (record { ref_ptr = (b, spot); ghost_name = δ; now = x }) (vptr b spot ∷ [])) ⊛ ‵ (flft κs.0 qs.0) ⊛ ‵ (follows S R γ δ with_element))))
    (lends_Part 𝓛 S R with_element (named 0) κs.0 qs.0 b o b spot γ rest (back X n 𝓛 b o m d long within) was was x) $
    await ! tt $ pick ! (λ δ. split3 ! $ returns ! (look_at ! 0 refl) $ free_all ! refl $
    -- [the reference; the token of its lifetime; what the struct ends as; the other tokens]
    suffices ! _ (ends_at 𝓛 ended stayed clauses ((κs, qs, bounds, a, (self, (place, tt))), tt) (vptr b (m * bytes + o))
    (record { ref_ptr = (b, m * bytes + o); ghost_name = δ; now = x }) (tt, (tt, tt)) (tt, (tt, tt))) $
    move ! (1 ∷ 3 ∷ []) $ join ! $ nothing ! $ nothing ! $ join ! $ nothing ! $ join ! $ move ! (1 ∷ 0 ∷ []) $
    group ! 3 $ frame ! $ says ! (get_or_default d.xs m any x there) $ done !))))))
