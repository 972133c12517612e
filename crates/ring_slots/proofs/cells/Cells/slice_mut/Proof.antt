-- A stretch of the array is lent as a slice. The borrow checker doesn't follow a part of an array: the stretch is taken out
-- of the cells in memory, which close round any items that are written.
use Rattle.ring_slots.proofs.Words.{Goes-number, stay_number, ◌≡◌, refl, ap, List, [], ◌∷◌, ℕ, zero, ◌+◌, ◌*◌, ◌^◌, ◌<◌, ◌≤◌, mul-le-mul_right, arith, length, length-take, length-drop, cut, named, w64, inst_fn, vptr, vint, GName, ftrue, flft, size, align, up, ty_array, cells, ‵, raw, ◌⊛◌, some, given, later, ◌$◌, ◌∵◌, !, qed, move, keep, drop, split, split3, join, learn, fsplit3, use1, await, pick, suffices, frame, group, rewrite, done, ◌⊑◌, stop, fld, addr, agg, and_then, no_more, bin, size_word, returns, enter, alloc_all, pass_all, free_all, look_at, get, through, sets, is, RefMutOf, usize, no, follows, mem, number, layout, uint_vals, uint_Tells, RattleType, MutRef, MutSlice, slice_val, mut_vals, mut_Tells, plain, nothing, says, Stays, stay_dropped, Goes-spent_ref, ends_at, proved, Array, open_ref, lends_Elements, first_at, ◌-◌}
use Rattle.ring_slots.proofs.CellsInMemory.{Cells, Element, Rest, Shell, arguments, array_out, stretch, stretch_in, stretch_out, with_cells}
use Rattle.ring_slots.proofs.SlotsInMemory.{product_is}
use Rattle.ring_slots.specs.contracts.cells.Cells.slice_mut as contract
use Rattle.ring_slots.proofs.cells.Cells.slice_mut.Statement.{statement}
use Rattle.ring_slots.proofs.cells.Cells.slice_mut.Code as code

pub slice_mut_spec : {M : Type 1} → statement M
slice_mut_spec 𝓤 𝓛 𝓜 𝓡 wired X n L fits =
    let clauses = contract.clauses X (number n) 𝓛 𝓜.mem 𝓡.returns in
    let ended = contract.ended X (number n) in let stayed : Stays ended.signature.params ended.kept = (stay_dropped (RefMutOf (0 ∷ []) tt (plain (λ _. Cells X n)) (λ _. tt)) no, (stay_number, (stay_number, tt))) in
    let S : RattleType = Cells X n in let R : RattleType = Element X n in
    proved 𝓛 ended stayed clauses 𝓜 𝓡
    (Goes-spent_ref 𝓛 3 (0 ∷ []) tt (plain (λ _. S)), (Goes-number 𝓛 3, (Goes-number 𝓛 3, tt)))
    (contract.Key.name (arguments X n)) (inst_fn (arguments X n) code.function) (code.unfolded 𝓤 𝓛.H 𝓜 𝓡 wired (X, (number n, tt)))
    (λ κs. (mut_vals, (uint_vals w64, (uint_vals w64, tt)))) (λ κs. (mut_Tells (named 0) κs.0 S, (uint_Tells w64, (uint_Tells w64, tt)))) (λ κs qs bounds a _ are.
    let b = a.0.ref_ptr.0 in let o = a.0.ref_ptr.1 in let γ = a.0.ghost_name in let d = a.0.now in let from = a.1.0 in let len = a.1.1.0 in
    let bytes : ℕ = size (layout X) in
    let self = mut_vals a.0 in let first = vint w64 from ∷ [] in let count = vint w64 len ∷ [] in
    qed 𝓛 (((‵ (flft κs.0 qs.0) ⊛ ‵ (flft κs.1.0 qs.1.0) ⊛ ‵ (flft κs.1.1.0 qs.1.1.0) ⊛ ‵ ftrue) ⊛ ‵ ((MutRef (named 0) κs.0 S).own_val a.0 self) ⊛ ‵ (usize.own_val from first) ⊛ ‵ (usize.own_val len count) ⊛ ‵ ftrue)
    ∷ (given (κs.1.0 ⊑ X.lives) (‵ ftrue) ⊛ given (κs.1.1.0 ⊑ []) (‵ ftrue) ⊛ given (size (layout S) < 2 ^ 63) (‵ ftrue) ⊛ given (from + len ≤ n) (‵ ftrue)) ∷ []) ∵
    move ! (1 ∷ []) $ split3 ! $ drop ! $ drop ! $ split ! $ learn ! (λ small. drop ! $ learn ! (λ within. drop ! $
    let product : from * bytes < 2 ^ 64 = let before : from * bytes ≤ n * bytes = mul-le-mul_right bytes (omega arith) in omega arith in
    let sum : from + len < 2 ^ 64 = omega (arith, fits.fits) in
    let spot_is : from * bytes + (o + up (align (ty_array (layout X) n)) zero) ≡ from * bytes + o = ap (λ (k : ℕ). from * bytes + k) (first_at (align (ty_array (layout X) n)) o) in
    let rest_is : from + len - from ≡ len = omega arith in
    split ! $ split ! $ move ! (2 ∷ []) $ split ! $ keep ! (0 ∷ 2 ∷ 3 ∷ []) $
    enter ! _ _ _ _ _ $ alloc_all ! (λ l. pass_all ! refl ((tt, tt), ((tt, record { fits = are.1.0.1 }), ((tt, record { fits = are.1.1.0.1 }), tt))) $
    sets ! (bin ! (get ! refl) (get ! refl) (record { fits = sum })) refl (tt, record { fits = sum }) $
    sets ! (is ! (bin ! (get ! refl) (size_word !) (record { fits = rw (product_is from bytes product) product })) (ap (vint w64) (product_is from bytes product))) refl (tt, record { fits = product }) $
    sets ! (addr ! (through ! refl (fld ! refl (stop !)))) refl (tt, tt) $
    sets ! (is ! (bin ! (get ! refl) (get ! refl) tt) (ap (vptr b) spot_is)) refl (tt, tt) $
    sets ! (is ! (bin ! (get ! refl) (get ! refl) (omega arith)) (ap (vint w64) rest_is)) refl (tt, record { fits = are.1.1.0.1 }) $
    sets ! (addr ! (through ! refl (stop !))) refl (tt, tt) $
    sets ! (agg ! (and_then ! (get ! refl) (and_then ! (get ! refl) (no_more !)))) refl (tt, (tt, (record { fits = are.1.1.0.1 }, tt))) $
    fsplit3 ! $ drop ! $ open_ref ! tt (mem S) {b = b} {o = o} $
    use1 𝓛 (given (length d.xs ≡ n) (‵ (cells (mem R) d.xs b o) ⊛ raw (Shell X n 𝓛 b o))) (array_out X n 𝓛 b o L d) $
    learn ! (λ long.
    let lent : List X.Denot = stretch X n 𝓛 b o from len d in let spot = from * bytes + o in let rest = Rest X n 𝓛 b o from len d in let out = with_cells X n 𝓛 b o from len d in
    let many : length lent ≡ len = omega (arith, length-take len (cut from d.xs), length-drop from d.xs) in
    let most : length lent * bytes ≤ n * bytes = mul-le-mul_right bytes (omega arith) in
    let was = S.coded.code d in
    use1 𝓛 (‵ (cells (mem R) lent b spot) ⊛ raw rest) (stretch_out X n 𝓛 b o from len d (omega arith)) $ split ! $
    move ! (2 ∷ 3 ∷ 4 ∷ 0 ∷ 1 ∷ []) $ group ! 5 $
    use1 𝓛 (later (some (λ (δ : GName). ‵ ((MutSlice (named 0) κs.0 R).own_val (record { ref_ptr = (b, spot); ghost_name = δ; now = lent }) (slice_val (b, spot) (length lent) ∷ [])) ⊛ ‵ (flft κs.0 qs.0) ⊛ ‵ (follows S (Array R 0) γ δ out))))
    (lends_Elements 𝓛 S R out (named 0) κs.0 qs.0 b o b spot γ lent (omega arith, omega arith) rest (stretch_in X n 𝓛 b o from len d long within) was was) $
    await ! tt $ pick ! (λ δ. split3 ! $
    rewrite ! 0 (λ (k : ℕ). ‵ ((MutSlice (named 0) κs.0 R).own_val (record { ref_ptr = (b, spot); ghost_name = δ; now = lent }) (slice_val (b, spot) k ∷ []))) many refl $
    returns ! (look_at ! 0 refl) $ free_all ! refl $
    -- [the reference; the token of its lifetime; what the struct ends as; the other tokens]
    suffices ! _ (ends_at 𝓛 ended stayed clauses ((κs, qs, bounds, a, (self, (first, (count, tt)))), tt) (slice_val (b, spot) len)
    (record { ref_ptr = (b, spot); ghost_name = δ; now = lent }) (tt, (tt, (tt, tt))) (tt, (tt, (tt, tt)))) $
    move ! (1 ∷ 3 ∷ []) $ join ! $ nothing ! $ nothing ! $ join ! $ nothing ! $ join ! $ nothing ! $ join ! $ move ! (1 ∷ 0 ∷ []) $
    group ! 3 $ frame ! $ says ! refl $ done !))))))
