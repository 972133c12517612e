-- The size is a word of its own here. It is capped at what a word holds.
use Rattle.ring_slots.proofs.Words.{◌≡◌, refl, List, [], ◌∷◌, ℕ, ◌^◌, arith, a_type, w64, inst_fn, Val, vint, ftrue, size, capped, capped_fits, ‵, raw, ◌⊛◌, ◌$◌, ◌∵◌, !, qed, move, keep, join, fjoin, feq_i, flt_i, split, suffices, done, size_word, of_opd, returns, enter, alloc_all, pass_all, free_all, look_at, sets, ◌⊑◌, fact, layout, layouts, nothing, alive, says, ends_at, proved, ◌-◌, min}
use Rattle.std.specs.Prelude.{cond, ltb}
use Rattle.std.proofs.lemmas.Bool.Decides.{nat_tests}
use Rattle.ring_slots.specs.contracts.bytes.item_size as contract
use Rattle.ring_slots.proofs.bytes.item_size.Statement.{statement}
use Rattle.ring_slots.proofs.bytes.item_size.Code as code

-- the cap is the lesser of the size and the greatest word
least : (bytes : ℕ) → cond (ltb bytes (2 ^ 64)) bytes (2 ^ 64 - 1) ≡ min bytes (2 ^ 64 - 1)
least bytes = grind (arith, nat_tests)

pub item_size_spec : {M : Type 1} → statement M
item_size_spec 𝓤 𝓛 𝓜 𝓡 wired X L =
    let clauses = contract.clauses X 𝓛 𝓜.mem 𝓡.returns in
    proved 𝓛 (contract.ended X) tt clauses 𝓜 𝓡 tt
    (contract.Key.name (layouts (a_type ∷ []) (X, tt))) (inst_fn (layouts (a_type ∷ []) (X, tt)) code.function) (code.unfolded 𝓤 𝓛.H 𝓜 𝓡 wired (X, tt))
    (λ κs. tt) (λ κs. tt) (λ κs qs bounds a _ are.
    let bytes : ℕ = size (layout X) in let fits = capped_fits bytes in
    qed 𝓛 ((raw (alive 𝓛 (contract.signature X) κs qs) ⊛ ‵ ftrue) ∷ (raw (fact 𝓤 (κs.0 ⊑ X.lives)) ⊛ ‵ ftrue) ∷ []) ∵ split ! $ keep ! (0 ∷ []) $
    enter ! _ _ _ _ _ $ alloc_all ! (λ l. pass_all ! refl tt $
    sets ! (of_opd ! (size_word !)) refl (tt, record { fits = fits }) $
    returns ! (look_at ! 0 refl) $ free_all ! refl $
    suffices ! _ (ends_at 𝓛 (contract.ended X) tt clauses ((κs, qs, bounds, a, tt), tt) (vint w64 (capped bytes)) (capped bytes) tt tt) $
    says ! (least bytes) $
    flt_i ! (capped bytes) (2 ^ 64) fits $ feq_i ! (List Val) (vint w64 (capped bytes) ∷ []) (vint w64 (capped bytes) ∷ []) refl $ fjoin ! $
    nothing ! $ join ! $ move ! (1 ∷ 0 ∷ []) $ join ! $ done !))
