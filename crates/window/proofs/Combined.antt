-- What the laws give of `combined`.
use Rattle.std.proofs.Common.{◌≡◌, List, [], ◌∷◌, ◌++◌, All, ap, sym, ◌∙◌}
use Rattle.std.proofs.lemmas.List.Elements.{All-append, All-head, All-tail}
use Rattle.window.specs.Laws.{MonoidLaws, combined}
use Rattle.window.specs.Folds.{CombineTo}

module _ {M : Type 0} {valid : M → Type 0} {neutral : M} {op : M → M → M} (laws : MonoidLaws valid neutral op) where
  -- By induction: valid values combine to a valid one.
  combined_valid : (xs : List M) → All valid xs → valid (combined neutral op xs)
  combined_valid [] all = laws.valid_neutral
  combined_valid (x ∷ xs) all = laws.valid_op x (combined neutral op xs) (All-head valid x xs all) (combined_valid xs (All-tail valid x xs all))

  -- By induction on the first list.
  combined-append : (xs ys : List M) → All valid xs → All valid ys → combined neutral op (xs ++ ys) ≡ op (combined neutral op xs) (combined neutral op ys)
  combined-append [] ys all all' = sym (laws.left_identity (combined neutral op ys) (combined_valid ys all'))
  combined-append (x ∷ xs) ys all all' =
      let rest = All-tail valid x xs all in
      ap (op x) (combined-append xs ys rest all')
      ∙ sym (laws.assoc x (combined neutral op xs) (combined neutral op ys) (All-head valid x xs all) (combined_valid xs rest) (combined_valid ys all'))

  -- What two lists combine to makes what both do.
  pub both_combine : (xs ys : List M) {x y : M} → CombineTo valid neutral op xs x → CombineTo valid neutral op ys y → CombineTo valid neutral op (xs ++ ys) (op x y)
  both_combine xs ys (all, is) (all', is') = (All-append valid xs ys all all', rw (is, is') (sym (combined-append xs ys all all')))
