-- What is left of items with stamps once the old ones are dropped.
use Rattle.std.proofs.Common.{◌≡◌, ◌∙◌, ℕ, suc, ◌+◌, ◌<◌, ◌≤◌, Bool, true, false, List, [], ◌∷◌, ap, arith, cond, drop, length, nat_le, nat_lt, refl, slice_index_or, sym}
use Rattle.std.specs.List.{filter, prefix_len}
use Rattle.std.specs.List.Sorted.{IsNonDecreasingBy}
use Rattle.std.proofs.lemmas.Bool.Decides.{nat_tests}
use Rattle.std.proofs.lemmas.List.Sorted.{IsNonDecreasingBy-drop}
use Rattle.window.specs.Times.{without_older}
use Rattle.window.specs.declared.time_window.Stamped.{Stamped}

-- The first item leaves if it is too old,
pub without_older-old : {T : Type 0} (time : ℕ) (x : Stamped T) (xs : List (Stamped T)) → nat_lt x.stamp time ≡ true → without_older time (x ∷ xs) ≡ without_older time xs
without_older-old time x xs old =
    let one : 1 + prefix_len (λ y. nat_lt y.stamp time) xs ≡ suc (prefix_len (λ y. nat_lt y.stamp time) xs) = omega arith in
    ap (λ b. drop (cond b (1 + prefix_len (λ y. nat_lt y.stamp time) xs) 0) (x ∷ xs)) old ∙ ap (λ n. drop n (x ∷ xs)) one

-- and else none does.
pub without_older-stays : {T : Type 0} (time : ℕ) (x : Stamped T) (xs : List (Stamped T)) → nat_lt x.stamp time ≡ false → without_older time (x ∷ xs) ≡ x ∷ xs
without_older-stays time x xs stays = ap (λ b. drop (cond b (1 + prefix_len (λ y. nat_lt y.stamp time) xs) 0) (x ∷ xs)) stays

module _ {T : Type 0} (time : ℕ) where
  abbrev is_recent : Stamped T → Bool
  is_recent x = nat_le time x.stamp

  -- By induction: where all are recent, all are kept.
  all_kept : (xs : List (Stamped T)) → ((i : ℕ) (d : Stamped T) → i < length xs → time ≤ (slice_index_or xs i d).stamp) → filter is_recent xs ≡ xs
  all_kept [] recent = refl
  all_kept (x ∷ xs) recent =
      let first = recent 0 x (omega arith) in let is : is_recent x ≡ true = grind (arith, nat_tests) in
      rw is (ap (λ l. x ∷ l) (all_kept xs (λ i d low. recent (suc i) d (omega arith))))

  -- Where stamps never fall, the items that are left are all those of the time or later.
  pub without_older_is_filter : (xs : List (Stamped T)) → IsNonDecreasingBy (λ x. x.stamp) xs → without_older time xs ≡ filter is_recent xs
  without_older_is_filter [] rises = refl
  without_older_is_filter (x ∷ xs) rises = by (nat_lt x.stamp time) refl (without_older_is_filter xs (IsNonDecreasingBy-drop (λ y. y.stamp) 1 (x ∷ xs) rises)) where
    by : (b : Bool) → nat_lt x.stamp time ≡ b → without_older time xs ≡ filter is_recent xs → without_older time (x ∷ xs) ≡ filter is_recent (x ∷ xs)
    by true old others =
        let leaves : is_recent x ≡ false = grind (arith, nat_tests) in
        without_older-old time x xs old ∙ others ∙ rw leaves refl
    by false stays others =
        without_older-stays time x xs stays ∙ sym (all_kept (x ∷ xs) (λ i d low. let later = rises 0 i d (omega arith) low in grind (arith, nat_tests, later)))
