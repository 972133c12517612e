-- How a window's folds change.
use Rattle.std.proofs.Common.{◌≡◌, ℕ, suc, ◌+◌, List, [], ◌∷◌, ◌++◌, map, take, drop, Option, option_to_list, ap, sym, ◌∙◌, arith, length-append}
use Rattle.std.proofs.lemmas.List.{map-append, take-append-drop, take-append-le, drop-append-le}
use Rattle.ringbuffer.specs.Contents.{IsWithin, keep_last, overwritten}
use Rattle.ringbuffer.proofs.Limits.{overwritten-keep_last}
use Rattle.window.specs.TwoStacks.{HoldsFolds}

module _ {K M : Type 0} {item_of after_of : K → M} {folds_to : List M → M → Type 0} where
  -- The folds of the older items and of the newer ones make one of all.
  pub both : {ks : List K} {n : ℕ} {older newer all : M} → HoldsFolds item_of after_of folds_to ks n older newer
      → ((xs ys : List M) → folds_to xs older → folds_to ys newer → folds_to (xs ++ ys) all) → folds_to (map item_of ks) all
  both {ks} {n} is join =
      let parts : map item_of (take n ks) ++ map item_of (drop n ks) ≡ map item_of ks = sym (map-append item_of (take n ks) (drop n ks)) ∙ ap (map item_of) (take-append-drop n ks) in
      rw (← parts) (join (map item_of (take n ks)) (map item_of (drop n ks)) is.older_is is.newer_is)

  -- A push puts an item onto the newer ones, and the one that leaves, if one does, was the first.
  pub pushed : (limit : Option ℕ) (old : Option K) (ks : List K) (k : K) {n : ℕ} {older newer more : M} → IsWithin ks limit → old ≡ overwritten limit ks
      → HoldsFolds item_of after_of folds_to ks n older newer → ((xs : List M) → folds_to xs newer → folds_to (xs ++ item_of k ∷ []) more)
      → HoldsFolds item_of after_of folds_to (option_to_list old ++ keep_last limit (ks ++ k ∷ [])) n older more
  pushed limit old ks k {n} within leaves is join =
      let front : take n (ks ++ k ∷ []) ≡ take n ks = take-append-le n ks (k ∷ []) is.within in
      let rest : drop n (ks ++ k ∷ []) ≡ drop n ks ++ k ∷ [] = drop-append-le n ks (k ∷ []) is.within in
      rw (leaves, overwritten-keep_last limit ks k within) (record {
        within = omega (arith, is.within, length-append ks (k ∷ []));
        are_folded = rw front is.are_folded;
        older_is = rw front is.older_is;
        newer_is = rw (rest, map-append item_of (drop n ks) (k ∷ [])) (join (map item_of (drop n ks)) is.newer_is);
      })

  -- The oldest of the older items goes.
  pub one_fewer : {k : K} {ks : List K} {n m : ℕ} {older newer : M} → HoldsFolds item_of after_of folds_to (k ∷ ks) n older newer → m + 1 ≡ n
      → HoldsFolds item_of after_of folds_to ks m (after_of k) newer
  one_fewer {k} {ks} {n} {m} is one =
      let e : n ≡ suc m = omega arith in
      let was = rw e at is in
      record {
        within = omega (arith, was.within);
        are_folded = was.are_folded.1;
        older_is = was.are_folded.0;
        newer_is = was.newer_is;
      }
