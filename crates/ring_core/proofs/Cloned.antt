-- What stands while clones of a list's items are pushed.
use Rattle.ring_core.proofs.Words.{◌≡◌, ℕ, ◌+◌, ◌-◌, ◌<◌, ◌≤◌, All, List, [], ◌∷◌, ◌++◌, length, take, drop, Option, None, Some, IfSome, IsSome, OnOk, Result, Ok, Err, refl, append_assoc, set-append_seam, slice_set, get_or, ap, sym, ◌∙◌, arith, take_all, drop-drop, drop_min, length-drop, length-replicate, replicate, keep_last}
use Rattle.std.proofs.lemmas.Grind.{common_steps}
use Rattle.std.specs.Prelude.{IfOk}
use Rattle.std.proofs.lemmas.List.{drop_more, get_or-replicate, same_lists}
use Rattle.std.proofs.lemmas.List.Elements.{same_from_all_zip}
use Rattle.ring_core.specs.Extension.{ClonesOut, ExtendsByClones, IsOver}
use Rattle.ring_core.proofs.Items.{drop-append}

-- A limit leaves of a list and of the newest of others what it leaves of them all.
pub keep_last-newest : {A : Type 0} (limit : Option ℕ) (over : ℕ) (xs ys : List A) → IsOver limit ys over
    → keep_last limit (xs ++ drop over ys) ≡ keep_last limit (xs ++ ys)
keep_last-newest None over xs ys is = rw is refl
keep_last-newest (Some n) over xs ys within =
    let newest = drop over ys in
    let cut = length (xs ++ newest) - n in let all_cut = length (xs ++ ys) - n in
    grind (arith, common_steps, drop-append cut xs newest, drop-append all_cut xs ys, drop_min cut xs, drop_min all_cut xs, drop-drop (cut - length xs) over ys)

-- Nothing may always be passed over.
pub none_over : {A : Type 0} (limit : Option ℕ) (items : List A) → IsOver limit items 0
none_over limit items = grind arith

-- Clones that each equal their item, of all items that aren't passed over, are as good as the items.
pub equal_clones_pushed : {A E : Type 0} (IsClone : A → A → Type 0) (limit : Option ℕ) (items old new : List A) (r : Result (Unit {0}) E)
    → ExtendsByClones IsClone limit items old new r → ((x y : A) → IsClone x y → y ≡ x) → OnOk r (new ≡ keep_last limit (old ++ items))
equal_clones_pushed IsClone limit items old new (Err e) pushed same = tt
equal_clones_pushed IsClone limit items old new (Ok u) (over, ys, is_over, clones, kept, all) same =
    let others = drop over items in
    let long : length others ≤ length ys = omega (arith, length-drop over items) in
    let is : ys ≡ others = same_from_all_zip IsClone others ys (rw (take_all (length ys) others long) at clones) same in
    kept ∙ ap (λ l. keep_last limit (old ++ l)) is ∙ keep_last-newest limit over old items is_over

-- One more clone takes its place in an output.
pub clone_out : {A : Type 0} (old ys : List A) (i : ℕ) (y : A) → length ys ≡ i → i < length old
    → slice_set (ys ++ drop i old) i y ≡ (ys ++ y ∷ []) ++ drop (i + 1) old
clone_out old ys i y long within =
    rw (drop_more old i y within, ← long) (set-append_seam ys (get_or old (length ys) y) (drop (length ys + 1) old) y)
    ∙ sym (append_assoc ys (y ∷ []) (drop (i + 1) old))

-- Clones that each equal their item are as good as the items in an output.
pub equal_clones_out : {A E : Type 0} (IsClone : A → A → Type 0) (items old new : List A) (r : Result ℕ E)
    → ClonesOut IsClone items old new r → ((x y : A) → IsClone x y → y ≡ x) → IfOk r (λ n. new ≡ take n items ++ drop n old)
equal_clones_out IsClone items old new (Err e) out same = tt
equal_clones_out IsClone items old new (Ok n) (ys, clones, is, long) same =
    let all : ys ≡ take (length ys) items = same_from_all_zip IsClone (take (length ys) items) ys clones same in
    rw long (is ∙ ap (λ l. l ++ drop (length ys) old) all)

-- A limit leaves of the newest that fit what it leaves of all.
pub keep_last-fitting : {A : Type 0} (limit : Option ℕ) (capacity : ℕ) (xs ys newest : List A) → IsSome limit → IfSome limit (λ n. capacity ≡ n)
    → newest ≡ drop (length ys - capacity) ys → keep_last limit (xs ++ newest) ≡ keep_last limit (xs ++ ys)
keep_last-fitting limit capacity xs ys newest some is fits = rw fits (keep_last-newest limit (length ys - capacity) xs ys (grind arith))

-- Clones of one item that each equal it fill a ring with that item.
pub equal_clones_fill : {A E : Type 0} (IsClone : A → A → Type 0) (limit : Option ℕ) (x : A) (xs : List A) (r : Result (Unit {0}) E)
    → All (IsClone x) xs → OnOk r (IfSome limit (λ n. length xs ≡ n)) → ((x y : A) → IsClone x y → y ≡ x) → OnOk r (IfSome limit (λ n. xs ≡ replicate n x))
equal_clones_fill IsClone limit x xs (Err e) clones full same = tt
equal_clones_fill IsClone None x xs (Ok u) clones full same = tt
equal_clones_fill IsClone (Some n) x xs (Ok u) clones full same =
    same_lists xs (replicate n x) (grind (arith, full, length-replicate n x)) (λ k d h. same x _ (clones k d h) ∙ sym (get_or-replicate n k x d (omega (arith, full))))
