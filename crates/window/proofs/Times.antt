-- What a push leaves where items that are too old give way.
use Rattle.std.proofs.Common.{◌≡◌, ℕ, zero, suc, ◌+◌, ◌-◌, ◌<◌, ◌≤◌, true, false, List, [], ◌∷◌, ◌++◌, length, take, drop, slice_get, Option, None, Some, IfSome, refl, ap, arith, nat_lt, length-append, length-drop}
use Rattle.std.specs.List.{prefix_len}
use Rattle.ringbuffer.specs.Contents.{IsWithin, keep_last, overwritten}
use Rattle.ringbuffer.proofs.Limits.{keep_last_within}
use Rattle.window.specs.TimeLaws.{without_older-old, without_older-stays}
use Rattle.window.specs.Times.{without_older}
use Rattle.window.specs.declared.time_window.Stamped.{Stamped}

-- By induction on the items: one behind them that isn't too old stays.
without_older_push : {T : Type 0} (time : ℕ) (xs : List (Stamped T)) (x : Stamped T) → nat_lt x.stamp time ≡ false → without_older time (xs ++ x ∷ []) ≡ without_older time xs ++ x ∷ []
without_older_push time [] x stays = without_older-stays time x [] stays
without_older_push time (y ∷ ys) x stays =
    grind (arith, without_older_push time ys x stays, without_older-old time y ys, without_older-stays time y ys, without_older-old time y (ys ++ x ∷ []), without_older-stays time y (ys ++ x ∷ []))

-- A list keeps all before a pushed item where there is room for it.
without_older_room : {T : Type 0} (n time : ℕ) (xs : List (Stamped T)) (x : Stamped T) → length (without_older time xs) < n → keep_last (Some n) (without_older time xs ++ x ∷ []) ≡ without_older time xs ++ x ∷ []
without_older_room n time xs x room = keep_last_within (Some n) (without_older time xs ++ x ∷ []) (omega arith, omega (arith, length-append (without_older time xs) (x ∷ [])))

-- Once the item that gave way was too old, if there is one, what is too old leaves after the push as it would have before.
pub without_older_pushed : {T : Type 0} (limit : Option ℕ) (time : ℕ) (xs : List (Stamped T)) (x : Stamped T) → IsWithin xs limit → nat_lt x.stamp time ≡ false
    → IfSome (overwritten limit xs) (λ y. nat_lt y.stamp time ≡ true)
    → without_older time (keep_last limit (xs ++ x ∷ [])) ≡ keep_last limit (without_older time xs ++ x ∷ [])
without_older_pushed None time xs x within stays old = without_older_push time xs x stays
without_older_pushed {T} (Some n) time xs x within stays old = split (length xs + 1 - n) xs refl within old where
  short : (ys : List (Stamped T)) → length (without_older time ys) ≤ length ys
  short ys = omega (arith, length-drop (prefix_len (λ y. nat_lt y.stamp time) ys) ys)

  -- one item at most gives way
  split : (k : ℕ) (ys : List (Stamped T)) → length ys + 1 - n ≡ k → (0 < n) × (length ys ≤ n) → IfSome (slice_get (take k ys) 0) (λ y. nat_lt y.stamp time ≡ true)
      → without_older time (keep_last (Some n) (ys ++ x ∷ [])) ≡ keep_last (Some n) (without_older time ys ++ x ∷ [])
  split zero ys over (some, few) old =
      let all : keep_last (Some n) (ys ++ x ∷ []) ≡ ys ++ x ∷ [] = keep_last_within (Some n) (ys ++ x ∷ []) (some, omega (arith, length-append ys (x ∷ []))) in
      rw (all, without_older_room n time ys x (omega (arith, short ys))) (without_older_push time ys x stays)
  split (suc k) [] over (some, few) old = absurd (omega arith)
  split (suc k) (y ∷ ys) over (some, few) old =
      let one : length (y ∷ ys ++ x ∷ []) - n ≡ suc zero = omega (arith, length-append ys (x ∷ [])) in
      let rest : keep_last (Some n) (y ∷ ys ++ x ∷ []) ≡ ys ++ x ∷ [] = ap (λ m. drop m (y ∷ ys ++ x ∷ [])) one in
      rw (rest, without_older-old time y ys old, without_older_room n time ys x (omega (arith, short ys))) (without_older_push time ys x stays)
