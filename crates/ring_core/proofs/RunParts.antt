-- Runs of commands in parts, and the places of their replies.
use Rattle.ring_core.proofs.Words.{◌≡◌, ℕ, ◌-◌, ◌<◌, ◌≤◌, List, [], ◌∷◌, ◌++◌, length, map, set, replicate, Option, Some, None, refl, ap, arith, append-nil, append_assoc, suc, length-map, length_push, map-append, set_at, Command, Reply, Refused, after_one, after_all, reply_to, replies_to, places, IsRefused, LeavesPart}
use Rattle.std.proofs.lemmas.Grind.{common_steps}
use Rattle.ring_core.specs.declared.command.Refused.TheVariants as refused

module _ {T : Type 0} (limit : Option ℕ) where
  -- By induction on the first list.
  pub after_all-append : (l : List T) (xs ys : List (Command T)) → after_all limit l (xs ++ ys) ≡ after_all limit (after_all limit l xs) ys
  after_all-append l [] ys = refl
  after_all-append l (c ∷ xs) ys = after_all-append (after_one limit l c) xs ys

  -- By induction on the first list.
  pub replies_to-append : (l : List T) (xs ys : List (Command T)) → replies_to limit l (xs ++ ys) ≡ replies_to limit l xs ++ replies_to limit (after_all limit l xs) ys
  replies_to-append l [] ys = refl
  replies_to-append l (c ∷ xs) ys = ap (λ rs. reply_to limit l c ∷ rs) (replies_to-append (after_one limit l c) xs ys)

  -- There is one reply a command.
  pub length-replies_to : (l : List T) (cs : List (Command T)) → length (replies_to limit l cs) ≡ length cs
  length-replies_to l [] = refl
  length-replies_to l (c ∷ cs) = ap (λ n. suc n) (length-replies_to (after_one limit l c) cs)

-- There are as many places as there should be, where the replies don't need more.
pub length-places : {T : Type 0} (n : ℕ) (replies : List (Reply T)) → length replies ≤ n → length (places n replies) ≡ n
length-places n replies fit = grind (arith, common_steps)

-- The reply that follows goes into the next place.
pub places-more : {T : Type 0} (n : ℕ) (replies : List (Reply T)) (r : Reply T) → length replies < n → set (places n replies) (length replies) (Some r) ≡ places n (replies ++ r ∷ [])
places-more n replies r room =
    let next : n - length replies ≡ suc (n - length (replies ++ r ∷ [])) = omega (arith, length_push replies r) in
    rw (next, map-append, append_assoc) (set_at (map Some replies) None (replicate (n - length (replies ++ r ∷ [])) None) (Some r) (length replies) (length-map replies Some))

-- A push that was refused took none of its one item.
pub LeavesPart-refused : {T : Type 0} (c : Command T) (old new : List T) (r : Refused T) → IsRefused c old new r → LeavesPart old c new
LeavesPart-refused c old new (refused.Push x) (is, same) = rw is ([], (omega arith, refl), rw append-nil same)
LeavesPart-refused c old new refused.Extend (items, is, part) = part
