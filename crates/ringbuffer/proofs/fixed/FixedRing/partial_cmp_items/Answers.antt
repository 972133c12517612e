use Rattle.ringbuffer.proofs.Words.{◌≡◌, ◌∙◌, View, ap, arith, length, refl, sym, ℕ, ◌+◌, ◌≤◌, inl, inr, Bool, List, [], ◌∷◌, Option, None, Some, min, slice_get, suc, cases_Bool, common_prefix_len, Ordering, Less, Equal, Greater, slice_partial_cmp, nat_cmp, partial_ordering_then}
use Rattle.std.specs.Cmp.{IsPartialOrder, nat_cmp_is}
use Rattle.ringbuffer.proofs.fixed.FixedRing.partial_cmp_items.Goals as goal

-- what isn't a tie decides
decided : (o rest : Option Ordering) → ¬ (o ≡ Some Equal) → partial_ordering_then o rest ≡ o
decided None rest apart = refl
decided (Some Less) rest apart = refl
decided (Some Equal) rest apart = absurd (apart refl)
decided (Some Greater) rest apart = refl

module _ {X : Type 0} {eq : X → X → Bool} {cmp : X → X → Option Ordering} (order : IsPartialOrder eq cmp) where
  -- the first pair that differs decides, and where none does, the lengths do, also with as many items before
  ordered : (xs ys : List X) (m n k : ℕ) → m ≡ k + length xs → n ≡ k + length ys → let first = common_prefix_len eq xs ys in
      ((x y : X) → slice_get xs first ≡ Some x → slice_get ys first ≡ Some y → slice_partial_cmp cmp xs ys ≡ cmp x y)
      × (min (length xs) (length ys) ≤ first → slice_partial_cmp cmp xs ys ≡ Some (nat_cmp m n))
  ordered [] [] m n k long other_long = (λ x y at other_at. cc, λ all. ap Some (nat_cmp_is m n Equal (omega arith)))
  ordered [] (y ∷ ys) m n k long other_long = (λ x y at other_at. cc, λ all. ap Some (nat_cmp_is m n Less (omega arith)))
  ordered (x ∷ xs) [] m n k long other_long = (λ x y at other_at. cc, λ all. ap Some (nat_cmp_is m n Greater (omega arith)))
  ordered (x ∷ xs) (y ∷ ys) m n k long other_long = elim (cases_Bool (eq x y)) [
    | inl same ↦ let (pair, lengths) = ordered xs ys m n (k + 1) (omega arith) (omega arith) in
        let next : 1 + common_prefix_len eq xs ys ≡ suc (common_prefix_len eq xs ys) = omega arith in
        rw (same, next, (order.matches_eq x y).0 same) (pair, λ all. lengths (omega (arith, all)))
    | inr apart ↦ let differs = λ (tie : cmp x y ≡ Some Equal). absurd (cc ((order.matches_eq x y).1 tie, apart)) in
        rw apart (λ v w at other_at. rw (decided (cmp x y) (slice_partial_cmp cmp xs ys) differs) cc, λ all. absurd (omega (arith, all)))
  ]

-- The first pair that differs decides.
pub returns-then-k-min : goal.returns-then-k-min
returns-then-k-min g c =
    let k = c.common_prefix_len-k.ensures in
    c.partial_cmp.ensures ∙ sym ((ordered g.met.T.PartialOrd.laws _ _ _ _ 0 refl refl).0 _ _ (rw k at c.at.ensures) (rw k at c.at-then-k-min.ensures))

-- None does, and the lengths decide.
pub returns : goal.returns
returns g c =
    let long = c.self.invariant.counted ∙ ap (λ (v : View _). length v.items) c.self.view_is in
    let other_long = c.other.invariant.counted ∙ ap (λ (v : View _). length v.items) c.other.view_is in
    let all = (ordered g.met.T.PartialOrd.laws c.args.self.now.items c.args.other.now.items c.self.inside.span.len c.other.inside.span.len 0 (omega (arith, long)) (omega (arith, other_long))).1
    (omega (arith, c.common_prefix_len-k.ensures, c.if-k-min.false, c.min.ensures)) in
    rw (all, c.cmp.ensures) refl
