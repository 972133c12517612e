-- What a total order's laws say of items that are not above others, and of items below others.
use Rattle.std.proofs.Common.{ap, arith}
use Rattle.std.proofs.lemmas.Cmp.{tied_itself, upto}
use Rattle.std.specs.Cmp.{IsTotalOrder}
use Rattle.std.specs.Ordering.{is_gt}
use Rattle.std.specs.declared.cmp.Ordering.{Ordering}
use Rattle.window.specs.Least.{AtMost, IsBelow}

module _ {T : Type 0} {cmp : T → T → Ordering} (o : IsTotalOrder cmp) where
  pub AtMost-same : (x : T) → AtMost cmp x x
  AtMost-same x = ap is_gt (tied_itself o x)

  -- What is below another is not above it.
  pub AtMost-below : (x y : T) → IsBelow cmp x y → AtMost cmp x y
  AtMost-below x y below = let swapped = o.antisymm y x in grind arith

  -- What is below another is below all that the other is not above.
  pub IsBelow-trans : (x y z : T) → IsBelow cmp x y → AtMost cmp y z → IsBelow cmp x z
  IsBelow-trans x y z below at_most = grind (arith, upto o y z x at_most)
