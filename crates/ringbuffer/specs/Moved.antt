-- A call with a `&mut` to a ring, and one argument more.
use Rattle.std.specs.Prelude.{◌≡◌}
use Rattle.std.specs.Borrow.{MutBor}
use Rattle.std.specs.Fn.{Once}

module _ {F V X R : Type 0} (g : Once F (MutBor V × (X × Unit {0})) (R × (MutBor V × Unit {0}))) (f : F) (v : V) (x : X) where
  -- f may be called at a `&mut` to v and at x
  abbrev pub TakesWith : Type 0
  TakesWith = (p : MutBor V) → p.now ≡ v → g.pre f (p, (x, tt))

  -- it may give r there, and leave w
  pub record ReturnsWith (r : R) (w : V) : Type 0 where
    pub shown : MutBor V
    pub shows : shown.now ≡ v
    pub left : MutBor V
    pub met : g.post f (shown, (x, tt)) (r, (left, tt))
    pub leaves : left.now ≡ w
