use Rattle.std.proofs.lemmas.Nat.Gcd.{IsGcd-from_mod, IsGcd-from_zero, same_from_IsGcd}
use Rattle.std.proofs.Common.{refl}
use Rattle.window.specs.Gcd.{gcd}
use Rattle.window.specs.GcdLaws.{gcd-is}
use Rattle.window.proofs.gcd.GcdMonoid.combine.Goals as goal

pub loop-b-preserved : goal.loop-b-preserved
loop-b-preserved c = λ g is. c.loop-b.invariant g (IsGcd-from_mod c.loop-b.a c.loop-b.b g is)

pub returns-clause-value : goal.returns-clause-value
returns-clause-value c =
    let x = c.args.self.now.0 in
    let y = c.args.later.now.0 in
    let is = c.loop-b.invariant c.loop-b.a (IsGcd-from_zero c.loop-b.a c.loop-b.b c.loop-b-test.false) in
    rw (same_from_IsGcd x y c.loop-b.a (gcd x y) is (gcd-is x y)) refl
