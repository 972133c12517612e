use Rattle.ring_core.proofs.Words.{[], ◌∷◌, ◌++◌, Ok, arith, length, length-append, sym, ◌≡◌}
use Rattle.std.proofs.lemmas.List.Elements.{AllZip-push}
use Rattle.ring_core.proofs.Cloned.{clone_out, equal_clones_out}
use Rattle.ring_core.proofs.Reading.{take_read}
use Rattle.ring_core.proofs.ring.RingBuffer.copy_to_slice.Goals as goal

-- One more clone is in its place.
pub loop-i-preserved : goal.loop-i-preserved
loop-i-preserved g c =
    let (ys, clones, long, is) = c.loop-i.invariant in
    let items = g.Self.RingBuffer.contents c.args.self.now in let i = c.loop-i.i in let y = c.in_ok-output.field-0 in
    let read = take_read items i _ c.unwrap.result (omega arith) c.get.ensures.value c.unwrap.ensures in (
      ys ++ y ∷ [],
      rw read (AllZip-push g.T.Clone.is_clone _ ys c.unwrap.result.now y clones c.in_ok-output.ensures.cases),
      omega (arith, long, length-append ys (y ∷ [])),
      rw is (clone_out c.args.output.now ys i y long (omega arith)),
    )

pub returns-clause-items_if_clones_equal : goal.returns-clause-items_if_clones_equal
returns-clause-items_if_clones_equal g c =
    let (ys, clones, long, is) = c.loop-i.invariant in
    let done : c.min-count.result ≡ length ys = omega (arith, long, c.loop-i-test.false, c.loop-i.auto.i-end) in
    equal_clones_out {E = Unit {0}} g.T.Clone.is_clone (g.Self.RingBuffer.contents c.args.self.now) c.args.output.now c.loop-i.output (Ok c.min-count.result)
    (ys, rw (sym long) at clones, rw (sym long) at is, done)
