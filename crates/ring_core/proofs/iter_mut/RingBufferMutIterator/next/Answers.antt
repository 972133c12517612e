use Rattle.ring_core.proofs.Words.{◌+◌, ◌<◌, IsNone, length, ap, arith, option_copied_mut, mod-eq_of_lt, index_at, stepped}
use Rattle.ring_core.proofs.Lending.{lent_as}
use Rattle.ring_core.proofs.Walks.{slice_get-to_come, none-to_come}
use Rattle.ring_core.proofs.iter_mut.RingBufferMutIterator.next.Goals as goal

pub returns : goal.returns
returns g c =
    let s = c.args.self.now in
    let R = g.RB.RingBuffer in
    let n = length (R.contents s.ring.now) in
    let within : s.front < n = omega arith in
    let lent : IsNone c.get_mut.result → ⊥ = λ none. absurd (omega (arith, ap length (c.get_mut.ensures.none.0 none))) in (
      lent_as c.get_mut.result (stepped R.with_item s (s.front + 1) s.back (index_at n s.front)) (stepped R.with_item s (s.front + 1) s.back s.front) (record s { front = s.front + 1 }) s
          lent (λ w. ap (λ i. stepped R.with_item s (s.front + 1) s.back i w) (mod-eq_of_lt within)),
      record {
        writes_back = tt;
        value = slice_get-to_come (R.contents s.ring.now) s.front s.back 0 s.front (option_copied_mut c.get_mut.result) (omega arith) (omega arith) c.get_mut.ensures.value;
        none = none-to_come (R.contents s.ring.now) s.front s.back lent (omega arith);
      },
    )
