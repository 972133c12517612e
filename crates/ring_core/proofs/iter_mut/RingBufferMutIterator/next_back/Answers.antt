use Rattle.ring_core.proofs.Words.{◌≡◌, ◌-◌, ◌<◌, IsNone, length, min, ap, arith, option_copied_mut, mod-eq_of_lt, index_at, stepped}
use Rattle.ring_core.proofs.Lending.{lent_as}
use Rattle.ring_core.proofs.Walks.{length-to_come, none-to_come, slice_get-to_come}
use Rattle.ring_core.proofs.iter_mut.RingBufferMutIterator.next_back.Goals as goal

pub returns : goal.returns
returns g c =
    let s = c.args.self.now in
    let R = g.RB.RingBuffer in
    let n = length (R.contents s.ring.now) in
    let last = min s.back n - 1 in
    let end_is : c.min-end.result ≡ min s.back n = omega arith in
    let within : last < n = omega arith in
    let lent : IsNone c.get_mut.result → ⊥ = λ none. absurd (omega (arith, ap length (c.get_mut.ensures.none.0 none))) in
    rw end_is (
      lent_as c.get_mut.result (stepped R.with_item s s.front last (index_at n last)) (stepped R.with_item s s.front last last) (record s { back = last }) s
          lent (λ w. ap (λ i. stepped R.with_item s s.front last i w) (mod-eq_of_lt within)),
      record {
        writes_back = tt;
        value = slice_get-to_come (R.contents s.ring.now) s.front s.back _ last (option_copied_mut c.get_mut.result) (omega (arith, length-to_come (R.contents s.ring.now) s.front s.back)) (omega arith) (rw end_is at c.get_mut.ensures.value);
        none = none-to_come (R.contents s.ring.now) s.front s.back lent (omega arith);
      },
    )
