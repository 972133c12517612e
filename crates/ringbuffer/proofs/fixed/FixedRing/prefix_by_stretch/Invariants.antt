-- So many pairs are equal, and the others are still to be compared.
use Rattle.ringbuffer.proofs.Words.{◌≡◌, ◌+◌, ◌-◌, ◌≤◌, drop, common_prefix_len}
use Rattle.ringbuffer.proofs.fixed.FixedRing.prefix_by_stretch.Given as goal

abbrev pub invariant-loop-equal : goal.invariant-loop-equal
invariant-loop-equal g l =
    let eq = g.T.PartialEq.eq in let xs = l.self.items in let ys = l.other.items in
    record {
      within : l.equal ≤ l.len;
      equal : common_prefix_len eq xs ys ≡ l.equal + common_prefix_len eq (drop l.equal xs) (drop l.equal ys);
    }

abbrev pub decreases-loop-equal : goal.decreases-loop-equal
decreases-loop-equal g l = l.len - l.equal
