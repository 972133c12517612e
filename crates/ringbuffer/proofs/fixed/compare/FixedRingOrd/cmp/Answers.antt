-- Where capacities are equal, a total order of items answers, as `partial_cmp` does.
use Rattle.ringbuffer.proofs.Words.{◌∙◌, refl, sym, lists_agrees}
use Rattle.ringbuffer.proofs.fixed.compare.FixedRingOrd.cmp.Goals as goal

pub unwrap-requires : goal.unwrap-requires
unwrap-requires g c =
    rw (c.partial_cmp_items.ensures, lists_agrees g.met.T.Ord.matches_partial_cmp c.args.self.now.items c.args.other.now.items) refl

pub returns-in-Equal : goal.returns-in-Equal
returns-in-Equal g c =
    let answered = c.partial_cmp_items.ensures ∙ lists_agrees g.met.T.Ord.matches_partial_cmp c.args.self.now.items c.args.other.now.items in
    let tie = sym c.cmp.ensures ∙ c.in-Equal.is in let same = sym c.unwrap.ensures ∙ answered in rw (sym c.capacity.ensures.value, sym c.capacity-2.ensures.value, tie) cc
