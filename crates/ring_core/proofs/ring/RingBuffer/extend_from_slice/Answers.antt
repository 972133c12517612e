use Rattle.ring_core.proofs.Words.{[], ◌∷◌, ◌++◌, ◌∙◌, ap, arith, append-nil, append_assoc, length-append, refl, sym, is_ok, keep_last, Ok}
use Rattle.std.proofs.lemmas.List.Elements.{all_zip_more}
use Rattle.ring_core.proofs.Limits.{keep_last-keep_last, keep_last_within}
use Rattle.ring_core.proofs.Cloned.{equal_clones_pushed, none_over}
use Rattle.ring_core.proofs.ring.RingBuffer.extend_from_slice.Goals as goal

pub loop-item-init : goal.loop-item-init
loop-item-init g c =
    let R = g.Self.RingBuffer in let now = c.args.self.now in
    ([], tt, refl, rw append-nil (sym (keep_last_within (R.limit now) (R.contents now) c.len.ensures.within)), refl, λ some. (omega arith, omega arith))

pub returns-in_err-clone-clause-extends : goal.returns-in_err-clone-clause-extends
returns-in_err-clone-clause-extends g c =
    let (ys, clones, long, kept, _, _) = c.loop-item.invariant in
    (0, ys, none_over _ c.args.items.now, rw (sym long) at clones, kept, search arith)

pub returns-in-Err-clause-extends : goal.returns-in-Err-clause-extends
returns-in-Err-clause-extends g c =
    let (ys, clones, long, kept, _, _) = c.loop-item.invariant in
    (0, ys, none_over _ c.args.items.now, rw (sym long) at clones, c.in-Err.ensures.err.1 ∙ kept, tt)

-- One more clone is pushed.
pub loop-item-preserved : goal.loop-item-preserved
loop-item-preserved g c =
    let R = g.Self.RingBuffer in let now = c.args.self.now in
    let (ys, clones, long, kept, limit, changes) = c.loop-item.invariant in
    let y = c.in_ok-clone.field-0 in
    let more = all_zip_more g.T.Clone.is_clone c.args.items.now ys c.loop-item.item-index _ y (omega arith) c.item-item.is clones c.in_ok-clone.ensures.cases in
    let pushed = c.push.ensures.ok (ap is_ok c.in_default.is)
    ∙ rw (limit, kept) (keep_last-keep_last (R.limit now) (R.contents now ++ ys) (y ∷ []) ∙ ap (λ l. keep_last (R.limit now) l) (append_assoc (R.contents now) ys (y ∷ []))) in (
      ys ++ y ∷ [],
      more,
      omega (arith, long, length-append ys (y ∷ [])),
      pushed,
      c.push.ensures.limit ∙ limit,
      λ some. let before = changes some in let one = (rw limit at c.push.ensures.changes) some in (omega arith, omega arith),
    )

pub returns-clause-extends : goal.returns-clause-extends
returns-clause-extends g c =
    let (ys, clones, long, kept, _, _) = c.loop-item.invariant in
    (0, ys, none_over _ c.args.items.now, rw (sym long) at clones, kept, omega arith)

pub returns-clause-items_if_clones_equal : goal.returns-clause-items_if_clones_equal
returns-clause-items_if_clones_equal g c =
    let R = g.Self.RingBuffer in
    equal_clones_pushed {E = Unit {0}} g.T.Clone.is_clone (R.limit c.args.self.now) c.args.items.now (R.contents c.args.self.now) (R.contents c.loop-item.self) (Ok tt) (returns-clause-extends g c)
