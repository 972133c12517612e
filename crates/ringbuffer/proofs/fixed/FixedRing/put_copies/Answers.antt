use Rattle.ringbuffer.proofs.Words.{length}
use Rattle.ringbuffer.proofs.Copies.{LaysOut-puts, empty_behind}
use Rattle.ringbuffer.proofs.fixed.FixedRing.put_copies.Goals as goal

pub put_copies-requires : goal.put_copies-requires
put_copies-requires g c =
    (c.requires.contiguous, empty_behind (g.S.RingSlots.seen c.args.slots.now) c.args.span.start c.requires.span.laid_out c.args.place c.args.span.len (length c.args.items.now) c.requires.span.len c.requires.place c.requires.contiguous c.requires.room)

pub returns : goal.returns
returns g c =
    LaysOut-puts (g.S.RingSlots.seen c.args.slots.now) c.args.span.start c.requires.span.laid_out c.args.place c.args.span.len c.args.items.now c.requires.span.len c.requires.room c.requires.place c.requires.contiguous (g.S.RingSlots.seen c.put_copies.new.self) c.put_copies.ensures
