use Rattle.ring_core.proofs.Reading.{read_at}
use Rattle.ring_core.proofs.searching.item_at.Goals as goal

pub returns : goal.returns
returns g c = read_at (g.R.RingBuffer.contents c.args.ring.now) c.args.index c.get.result c.unwrap.result c.requires c.get.ensures.value c.unwrap.ensures
