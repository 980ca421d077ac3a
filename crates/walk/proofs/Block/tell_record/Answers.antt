-- `walk::Block::tell_record` meets its contract: the record's event is written, where there is room for one. Assumes nothing.
use Rattle.std.proofs.Common.{refl}
use Rattle.walk.specs.Walk.{entry}
use Rattle.walk.proofs.Block.tell_record.Goals as goal

pub returns : goal.returns
unfolding entry
returns c = let w = c.in_ok-put_event.ensures in (refl, w.0, w.1)
