-- `walk::walk_stream` meets its contract: the top level is a block's body, from the first bit, with no abbreviation. Assumes nothing.
use Rattle.walk.specs.Promises.{held}
use Rattle.walk.proofs.Outer.{stream_is}
use Rattle.walk.proofs.walk_stream.Goals as goal

pub returns : goal.returns
returns c =
    let n = c.new-tables in
    let v = c.visit_block in
    let a = c.args in
    stream_is a.s.now a.skip.now a.events.now v.new.ev a.operands.now v.new.ops (held n.result) (held v.new.tables)
    n.result.shared n.result.local v.result n.ensures.4 n.ensures.5 v.ensures.is
