-- `walk::Block::end_of` meets its contract: the top level ends, a block has no end mark. Assumes nothing.
use Rattle.walk.proofs.Items.{completed_off, ended_top, open_top, open_missing}
use Rattle.walk.proofs.Block.end_of.Goals as goal

pub returns-then-f : goal.returns-then-f
returns-then-f c =
    let a = c.args in
    let b = a.self.now in
    λ ev ops t stands.
    ended_top b a.m t ev ops stands a.m.at c.if-f.true (open_top _ _ _ _ _ c.requires c.if-f.true)

pub returns : goal.returns
returns c =
    let a = c.args in
    let b = a.self.now in
    λ ev ops t stands. completed_off b _ (open_missing _ _ _ _ _ c.requires c.if-f.false)
