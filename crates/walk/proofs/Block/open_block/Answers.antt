-- `walk::Block::open_block` meets its contract: 16, then 18, then the enter event. Assumes nothing.
use native.Mathlib.Omega.{arith}
use Rattle.walk.specs.Walk.{entry}
use Rattle.walk.proofs.Items.{enter_deep, enter_full, block_entered}
use Rattle.walk.proofs.Parts.{stopped_in}
use Rattle.walk.proofs.Block.open_block.Goals as goal

pub returns-then-self-eq0 : goal.returns-then-self-eq0
returns-then-self-eq0 c =
    let a = c.args in
    let b = a.self.now in
    let h = a.head in
    let p = c.requires in
    λ ops t stands. enter_deep b _ a.m h.width h.length a.g h.block p.1.0 p.1.1 c.if-self-eq0.true

pub returns-in_err-put_event : goal.returns-in_err-put_event
returns-in_err-put_event c =
    let a = c.args in
    let b = a.self.now in
    let h = a.head in
    let p = c.requires in
    let w = c.in_err-put_event.ensures in
    λ ops t stands.
    stopped_in b a.m _ _ _ _ _ _ _ _ _ c.from_residual.ensures.1 (rw w.0 (enter_full b _ a.m h.width h.length a.g h.block p.1.0 p.1.1 (omega arith) (omega (arith, w.1))))

pub returns : goal.returns
unfolding entry
returns c =
    let a = c.args in
    let b = a.self.now in
    let h = a.head in
    let p = c.requires in
    let w = c.in_ok-put_event.ensures in
    λ ops t stands.
    block_entered b a.m t a.events.now ops stands h.width h.length a.g h.block _ p.1.0 p.1.1 (omega arith) w.0 c.put_event.auto.events p.2 w.1
