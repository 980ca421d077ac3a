-- `walk::Block::leave` meets its contract: END_BLOCK aligns, writes the leave event and frees the local abbreviations. Assumes nothing.
use native.Mathlib.Omega.{arith}
use Rattle.walk.specs.Walk.{entry}
use Rattle.walk.proofs.Items.{completed_off, ended_top, ended_block, leave_off, leave_top, leave_full, leave_done}
use Rattle.walk.proofs.Parts.{stopped_in}
use Rattle.walk.proofs.Block.leave.Goals as goal

pub returns-in_err-g : goal.returns-in_err-g
returns-in_err-g c =
    let a = c.args in
    let b = a.self.now in
    let z = rw c.requires.1 at c.in_err-g.ensures in
    λ ops t stands. stopped_in b a.m _ _ _ _ _ _ _ _ _ c.from_residual.ensures.1 (completed_off b _ (leave_off _ _ _ _ _ _ z.why))

pub returns-then-self : goal.returns-then-self
returns-then-self c =
    let a = c.args in
    let b = a.self.now in
    let z = rw c.requires.1 at c.in_ok-g.ensures in
    λ ops t stands.
    ended_top b a.m t a.events.now ops stands _ c.if-self.true (leave_top _ _ _ _ _ _ z.gives c.if-self.true)

pub returns-in_err-put_event : goal.returns-in_err-put_event
returns-in_err-put_event c =
    let a = c.args in
    let b = a.self.now in
    let z = rw c.requires.1 at c.in_ok-g.ensures in
    let w = c.in_err-put_event.ensures in
    λ ops t stands.
    stopped_in b a.m _ _ _ _ _ _ _ _ _ c.from_residual-in_err-put_event.ensures.1
    (rw w.0 (completed_off b _ (leave_full _ _ _ _ _ _ z.gives c.if-self.false (omega (arith, w.1)))))

pub returns : goal.returns
unfolding entry
returns c =
    let a = c.args in
    let b = a.self.now in
    let z = rw c.requires.1 at c.in_ok-g.ensures in
    let w = c.in_ok-put_event.ensures in
    λ ops t stands.
    ended_block b a.m t a.events.now ops stands _ _ c.if-self.false
    (leave_done _ _ _ _ _ _ z.gives c.if-self.false (omega (arith, w.0))) w.0 c.put_event.auto.events w.1
