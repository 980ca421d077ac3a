-- `walk::pass_over` meets its contract: a block of the skip list gives its skip event, and its body stays unread. Assumes nothing.
use native.Mathlib.Omega.{arith}
use Rattle.walk.specs.Walk.{entry}
use Rattle.walk.proofs.Items.{skip_full, skip_went}
use Rattle.walk.proofs.Parts.{stopped_in}
use Rattle.walk.proofs.pass_over.Goals as goal

pub returns-in_err-put_event : goal.returns-in_err-put_event
returns-in_err-put_event c =
    let a = c.args in
    let h = a.head in
    let w = c.in_err-put_event.ensures in
    λ b ops t z stands.
    stopped_in b a.m _ _ _ _ _ _ _ _ _ c.from_residual.ensures.1 (rw w.0 (skip_full b _ a.m h.width h.length a.g h.block z.0 z.1 (omega (arith, w.1))))

pub returns : goal.returns
unfolding entry
returns c =
    let a = c.args in
    let h = a.head in
    let w = c.in_ok-put_event.ensures in
    λ b ops t z stands.
    skip_went b a.m t a.events.now ops stands h.width h.length a.g h.block _ z.0 z.1 w.0 c.put_event.auto.events w.1
