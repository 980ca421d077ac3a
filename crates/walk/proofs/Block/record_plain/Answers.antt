-- `walk::Block::record_plain` meets its contract: a record without an abbreviation, then its event. Assumes nothing.
use Prim.Native.Nat.{◌-◌}
use lib.ListN.{length}
use Rattle.walk.specs.Promises.{plain}
use Rattle.walk.proofs.Items.{told_off, told_record, plain_is}
use Rattle.walk.proofs.Parts.{stopped_in}
use Rattle.walk.proofs.Block.record_plain.Goals as goal

pub returns-in_err-r : goal.returns-in_err-r
returns-in_err-r c =
    let a = c.args in
    let b = a.self.now in
    let p = c.requires in
    λ t stands.
    stopped_in b a.m _ _ _ _ _ _ _ _ _ c.from_residual.ensures.1
    (told_off b a.m t a.events.now a.operands.now p.0 a.d (plain (length a.operands.now - a.m.operands)) (plain_is _ _ _ _ _ _) p.1 c.in_err-r.ensures)

pub returns : goal.returns
returns c =
    let a = c.args in
    let b = a.self.now in
    let p = c.requires in
    λ t stands.
    told_record b a.m t a.events.now a.operands.now p.0 a.d (plain (length a.operands.now - a.m.operands)) (plain_is _ _ _ _ _ _) p.1
    _ _ _ _ c.in_ok-r.ensures c.tell_record.auto.events c.read_unabbreviated.auto.operands c.tell_record.result c.tell_record.ensures
