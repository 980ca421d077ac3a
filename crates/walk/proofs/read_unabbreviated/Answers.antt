-- `walk::read_unabbreviated` meets its contract: code, count and operands, which stand behind the operands that there were. Assumes nothing.
use Prim.Native.Nat.{◌-◌}
use native.Mathlib.Omega.{arith}
use lib.ListN.{length}
use borrow.Rule.Slice.PartMut.{mid_len}
use Rattle.bits.proofs.Steps.{off, then_off, handed}
use Rattle.walk.specs.Record.{unabbreviated}
use Rattle.walk.specs.Promises.{plain, Recorded}
use Rattle.walk.proofs.Stores.{take_put_front}
use Rattle.walk.proofs.Records.{plain_reads}
use Rattle.walk.proofs.read_unabbreviated.Goals as goal

pub returns-in_err-code : goal.returns-in_err-code
unfolding plain unabbreviated
returns-in_err-code c = handed (Recorded _ _ _ _ _ _) _ c.from_residual.ensures.1 (off _ (off _ c.in_err-code.ensures))

pub returns-in_err-count : goal.returns-in_err-count
unfolding plain unabbreviated
returns-in_err-count c =
    handed (Recorded _ _ _ _ _ _) _ c.from_residual-in_err-count.ensures.1 (off _ (then_off _ c.in_ok-code.ensures (off _ c.in_err-count.ensures)))

pub returns-in_err-end : goal.returns-in_err-end
unfolding plain unabbreviated
returns-in_err-end c =
    let a = c.args in
    let ops = a.operands.now in
    let e = mid_len a.fill (length ops) ops (omega arith) in
    let z = rw e at c.in_err-end.ensures in
    handed (Recorded _ _ _ _ _ _) _ c.from_residual-in_err-end.ensures.1
    (off _ (then_off _ c.in_ok-code.ensures (then_off _ c.in_ok-count.ensures (off _ z))))

pub returns : goal.returns
returns c =
    let a = c.args in
    let ops = a.operands.now in
    let fill = a.fill in
    let e = mid_len fill (length ops) ops (omega arith) in
    let z = rw e at c.in_ok-end.ensures in
    let ys = c.fill_run.new.rest in
    plain_reads ops _ ys fill c.in_ok-code.ensures c.in_ok-count.ensures z.0 z.1 (take_put_front fill (length ops - fill) _ ops ys (omega arith) z.1)
    (omega (arith, e, z.1))
