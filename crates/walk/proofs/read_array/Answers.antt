-- `walk::read_array` meets its contract: an array's length, and its elements, which stand behind the record's operands. Assumes nothing.
use Prim.Native.Nat.{◌-◌}
use native.Mathlib.Omega.{arith}
use lib.ListN.{length}
use borrow.Rule.Slice.PartMut.{mid_len}
use Rattle.bits.proofs.Steps.{off, then_off, handed}
use Rattle.walk.specs.Promises.{load, Loaded}
use Rattle.walk.proofs.Stores.{take_put_front}
use Rattle.walk.proofs.Records.{array_loads}
use Rattle.walk.proofs.read_array.Goals as goal

pub returns-in_err-length : goal.returns-in_err-length
unfolding load
returns-in_err-length c = handed (Loaded _ _ _ _ _ _) _ c.from_residual.ensures.1 (off _ c.in_err-length.ensures)

pub returns-in_err-end : goal.returns-in_err-end
unfolding load
returns-in_err-end c =
    let a = c.args in
    let ops = a.operands.now in
    let e = mid_len a.r.fill (length ops) ops (omega arith) in
    let z = rw e at c.in_err-end.ensures in
    handed (Loaded _ _ _ _ _ _) _ c.from_residual-in_err-end.ensures.1 (then_off _ c.in_ok-length.ensures (off _ z))

pub returns : goal.returns
returns c =
    let a = c.args in
    let ops = a.operands.now in
    let fill = a.r.fill in
    let e = mid_len fill (length ops) ops (omega arith) in
    let z = rw e at c.in_ok-end.ensures in
    let ys = c.fill_run.new.rest in
    rw c.array_kind.ensures (array_loads a.k ops _ ys a.r c.in_ok-length.ensures z.0 z.1 (take_put_front fill (length ops - fill) _ ops ys (omega arith) z.1)
    (omega (arith, e, z.1)))
