-- `bits::Cursor::read_bytes` meets its contract: where `skip_bytes` moves the bytes lie in the slice, and where it stays there are none. Assumes nothing.
use Rattle.bits.proofs.Laws.{skip_inside, bytes_none, bytes_some}
use mathlib.Core.Path.{sym}
use native.Mathlib.Omega.{arith}
use native.Mathlib.Nat.{add-sub_cancel_left}
use Rattle.bits.proofs.Cursor.read_bytes.Goals as goal

pub overflow_add-e : goal.overflow_add-e
overflow_add-e c =
    let m = skip_inside _ (rw c.in-Ok.is at c.skip_bytes.ensures) in
    omega arith

pub slice_bounds-result-end-in-Ok : goal.slice_bounds-result-end-in-Ok
slice_bounds-result-end-in-Ok c =
    let m = skip_inside _ (rw c.in-Ok.is at c.skip_bytes.ensures) in
    omega arith

pub returns-in-Err : goal.returns-in-Err
returns-in-Err c = sym (bytes_none _ (rw c.in-Err.is at c.skip_bytes.ensures))

pub returns-in-Ok : goal.returns-in-Ok
returns-in-Ok c =
    rw add-sub_cancel_left (sym (bytes_some _ (rw c.in-Ok.is at c.skip_bytes.ensures)))
