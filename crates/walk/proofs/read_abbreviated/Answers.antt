-- `walk::read_abbreviated` meets its contract: code, operands and payload, by the abbreviation that stands in the row. Assumes nothing.
use Prim.Native.Nat.{◌+◌, ◌-◌, ◌/◌, ◌%◌, ◌≤◌}
use native.Mathlib.Omega.{arith}
use mathlib.Core.Path.{◌≡◌}
use lib.ListN.{length}
use borrow.Rule.Slice.PartMut.{put_mid, mid_len}
use Rattle.std.specs.Prelude.{Ok}
use Rattle.bits.proofs.Steps.{handed}
use Rattle.abbrev.specs.Tables.{row_size, slot}
use Rattle.walk.specs.Promises.{Recorded}
use Rattle.walk.proofs.Records.{no_scalar, scalars_off, load_told, none_loads, array_told, blob_told}
use Rattle.walk.proofs.read_abbreviated.Goals as goal

pub returns-then-n-eq0 : goal.returns-then-n-eq0
returns-then-n-eq0 c = no_scalar _ _ _ _ _ c.if-n-eq0.true

pub returns-in_err-code : goal.returns-in_err-code
returns-in_err-code c =
    let a = c.args in
    let e = mid_len a.fill (length a.operands.now) a.operands.now (omega arith) in
    handed (Recorded _ _ _ _ _ _) _ c.from_residual.ensures.1 (scalars_off _ _ _ _ _ (rw e at c.in_err-code.ensures))

pub returns-in-0 : goal.returns-in-0
returns-in-0 c =
    let a = c.args in
    let ops = a.operands.now in
    let fill = a.fill in
    let n = a.shape % row_size in
    let e = mid_len fill (length ops) ops (omega arith) in
    let z = rw e at c.in_ok-code.ensures in
    let ys = c.fill_scalars.new.rest in
    let ops1 = put_mid fill (length ops - fill) ops ys in
    let h : fill + (n - 1) ≤ length ops1 = omega (arith, c.requires.1, e, z.1) in
    let l = none_loads _ (a.shape / row_size) _ (n - 1) (fill + (n - 1)) _ ops1 c.in-0.is h in
    load_told (length ops - fill) a.tables.now.kinds a.tables.now.widths a.base a.shape fill ys ops ops1 (Ok (_, _)) c.requires.1 z.0 z.1 l

pub returns-in-1 : goal.returns-in-1
returns-in-1 c =
    let a = c.args in
    let ops = a.operands.now in
    let fill = a.fill in
    let n = a.shape % row_size in
    let e = mid_len fill (length ops) ops (omega arith) in
    let z = rw e at c.in_ok-code.ensures in
    let ys = c.fill_scalars.new.rest in
    let ops1 = put_mid fill (length ops - fill) ops ys in
    let q : length ops1 - (fill + (n - 1)) ≡ length ops - fill - (n - 1) = omega (arith, c.requires.1, e, z.1) in
    let t = c.read_array in
    let k = slot a.tables.now.kinds a.tables.now.widths (a.base + n) in
    let l = array_told _ _ _ _ (a.shape / row_size) k ops1 _ _ t.result c.in-1.is q (rw c.scalar_operand-k.ensures at t.ensures) in
    load_told (length ops - fill) a.tables.now.kinds a.tables.now.widths a.base a.shape fill ys ops _ t.result c.requires.1 z.0 z.1 l

pub returns-in_default : goal.returns-in_default
returns-in_default c =
    let a = c.args in
    let ops = a.operands.now in
    let fill = a.fill in
    let n = a.shape % row_size in
    let e = mid_len fill (length ops) ops (omega arith) in
    let z = rw e at c.in_ok-code.ensures in
    let ys = c.fill_scalars.new.rest in
    let ops1 = put_mid fill (length ops - fill) ops ys in
    let h : fill + (n - 1) ≤ length ops1 = omega (arith, c.requires.1, e, z.1) in
    let t = c.read_blob in
    let l = blob_told _ _ _ (a.shape / row_size) _ ops1 ops1 _ t.result (λ i. omega arith) (λ i. omega arith) (t.ensures _ ops1 h) in
    load_told (length ops - fill) a.tables.now.kinds a.tables.now.widths a.base a.shape fill ys ops ops1 t.result c.requires.1 z.0 z.1 l
