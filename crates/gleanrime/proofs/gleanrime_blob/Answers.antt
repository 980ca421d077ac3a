-- `gleanrime::gleanrime_blob` meets its contract: the two tests say, with no sum, whether the blob ends within the stream. Assumes nothing.
use mathlib.Core.Path.{ap}
use native.Mathlib.Omega.{arith}
use lib.ListN.{length}
use Rattle.gleanrime.proofs.Parts.{stream_lies, blob_outside, blob_inside}
use Rattle.gleanrime.proofs.gleanrime_blob.Goals.{then-have-length-via-then-have-length, then-have-length-via-else-have-length+then-have-length-2}
use Rattle.gleanrime.proofs.gleanrime_blob.Goals as goal

pub returns-then-have-length : goal.returns-then-have-length
returns-then-have-length c =
    let all = blob_outside c.args.input.now c.args.place c.args.length
    (elim c.then-have-length.branch [
      | then-have-length-via-then-have-length w ↦ omega (arith, ap length c.stream.ensures, w.if-have-length.true)
      | then-have-length-via-else-have-length+then-have-length-2 w ↦ omega (arith, ap length c.stream.ensures, w.if-have-length.false, w.if-have-length-2.true)
    ]) in
    record { size = all.0; from = all.1 }

pub overflow_add-from : goal.overflow_add-from
overflow_add-from c =
    let bs = c.args.input.now in
    omega (arith, c.stream_start.ensures, ap length c.stream.ensures, (stream_lies bs).inside)

pub returns : goal.returns
returns c =
    let bs = c.args.input.now in
    let all = blob_inside bs _ _ _ c.stream_start.ensures (omega (arith, ap length c.stream.ensures)) in
    record { size = all.0; from = all.1 }
