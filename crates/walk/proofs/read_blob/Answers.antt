-- `walk::read_blob` meets its contract: a blob's length, the alignment behind it, and its bytes. Assumes nothing.
use Rattle.bits.proofs.Steps.{off, then_off, handed}
use Rattle.walk.specs.Promises.{load, Loaded}
use Rattle.walk.proofs.Records.{aligned, loads_behind}
use Rattle.walk.proofs.read_blob.Goals as goal

pub read_blob_bytes-requires : goal.read_blob_bytes-requires
read_blob_bytes-requires c = aligned c.in_ok-g.ensures

pub returns-in_err-n : goal.returns-in_err-n
unfolding load
returns-in_err-n c = λ left ops h. handed (Loaded _ _ _ _ _ _) _ c.from_residual.ensures.1 (off _ c.in_err-n.ensures)

pub returns-in_err-g : goal.returns-in_err-g
unfolding load
returns-in_err-g c =
    λ left ops h. handed (Loaded _ _ _ _ _ _) _ c.from_residual-in_err-g.ensures.1 (then_off _ c.in_ok-n.ensures (off _ c.in_err-g.ensures))

pub returns : goal.returns
unfolding load
returns c =
    λ left ops h.
    loads_behind _ ops ops _ c.read_blob_bytes.result c.in_ok-n.ensures
    (loads_behind _ ops ops _ c.read_blob_bytes.result c.in_ok-g.ensures (c.read_blob_bytes.ensures ops h))
