-- `walk::read_blob_bytes` meets its contract: the bytes of a blob, its place, and the alignment behind it. Assumes nothing.
use Rattle.bits.proofs.Steps.{handed}
use Rattle.walk.specs.Promises.{Loaded}
use Rattle.walk.proofs.Records.{bytes_loads, bytes_short, bytes_unaligned}
use Rattle.walk.proofs.read_blob_bytes.Goals as goal

pub returns-in_err-d : goal.returns-in_err-d
returns-in_err-d c = λ ops h. handed (Loaded _ _ _ _ _ _) _ c.from_residual.ensures.1 (bytes_short _ c.requires c.in_err-d.ensures)

pub returns-in_err-end : goal.returns-in_err-end
returns-in_err-end c =
    λ ops h. handed (Loaded _ _ _ _ _ _) _ c.from_residual-in_err-end.ensures.1 (bytes_unaligned _ c.in_ok-d.ensures c.in_err-end.ensures)

pub returns : goal.returns
returns c = λ ops h. bytes_loads _ ops _ h c.in_ok-d.ensures c.in_ok-end.ensures
