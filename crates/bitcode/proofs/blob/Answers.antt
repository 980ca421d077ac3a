-- `bitcode::blob` meets its contract: it is the part of the stream that `bytes_of` shows. Assumes nothing.
use Rattle.bitcode.specs.Header.{blob_of}
use Rattle.bitcode.proofs.blob.Goals as goal

pub returns : goal.returns
unfolding blob_of
returns c = rw c.stream.ensures at c.bytes_of.ensures
