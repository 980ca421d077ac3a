-- `bitcode::Signature::inner` meets its contract: a part counted from its start is the same as one cut at its end first. Assumes nothing.
use Prim.Native.Nat.{◌+◌}
use Rattle.bitcode.proofs.Headers.{part_of}
use Rattle.bitcode.proofs.Signature.inner.Goals as goal

pub returns : goal.returns
returns c =
    let h = c.args.self in
    part_of (h.offset + 4) (h.offset + h.size) c.args.input.now
