-- `bitcode::bytes_of` meets its contract: the two tests say, with no sum, whether the part ends within the stream. Assumes nothing.
use mathlib.Core.Path.{sym}
use native.Mathlib.Omega.{arith}
use native.Mathlib.Nat.{add-sub_cancel_left}
use Rattle.bitcode.proofs.Headers.{bytes_outside, bytes_inside}
use Rattle.bitcode.proofs.bytes_of.Goals as goal

pub returns-then-have-length : goal.returns-then-have-length
returns-then-have-length c = sym (bytes_outside _ _ _ (omega arith))

pub returns : goal.returns
returns c = rw add-sub_cancel_left (sym (bytes_inside _ _ _ (omega arith)))
