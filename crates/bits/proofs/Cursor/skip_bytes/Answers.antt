-- `bits::Cursor::skip_bytes` meets its contract: its tests in bytes say the same as the definition's in bits, since the limit is whole bytes. Assumes nothing.
use Rattle.bits.proofs.Laws.{skip_odd, skip_off, skip_to}
use native.Mathlib.Omega.{arith}
use Rattle.bits.proofs.Cursor.skip_bytes.Goals as goal

pub returns-then-at-ne0 : goal.returns-then-at-ne0
returns-then-at-ne0 c = skip_odd _ _ _ _ (λ h. omega arith)

pub returns-then-length-n : goal.returns-then-length-n
returns-then-length-n c = skip_off _ _ _ _ (omega arith) (omega arith)

pub returns-then-length-n-2 : goal.returns-then-length-n-2
returns-then-length-n-2 c = skip_off _ _ _ _ (omega arith) (omega arith)

pub returns : goal.returns
returns c = skip_to _ _ _ _ (omega arith) (omega arith)
