-- `bits::Cursor::read` meets its contract: each return is one of the definition's tests, and the value is `field_at`'s. Assumes nothing.
use Rattle.bits.proofs.Laws.{read_outside, read_short, read_value}
use native.Mathlib.Omega.{arith}
use Rattle.bits.proofs.Cursor.read.Goals as goal

pub returns-then-n-lt1 : goal.returns-then-n-lt1
returns-then-n-lt1 c = read_outside _ _ _ _ (λ h k. omega arith)

pub returns-then-bits-n : goal.returns-then-bits-n
returns-then-bits-n c = read_short _ _ _ _ (omega arith) (omega arith) (omega arith)

pub returns-then-bits-n-2 : goal.returns-then-bits-n-2
returns-then-bits-n-2 c = read_short _ _ _ _ (omega arith) (omega arith) (omega arith)

pub returns : goal.returns
returns c = read_value _ _ _ _ c.field_at.ensures (omega arith) (omega arith) (omega arith)
