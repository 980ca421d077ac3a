-- `bits::Cursor::align32` meets its contract: a place past the limit has its next multiple past it too; else the tests are the definition's. Assumes nothing.
use Rattle.bits.proofs.Laws.{align_off, align_to}
use native.Mathlib.Omega.{arith}
use Rattle.bits.proofs.Cursor.align32.Goals as goal

pub returns-then-bits-at : goal.returns-then-bits-at
returns-then-bits-at c = align_off _ _ _ (omega arith)

pub returns-then-bits-next : goal.returns-then-bits-next
returns-then-bits-next c = align_off _ _ _ (omega arith)

pub returns : goal.returns
returns c = align_to _ _ _ (omega arith)
