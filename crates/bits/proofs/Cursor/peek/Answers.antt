-- `bits::Cursor::peek` meets its contract: it tells what `read` tells, with the cursor left where it was and each refusal made 2. Assumes nothing.
use Rattle.bits.proofs.Laws.{peek_seen, peek_off}
use Rattle.bits.proofs.Cursor.peek.Goals as goal

pub returns-in-Ok : goal.returns-in-Ok
returns-in-Ok c =
    peek_seen _ (rw c.in-Ok.is at c.read.ensures)

pub returns-in-Err : goal.returns-in-Err
returns-in-Err c = peek_off _ (rw c.in-Err.is at c.read.ensures)
