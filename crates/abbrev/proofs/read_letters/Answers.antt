-- `abbrev::read_letters` meets its contract: each turn reads and judges one letter, and one fewer is left. Assumes nothing.
use native.Mathlib.Omega.{arith}
use Rattle.bits.specs.Told.{of_move}
use Rattle.bits.proofs.Steps.{handed_on}
use Rattle.abbrev.proofs.Records.{spelling_end, spelling_refused, spelling_wide, spelling_more}
use Rattle.abbrev.proofs.read_letters.Goals as goal

pub returns-in_err-letter : goal.returns-in_err-letter
returns-in_err-letter c =
    handed_on of_move _ _ _ _ _ c.from_residual.ensures.1 (spelling_refused c.loop.invariant (omega arith) c.in_err-letter.ensures)

pub returns-then-letter-gt255 : goal.returns-then-letter-gt255
returns-then-letter-gt255 c = spelling_wide c.loop.invariant (omega arith) c.in_ok-letter.ensures c.if-letter-gt255.true

pub loop-preserved : goal.loop-preserved
loop-preserved c = spelling_more c.loop.invariant (omega arith) c.in_ok-letter.ensures c.if-letter-gt255.false

pub returns : goal.returns
returns c = spelling_end c.loop.invariant (omega arith)
