-- `bits::Cursor::read_vbr` meets its contract: what is left, with the sum in hand, gives the whole number, and each chunk leaves fewer bits. Assumes nothing.
use Rattle.bits.proofs.Vbr.{going_start, going_refused, going_over, going_last, going_more, vbr_outside, sum_fits, read_ahead, ahead_less}
use borrow.Author.Rules.{rules}
use native.Mathlib.Omega.{arith}
use Rattle.bits.proofs.Cursor.read_vbr.Goals as goal

pub returns-then-w-lt1 : goal.returns-then-w-lt1
returns-then-w-lt1 c = vbr_outside _ _ _ _ (λ h k. omega arith)

pub loop-e-init : goal.loop-e-init
loop-e-init c = going_start _ _ _ (omega arith) (omega arith)

pub overflow_add-sum : goal.overflow_add-sum
overflow_add-sum c = search (sum_fits, rules)

pub loop-e-smaller : goal.loop-e-smaller
loop-e-smaller c =
    let g = rw c.in-Ok.is at c.read.ensures in
    ahead_less _ _ _ (read_ahead _ _ _ _ _ _ g.gives) g.ends

pub loop-e-preserved : goal.loop-e-preserved
loop-e-preserved c = going_more c.loop-e.invariant (rw c.in-Ok.is at c.read.ensures) (cc) (omega arith) (omega arith)

pub returns-in-Err : goal.returns-in-Err
returns-in-Err c = going_refused c.loop-e.invariant (rw c.in-Err.is at c.read.ensures)

pub returns-then-shift-ge64 : goal.returns-then-shift-ge64
returns-then-shift-ge64 c = going_over c.loop-e.invariant (rw c.in-Ok.is at c.read.ensures) c.if-shift-ge64.true

pub returns-then-v-unit : goal.returns-then-v-unit
returns-then-v-unit c = going_last c.loop-e.invariant (rw c.in-Ok.is at c.read.ensures) (cc) (omega arith) (omega arith)
