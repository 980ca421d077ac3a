-- `bitcode::Operands::range` meets its contract: both operands are taken, and the test says whether the end fits 64 bits. Assumes nothing.
use Prim.Native.Nat.{◌^◌}
use native.Mathlib.Omega.{arith}
use borrow.Author.Tests.{lt-ltb, le-ltb}
use Rattle.bits.proofs.Steps.{on, then_off, off, ends, pass, fail, handed_on}
use Rattle.bitcode.specs.Operands.{next_range, of_next}
use Rattle.bitcode.proofs.Operands.range.Goals as goal

pub returns-in_err-start : goal.returns-in_err-start
unfolding next_range
returns-in_err-start c = handed_on of_next _ _ _ _ _ c.from_residual.ensures.1 (off _ c.in_err-start.ensures)

pub returns-in_err-n : goal.returns-in_err-n
unfolding next_range
returns-in_err-n c =
    handed_on of_next _ _ _ _ _ c.from_residual-in_err-n.ensures.1 (then_off _ c.in_ok-start.ensures (off _ c.in_err-n.ensures))

pub returns-in-Some : goal.returns-in-Some
unfolding next_range
returns-in-Some c =
    on _ c.in_ok-start.ensures (on _ c.in_ok-n.ensures (rw c.in-Some.ensures.1 (pass _ _ (lt-ltb _ (2 ^ 64) c.in-Some.ensures.0) ends)))

pub returns-in-None : goal.returns-in-None
unfolding next_range
returns-in-None c =
    then_off _ c.in_ok-start.ensures (then_off _ c.in_ok-n.ensures (fail _ (le-ltb _ (2 ^ 64) (omega (arith, c.in-None.ensures)))))
