-- `gleanrime::gleanrime_unsigned` meets its contract: what `Operands::u64` gives, behind the test of its width, or 0. Assumes nothing.
use mathlib.Core.Path.{sym, ◌∙◌}
use native.Mathlib.Omega.{arith}
use borrow.Author.Tests.{ltb-true, ltb-false}
use Rattle.gleanrime.proofs.Typed.{unsigned_refused, unsigned_got, unsigned_over}
use Rattle.gleanrime.proofs.gleanrime_unsigned.Goals as goal

pub returns-in-Ok : goal.returns-in-Ok
returns-in-Ok c =
    let a = c.args in
    let all = unsigned_got a.operands.now a.first a.count _ c.new.ensures (omega arith) a.bits
    (rw c.in-Ok.is at c.u64.ensures)
    (ltb-true _ _ (sym c.fits.ensures ∙ c.if-fits.true)) in
    record { status = all.0; value = all.1 }

pub returns-in-Ok-2 : goal.returns-in-Ok-2
returns-in-Ok-2 c =
    let a = c.args in
    let all = unsigned_over a.operands.now a.first a.count _ c.new.ensures (omega arith) a.bits
    (rw c.in-Ok.is at c.u64.ensures)
    (ltb-false _ _ (sym c.fits.ensures ∙ c.if-fits.false)) in
    record { status = c.number.ensures ∙ all.0; value = all.1 }

pub returns-in-Err : goal.returns-in-Err
returns-in-Err c =
    let a = c.args in
    let all = unsigned_refused a.operands.now a.first a.count _ c.new.ensures (omega arith) a.bits c.in-Err.ensures in
    record { status = c.number-in-Err.ensures ∙ all.0; value = all.1 }
