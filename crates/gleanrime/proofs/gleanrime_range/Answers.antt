-- `gleanrime::gleanrime_range` meets its contract: what `Operands::range` gives, or zeros. Assumes nothing.
use mathlib.Core.Path.{◌∙◌}
use native.Mathlib.Omega.{arith}
use Rattle.gleanrime.proofs.Typed.{range_refused, range_got}
use Rattle.gleanrime.proofs.gleanrime_range.Goals as goal

pub returns-in-Err : goal.returns-in-Err
returns-in-Err c =
    let a = c.args in
    let all = range_refused a.operands.now a.first a.count _ c.new.ensures (omega arith) c.in-Err.ensures in
    record { status = c.number.ensures ∙ all.0; start = all.1.0; end = all.1.1 }

pub returns-in-Ok : goal.returns-in-Ok
returns-in-Ok c =
    let a = c.args in
    let all = range_got a.operands.now a.first a.count _ c.new.ensures (omega arith) c.in-Ok.v (rw c.in-Ok.is at c.range.ensures) in
    record { status = all.0; start = all.1.0; end = all.1.1 }
