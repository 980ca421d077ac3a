-- `gleanrime::gleanrime_signed` meets its contract: what `Operands::i64` gives, which fits 64 bits with its sign, or 0. Assumes nothing.
use mathlib.Core.Path.{◌∙◌}
use mir.ValLaws.{to_z-of_z}
use native.Mathlib.Omega.{arith}
use borrow.Author.Rules.{rules}
use Rattle.gleanrime.proofs.Typed.{signed_refused, signed_got}
use Rattle.gleanrime.proofs.gleanrime_signed.Goals as goal

pub returns-in-Err : goal.returns-in-Err
returns-in-Err c =
    let a = c.args in
    let all = signed_refused a.operands.now a.first a.count _ c.new.ensures (omega arith) c.in-Err.ensures in
    record { status = c.number.ensures ∙ all.0; value = all.1 }

pub returns-in-Ok : goal.returns-in-Ok
returns-in-Ok c =
    let a = c.args in
    let all = signed_got a.operands.now a.first a.count _ c.new.ensures (omega arith) (rw c.in-Ok.is at c.i64.ensures) (search (rules, to_z-of_z)) in
    record { status = all.0; value = all.1 }
