-- `walk::visit_block` meets its contract: its loop walks the items of a block as the definition does, and calls itself with one level less to go. Assumes nothing.
use native.Mathlib.Omega.{arith}
use mathlib.Core.Path.{refl}
use lib.ListN.{replicate}
use Rattle.bits.proofs.Laws.{limit_le}
use Rattle.bits.proofs.Steps.{handed}
use Rattle.walk.specs.Promises.{Is}
use Rattle.walk.proofs.Visits.{going_first, going_onward, onward_less, going_behind, behind_less, is_over, is_stopped, is_refused, kept_item, kept_nested, picked_part}
use Rattle.walk.proofs.+visit_block.Goals as goal

pub loop-step-init : goal.loop-step-init
loop-step-init t c =
    let p = c.requires in
    let r = c.shared_rows-many.ensures in
    going_first _ _ _ _ _ (record { kinds = omega arith; widths = omega arith; shapes = omega arith; owners = omega arith }) p.sits.0 p.sits.1 (picked_part _ _ _ (replicate 32 0) refl r.many r.stored)

pub loop-step-smaller-in-Go : goal.loop-step-smaller-in-Go
loop-step-smaller-in-Go t c =
    let g = c.loop-step.invariant in
    let d = rw c.in-Go.is at c.in_ok-step.ensures.does in
    onward_less g d

pub loop-step-preserved-in-Go : goal.loop-step-preserved-in-Go
loop-step-preserved-in-Go t c =
    let i = c.try_next in
    let g = c.loop-step.invariant in
    let d = rw c.in-Go.is at c.in_ok-step.ensures.does in
    going_onward g i.ensures.kept i.auto.ev i.auto.ops d

pub inside-inner-requires : goal.inside-inner-requires
inside-inner-requires t c =
    let d = rw c.in-Into.is at c.in_ok-step.ensures.does in
    let a = c.args in
    (d.levels, omega (arith, d.fits, limit_le a.s.now a.f.end))

pub overflow_mul-st : goal.overflow_mul-st
overflow_mul-st t c =
    let d = rw c.in-Into.is at c.in_ok-step.ensures.does in
    let a = c.args in
    record { fits = omega (arith, d.fits, limit_le a.s.now a.f.end) }

pub overflow_add-st : goal.overflow_add-st
overflow_add-st t c =
    let d = rw c.in-Into.is at c.in_ok-step.ensures.does in
    let a = c.args in
    record { fits = omega (arith, d.fits, limit_le a.s.now a.f.end) }

pub loop-step-smaller : goal.loop-step-smaller
loop-step-smaller t c =
    let i = c.try_next in
    let g = c.loop-step.invariant in
    let d = rw c.in-Into.is at c.in_ok-step.ensures.does in
    let n = c.visit_block in
    let a = rw c.inside-inner.ensures at c.in_ok-u-in-Into.ensures.is in
    behind_less g i.ensures.kept i.auto.ev i.auto.ops d n.ensures.kept n.auto.ev n.auto.ops a

pub loop-step-preserved : goal.loop-step-preserved
loop-step-preserved t c =
    let i = c.try_next in
    let g = c.loop-step.invariant in
    let d = rw c.in-Into.is at c.in_ok-step.ensures.does in
    let n = c.visit_block in
    let a = rw c.inside-inner.ensures at c.in_ok-u-in-Into.ensures.is in
    going_behind g i.ensures.kept i.auto.ev i.auto.ops d n.ensures.kept n.auto.ev n.auto.ops a

pub returns-in_err-u-in-Into : goal.returns-in_err-u-in-Into
returns-in_err-u-in-Into t c =
    let i = c.try_next in
    let g = c.loop-step.invariant in
    let d = rw c.in-Into.is at c.in_ok-step.ensures.does in
    let n = c.visit_block in
    let a = rw c.inside-inner.ensures at c.in_err-u-in-Into.ensures.is in
    record { kept = kept_nested g i.ensures.kept i.auto.ev i.auto.ops d n.ensures.kept; is = handed (Is _ _ _ _ _ _ _ _ _ _) _ c.from_residual-in_err-u-in-Into.ensures.1 (is_refused g i.ensures.kept i.auto.ev i.auto.ops d a) }

pub returns-in-End : goal.returns-in-End
returns-in-End t c =
    let i = c.try_next in
    let g = c.loop-step.invariant in
    let d = rw c.in-End.is at c.in_ok-step.ensures.does in
    record { kept = kept_item g i.ensures.kept; is = is_over g i.ensures.kept d }

pub returns-in_err-step : goal.returns-in_err-step
returns-in_err-step t c =
    let i = c.try_next in
    let g = c.loop-step.invariant in
    let d = c.in_err-step.ensures.does in
    record { kept = kept_item g i.ensures.kept; is = handed (Is _ _ _ _ _ _ _ _ _ _) _ c.from_residual.ensures.1 (is_stopped g d) }
