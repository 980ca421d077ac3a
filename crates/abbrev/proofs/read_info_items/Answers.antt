-- `abbrev::read_info_items` meets its contract: what the items so far added stands in the tables, in front of what those from here on add, and each item leaves fewer bits. Assumes nothing.
use mathlib.Core.Path.{◌≡◌, ◌∙◌, ap, sym}
use native.Mathlib.Omega.{arith}
use borrow.Author.Rules.{rules}
use Rattle.terms.specs.Refusals.{no_of, refusal_of, at_bit}
use Rattle.bits.specs.Reader.{refused}
use Rattle.bits.proofs.Steps.{handed}
use Rattle.abbrev.specs.Tables.{tables, info_all, InfoIs}
use Rattle.abbrev.proofs.Infos.{ok_before, err_before, going_start, going_kept, going_refused, going_less, going_end, going_now, going_adds}
use Rattle.abbrev.proofs.read_info_items.Goals as goal

pub loop-item-init : goal.loop-item-init
loop-item-init c = going_start _ _ _ _ _ c.requires.slots.0

pub returns-in_err-item-clause-kept : goal.returns-in_err-item-clause-kept
returns-in_err-item-clause-kept c = going_kept c.loop-item.invariant c.read_info_item.ensures.kept

pub returns-in_err-item-clause-is : goal.returns-in_err-item-clause-is
returns-in_err-item-clause-is c =
    let a = c.args in
    let l = c.loop-item in
    let i = c.read_info_item in
    let t = tables a.kinds.now a.widths.now a.shapes.now a.owners.now in
    let q = err_before _ (λ x y. refusal_of y ≡ at_bit l.c.at (no_of x)) (λ x y k. search rules) i.result c.map_err.ensures.cases c.in_err-item.was in
    handed (InfoIs a.c a.s.now (info_all a.width a.shared) a.shared t (tables i.new.kinds i.new.widths l.shapes l.owners)) _ c.from_residual.ensures.1
    (going_refused l.invariant (rw q.1 at i.ensures.does) ∙ ap refused (sym q.2))

pub returns-in-End-clause-kept : goal.returns-in-End-clause-kept
returns-in-End-clause-kept c = going_kept c.loop-item.invariant c.read_info_item.ensures.kept

pub returns-in-End-clause-is : goal.returns-in-End-clause-is
returns-in-End-clause-is c =
    let i = c.read_info_item in
    let o = ok_before _ i.result c.map_err.ensures.cases c.in_ok-item.was in
    going_end c.loop-item.invariant i.ensures.kept (rw (o, c.in-End.is) at i.ensures.does)

pub loop-item-smaller-in-Adds : goal.loop-item-smaller-in-Adds
loop-item-smaller-in-Adds c =
    let i = c.read_info_item in
    let o = ok_before _ i.result c.map_err.ensures.cases c.in_ok-item.was in
    going_less c.loop-item.invariant (rw (o, c.in-Adds.is) at i.ensures.does).0

pub loop-item-preserved-in-Adds : goal.loop-item-preserved-in-Adds
loop-item-preserved-in-Adds c =
    let i = c.read_info_item in
    let g = c.loop-item.invariant in
    let p = c.requires.rows in
    let o = ok_before _ i.result c.map_err.ensures.cases c.in_ok-item.was in
    let d = rw (o, c.in-Adds.is) at i.ensures.does in
    going_adds g i.ensures.kept _ (omega (arith, g.kept.many_shapes, p.0, d.1)) (omega (arith, g.kept.many_owners, p.1, d.1)) d.1 d.0

pub loop-item-smaller : goal.loop-item-smaller
loop-item-smaller c =
    let i = c.read_info_item in
    let o = ok_before _ i.result c.map_err.ensures.cases c.in_ok-item.was in
    going_less c.loop-item.invariant (rw (o, c.in-Now.is) at i.ensures.does)

pub loop-item-preserved : goal.loop-item-preserved
loop-item-preserved c =
    let i = c.read_info_item in
    let o = ok_before _ i.result c.map_err.ensures.cases c.in_ok-item.was in
    going_now c.loop-item.invariant i.ensures.kept (rw (o, c.in-Now.is) at i.ensures.does)
