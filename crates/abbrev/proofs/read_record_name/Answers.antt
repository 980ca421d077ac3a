-- `abbrev::read_record_name` meets its contract: the code that the name is for, then its letters. Assumes nothing.
use mathlib.Core.Path.{◌≡◌}
use native.Mathlib.Omega.{arith}
use borrow.Author.Rules.{rules}
use borrow.Author.Tests.{lt-ltb, le-ltb}
use Rattle.terms.specs.declared.Reason.TheVariants.{InvalidBlockInfoRecord}
use Rattle.bits.proofs.Steps.{on, then_off, off, ends, pass, pass_off, fail, handed_on}
use Rattle.abbrev.specs.BlockInfo.{record_name}
use Rattle.abbrev.specs.Tables.{of_named}
use Rattle.abbrev.proofs.Infos.{ok_before, err_before}
use Rattle.abbrev.proofs.Records.{choice_at, choice_off, readable_at, readable_off}
use Rattle.abbrev.proofs.read_record_name.Goals as goal

pub returns-in_err-ok_or : goal.returns-in_err-ok_or
unfolding record_name
returns-in_err-ok_or c =
    let a = c.args in
    handed_on of_named _ _ _ _ _ c.from_residual.ensures.1 (off _ (choice_off a.c a.chosen c.in_err-ok_or.ensures.value))

pub returns-then-count-eq0 : goal.returns-then-count-eq0
unfolding record_name
returns-then-count-eq0 c =
    let a = c.args in
    then_off _ (choice_at a.c a.chosen c.in_ok-ok_or.ensures.value) (fail _ (le-ltb 0 a.count (omega arith)))

pub returns-in_err-d : goal.returns-in_err-d
unfolding record_name
returns-in_err-d c =
    let a = c.args in
    let r = c.read_vbr in
    let q = err_before _ (λ x y. y ≡ InvalidBlockInfoRecord 3) (λ x y k. search rules) r.result c.map_err.ensures.cases c.in_err-d.was in
    handed_on of_named _ _ _ _ _ c.from_residual-in_err-d.ensures.1
    (rw q.2 (then_off _ (choice_at a.c a.chosen c.in_ok-ok_or.ensures.value)
    (pass_off _ _ (lt-ltb 0 a.count (omega arith)) (off _ (readable_off _ (rw q.1 at r.ensures))))))

pub returns-in_err-e : goal.returns-in_err-e
unfolding record_name
returns-in_err-e c =
    let a = c.args in
    let r = c.read_vbr in
    let o = ok_before _ r.result c.map_err.ensures.cases c.in_ok-d.was in
    handed_on of_named _ _ _ _ _ c.from_residual-in_err-e.ensures.1
    (then_off _ (choice_at a.c a.chosen c.in_ok-ok_or.ensures.value)
    (pass_off _ _ (lt-ltb 0 a.count (omega arith)) (then_off _ (readable_at _ (rw o at r.ensures)) (off _ c.in_err-e.ensures))))

pub returns : goal.returns
unfolding record_name
returns c =
    let a = c.args in
    let r = c.read_vbr in
    let o = ok_before _ r.result c.map_err.ensures.cases c.in_ok-d.was in
    on _ (choice_at a.c a.chosen c.in_ok-ok_or.ensures.value)
    (pass _ _ (lt-ltb 0 a.count (omega arith)) (on _ (readable_at _ (rw o at r.ensures)) (on _ c.in_ok-e.ensures ends)))
