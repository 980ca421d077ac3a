-- `abbrev::read_info_item` meets its contract: a number, then what the number says. Assumes nothing.
use mathlib.Core.Path.{refl}
use native.Mathlib.Omega.{arith}
use borrow.Author.Tests.{ne_eqb}
use Rattle.bits.specs.Reader.{stop, when◌then◌else◌}
use Rattle.bits.proofs.Steps.{on, then_off, off, ends, handed}
use Rattle.abbrev.specs.BlockInfo.{info_numbered, info_item}
use Rattle.abbrev.specs.Tables.{InfoDoes}
use Rattle.abbrev.proofs.Infos.{item_does}
use Rattle.abbrev.proofs.read_info_item.Goals as goal

pub returns-in_err-n-clause-does : goal.returns-in_err-n-clause-does
unfolding info_item
returns-in_err-n-clause-does c = handed (InfoDoes _ _ _ c.args.kinds.now c.args.widths.now c.args.have) _ c.from_residual.ensures.1 (off _ c.in_err-n.ensures)

pub returns-in_err-e-in-0-clause-does : goal.returns-in_err-e-in-0-clause-does
unfolding info_item info_numbered when◌then◌else◌
returns-in_err-e-in-0-clause-does c =
    handed (InfoDoes _ _ _ c.args.kinds.now c.args.widths.now c.args.have) _ c.from_residual-in_err-e-in-0.ensures.1
    (then_off _ c.in_ok-n.ensures (rw c.in-0.is (off _ c.in_err-e-in-0.ensures)))

pub returns-in_ok-e-in-0-clause-does : goal.returns-in_ok-e-in-0-clause-does
unfolding info_item info_numbered when◌then◌else◌
returns-in_ok-e-in-0-clause-does c = on _ c.in_ok-n.ensures (rw c.in-0.is (on _ c.in_ok-e-in-0.ensures ends))

pub returns-in-1-clause-does : goal.returns-in-1-clause-does
unfolding info_item info_numbered when◌then◌else◌ stop
returns-in-1-clause-does c = then_off _ c.in_ok-n.ensures (rw c.in-1.is record { why = refl })

pub returns-in-2-clause-does : goal.returns-in-2-clause-does
returns-in-2-clause-does c =
    let d = c.read_info_definition in
    item_does _ _ _ _ _ d.result c.in_ok-n.ensures (rw c.in-2.is d.ensures.does)

pub returns-in_err-now-in-3-clause-does : goal.returns-in_err-now-in-3-clause-does
unfolding info_item info_numbered when◌then◌else◌
returns-in_err-now-in-3-clause-does c =
    handed (InfoDoes _ _ _ c.args.kinds.now c.args.widths.now c.args.have) _ c.from_residual-in_err-now-in-3.ensures.1
    (then_off _ c.in_ok-n.ensures (rw c.in-3.is (off _ c.in_err-now-in-3.ensures)))

pub returns-in_ok-now-in-3-clause-does : goal.returns-in_ok-now-in-3-clause-does
unfolding info_item info_numbered when◌then◌else◌
returns-in_ok-now-in-3-clause-does c = on _ c.in_ok-n.ensures (rw c.in-3.is (on _ c.in_ok-now-in-3.ensures ends))

pub returns-in_default-clause-does : goal.returns-in_default-clause-does
unfolding info_item info_numbered when◌then◌else◌ stop
returns-in_default-clause-does c =
    let n = c.in_ok-n.n in
    then_off _ c.in_ok-n.ensures
    (rw (ne_eqb n 0 (λ h. omega arith), ne_eqb n 1 (λ h. omega arith), ne_eqb n 2 (λ h. omega arith), ne_eqb n 3 (λ h. omega arith)) record { why = refl })
