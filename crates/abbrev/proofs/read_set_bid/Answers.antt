-- `abbrev::read_set_bid` meets its contract: the tests in their order, around one number. Assumes nothing.
use mathlib.Core.Path.{◌≡◌}
use borrow.Author.Rules.{rules}
use borrow.Author.Tests.{eq-eqb, ne_eqb, lt-ltb, le-ltb}
use Rattle.terms.specs.declared.Reason.TheVariants.{InvalidBlockInfoRecord}
use Rattle.bits.proofs.Steps.{on, then_off, off, ends, pass, pass_off, fail, handed_on}
use Rattle.abbrev.specs.BlockInfo.{set_bid}
use Rattle.abbrev.specs.Tables.{of_named}
use Rattle.abbrev.proofs.Infos.{ok_before, err_before}
use Rattle.abbrev.proofs.Records.{readable_at, readable_off}
use Rattle.abbrev.proofs.read_set_bid.Goals as goal

pub returns-then-count-ne1 : goal.returns-then-count-ne1
unfolding set_bid
returns-then-count-ne1 c = fail _ (ne_eqb _ 1 c.if-count-ne1.true)

pub returns-in_err-b : goal.returns-in_err-b
unfolding set_bid
returns-in_err-b c =
    let r = c.read_vbr in
    let q = err_before _ (λ x y. y ≡ InvalidBlockInfoRecord 1) (λ x y k. search rules) r.result c.map_err.ensures.cases c.in_err-b.was in
    handed_on of_named _ _ _ _ _ c.from_residual.ensures.1
    (rw q.2 (pass_off _ _ (eq-eqb _ 1 c.if-count-ne1.false) (off _ (readable_off _ (rw q.1 at r.ensures)))))

pub returns-then-b-ge4294967296 : goal.returns-then-b-ge4294967296
unfolding set_bid
returns-then-b-ge4294967296 c =
    let r = c.read_vbr in
    let o = ok_before _ r.result c.map_err.ensures.cases c.in_ok-b.was in
    pass_off _ _ (eq-eqb _ 1 c.if-count-ne1.false)
    (then_off _ (readable_at _ (rw o at r.ensures)) (fail _ (le-ltb _ 4294967296 c.if-b-ge4294967296.true)))

pub returns : goal.returns
unfolding set_bid
returns c =
    let r = c.read_vbr in
    let o = ok_before _ r.result c.map_err.ensures.cases c.in_ok-b.was in
    pass _ _ (eq-eqb _ 1 c.if-count-ne1.false)
    (on _ (readable_at _ (rw o at r.ensures)) (pass _ _ (lt-ltb _ 4294967296 c.if-b-ge4294967296.false) ends))
