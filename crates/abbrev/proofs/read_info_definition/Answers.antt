-- `abbrev::read_info_definition` meets its contract: a definition behind the choice of a block, and room for it. Assumes nothing.
use Rattle.bits.proofs.Steps.{handed}
use Rattle.abbrev.specs.Tables.{InfoDoes}
use Rattle.abbrev.proofs.Infos.{defined_shared, undefined_shared, definition_unchosen, definition_off, definition_full, definition_adds}
use Rattle.abbrev.proofs.Records.{choice_at, choice_off}
use Rattle.abbrev.proofs.read_info_definition.Goals as goal

pub returns-in_err-block-clause-does : goal.returns-in_err-block-clause-does
returns-in_err-block-clause-does c =
    let a = c.args in
    handed (InfoDoes _ _ _ a.kinds.now a.widths.now a.have) _ c.from_residual.ensures.1
    (definition_unchosen _ _ (choice_off a.c a.chosen c.in_err-block.ensures.value))

pub returns-in_err-shape-clause-does : goal.returns-in_err-shape-clause-does
returns-in_err-shape-clause-does c =
    let a = c.args in
    let n = c.define_abbrev.new in
    handed (InfoDoes _ _ _ n.kinds n.widths a.have) _ c.from_residual-in_err-shape.ensures.1
    (definition_off _ _ (choice_at a.c a.chosen c.in_ok-block.ensures.value) (undefined_shared _ c.requires c.in_err-shape.ensures.gives))

pub returns-then-have-ge-MAX_SHARED-clause-does : goal.returns-then-have-ge-MAX_SHARED-clause-does
returns-then-have-ge-MAX_SHARED-clause-does c =
    let a = c.args in
    definition_full _ _ (choice_at a.c a.chosen c.in_ok-block.ensures.value)
    (defined_shared _ c.requires c.in_ok-shape.ensures.gives) c.if-have-ge-MAX_SHARED.true

pub returns-clause-does : goal.returns-clause-does
returns-clause-does c =
    let a = c.args in
    let l = c.if-have-ge-MAX_SHARED.false in
    (definition_adds _ _ (choice_at a.c a.chosen c.in_ok-block.ensures.value) (defined_shared _ c.requires c.in_ok-shape.ensures.gives) l, l)
