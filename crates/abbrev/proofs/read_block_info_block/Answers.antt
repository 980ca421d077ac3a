-- `abbrev::read_block_info_block` meets its contract: the items, where the tests say that the tables have all shared rows. Assumes nothing.
use mathlib.Core.Logic.{⊎_elim}
use native.Mathlib.Omega.{arith}
use Rattle.abbrev.specs.Tables.{tables}
use Rattle.abbrev.proofs.Infos.{info_unfit, info_is}
use Rattle.abbrev.proofs.read_block_info_block.Goals as goal

pub returns-then-shared-gt-MAX_SHARED-clause-is : goal.returns-then-shared-gt-MAX_SHARED-clause-is
returns-then-shared-gt-MAX_SHARED-clause-is c = rw c.at.ensures (info_unfit _ _ _ _ _ _ (λ h i j k l. omega arith))

pub returns-then-kinds-lt-SHARED_SLOTS-clause-is : goal.returns-then-kinds-lt-SHARED_SLOTS-clause-is
returns-then-kinds-lt-SHARED_SLOTS-clause-is c =
    rw c.at-then-kinds-lt-SHARED_SLOTS.ensures (info_unfit _ _ _ _ _ _ (λ h i j k l. ⊎_elim (λ w. omega arith) (λ w. omega arith) c.then-kinds-lt-SHARED_SLOTS.either))

pub returns-then-shapes-lt-MAX_SHARED-clause-is : goal.returns-then-shapes-lt-MAX_SHARED-clause-is
returns-then-shapes-lt-MAX_SHARED-clause-is c =
    rw c.at-then-shapes-lt-MAX_SHARED.ensures (info_unfit _ _ _ _ _ _ (λ h i j k l. ⊎_elim (λ w. omega arith) (λ w. omega arith) c.then-shapes-lt-MAX_SHARED.either))

pub returns-clause-is : goal.returns-clause-is
returns-clause-is c =
    let a = c.args in
    let i = c.read_info_items in
    let t = tables a.kinds.now a.widths.now a.shapes.now a.owners.now in
    let t' = tables i.new.kinds i.new.widths i.new.shapes i.new.owners in
    info_is _ t _ _ _ t' i.result c.if-shared-gt-MAX_SHARED.false c.if-kinds-lt-SHARED_SLOTS.false c.if-widths-lt-SHARED_SLOTS.false c.if-shapes-lt-MAX_SHARED.false c.if-owners-lt-MAX_SHARED.false i.ensures.is
