-- `walk::Block::record_abbreviated` meets its contract: lookup, a record by its abbreviation, then its event. Assumes nothing.
use native.Mathlib.Omega.{arith}
use mathlib.Core.Path.{sym, ap, ◌∙◌}
use Rattle.terms.specs.Refusals.{at_bit, no_of}
use Rattle.bits.specs.Reader.{refused}
use Rattle.abbrev.specs.Tables.{row_of, row_at}
use Rattle.abbrev.proofs.Held.{row_lost}
use Rattle.walk.specs.Promises.{held}
use Rattle.walk.proofs.Items.{told_off, told_record, use_lost, use_found}
use Rattle.walk.proofs.Parts.{row_used, stopped_in}
use Rattle.walk.proofs.Block.record_abbreviated.Goals as goal

pub returns-in_err-row : goal.returns-in_err-row
returns-in_err-row c =
    let a = c.args in
    let b = a.self.now in
    let p = c.requires in
    let w = row_lost b.frame.number a.n (row_at b.own.now b.frame.base a.m.local a.n) (sym c.in_err-row.was ∙ c.look_up.ensures) in
    λ stands. stopped_in b a.m _ _ _ _ _ _ _ _ _ c.from_residual.ensures.1
    (use_lost b a.m (held a.tables.now) a.events.now a.operands.now p.stands.0 a.d a.n p.stands.2 w.0
    ∙ ap (λ why. refused (at_bit a.m.at (no_of why))) (sym w.1))

pub offset_bounds-tables-row : goal.offset_bounds-tables-row
offset_bounds-tables-row c =
    let a = c.args in
    let b = a.self.now in
    let p = c.requires in
    let w = row_used b a.m a.events.now a.operands.now a.n p.stands.0 (sym c.in_ok-row.was ∙ c.look_up.ensures) in
    record { fits = omega (arith, w.1) }

pub bounds-tables-row : goal.bounds-tables-row
bounds-tables-row c =
    let a = c.args in
    let b = a.self.now in
    let p = c.requires in
    let w = row_used b a.m a.events.now a.operands.now a.n p.stands.0 (sym c.in_ok-row.was ∙ c.look_up.ensures) in
    omega (arith, w.1)

pub overflow_mul-row : goal.overflow_mul-row
overflow_mul-row c =
    let a = c.args in
    let b = a.self.now in
    let p = c.requires in
    let w = row_used b a.m a.events.now a.operands.now a.n p.stands.0 (sym c.in_ok-row.was ∙ c.look_up.ensures) in
    record { fits = omega (arith, w.1) }

pub read_abbreviated-requires : goal.read_abbreviated-requires
read_abbreviated-requires c =
    let a = c.args in
    let b = a.self.now in
    let p = c.requires in
    let w = row_used b a.m a.events.now a.operands.now a.n p.stands.0 (sym c.in_ok-row.was ∙ c.look_up.ensures) in
    (omega (arith, w.1), p.stands.0.0.operands)

pub returns-in_err-r : goal.returns-in_err-r
unfolding row_of
returns-in_err-r c =
    let a = c.args in
    let b = a.self.now in
    let p = c.requires in
    let w = row_used b a.m a.events.now a.operands.now a.n p.stands.0 (sym c.in_ok-row.was ∙ c.look_up.ensures) in
    let t = held a.tables.now in
    λ stands. stopped_in b a.m _ _ _ _ _ _ _ _ _ c.from_residual-in_err-r.ensures.1
    (told_off b a.m t a.events.now a.operands.now p.stands.0 a.d _
    (use_found b a.m t a.events.now a.operands.now p.stands.0 a.d a.n p.stands.2 w.0) p.stands.1 c.in_err-r.ensures)

pub returns : goal.returns
unfolding row_of
returns c =
    let a = c.args in
    let b = a.self.now in
    let p = c.requires in
    let w = row_used b a.m a.events.now a.operands.now a.n p.stands.0 (sym c.in_ok-row.was ∙ c.look_up.ensures) in
    let t = held a.tables.now in
    λ stands. told_record b a.m t a.events.now a.operands.now p.stands.0 a.d _
    (use_found b a.m t a.events.now a.operands.now p.stands.0 a.d a.n p.stands.2 w.0) p.stands.1
    _ _ _ _ c.in_ok-r.ensures c.tell_record.auto.events c.read_abbreviated.auto.operands c.tell_record.result c.tell_record.ensures
