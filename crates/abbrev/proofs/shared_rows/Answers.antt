-- `abbrev::shared_rows` meets its contract: the rows picked so far stand in front of the store, and each turn leaves one row fewer to see. Assumes nothing.
use mathlib.Core.Path.{◌∙◌, sym}
use native.Mathlib.Omega.{arith}
use borrow.Author.Tests.{eqb-true, eqb-false}
use Prim.Native.Nat.{ℕ, ◌<◌}
use lib.ListN.{length-take}
use lib.Seq.{get_or-take}
use Rattle.abbrev.proofs.Held.{picking_more, picking_less, picking_end, picking_full}
use Rattle.abbrev.proofs.shared_rows.Goals as goal
use Rattle.abbrev.proofs.shared_rows.Goals.{then-eq, else-eq}

pub returns-then-rows-k : goal.returns-then-rows-k
returns-then-rows-k c =
    let p = picking_full c.loop-j.invariant c.args.shared (omega arith) (omega arith) in
    record { many = p.0; stored = p.1 }

pub loop-j-preserved : goal.loop-j-preserved
loop-j-preserved c =
    let p = c.loop-j.invariant in
    let h : c.loop-j.j < c.min-many.result = omega (arith, length-take {A = ℕ}) in
    let e = sym (get_or-take c.min-many.result c.args.owners.now c.loop-j.j 0 h) in
    elim c.if-eq.branch [
      | then-eq w ↦ rw (w.rows-is, w.k-is) (picking_more p h (omega arith) (e ∙ eqb-true _ _ (sym c.eq.ensures ∙ w.if-eq.true)))
      | else-eq w ↦ rw (w.rows-is, w.k-is) (picking_less p h (λ i. eqb-false _ _ (sym c.eq.ensures ∙ w.if-eq.false) (sym e ∙ i)))
    ]

pub returns : goal.returns
returns c =
    let p = picking_end c.loop-j.invariant c.args.shared (omega arith) (omega (arith, length-take {A = ℕ})) in
    record { many = p.0; stored = p.1 }
