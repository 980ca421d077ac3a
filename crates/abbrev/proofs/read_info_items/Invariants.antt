use Prim.Native.Nat.{◌-◌}
use Rattle.bits.specs.Bits.{limit}
use Rattle.abbrev.specs.Tables.{tables, of_chosen}
use Rattle.abbrev.proofs.Infos.{Going}
use Rattle.abbrev.proofs.read_info_items.Given as goal

abbrev pub invariant-loop-item : goal.invariant-loop-item
invariant-loop-item l = Going l.s l.width l.shared (tables l.initial.kinds l.initial.widths l.initial.shapes l.initial.owners) l.initial.c l.c (tables l.kinds l.widths l.shapes l.owners) (of_chosen l.chosen) l.have

abbrev pub decreases-loop-item : goal.decreases-loop-item
decreases-loop-item l = limit l.s l.c.end - l.c.at
