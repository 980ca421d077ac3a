use Rattle.bits.proofs.Vbr.{Going}
use Rattle.bits.specs.Bits.{limit}
use Prim.Native.Nat.{◌-◌}
use Rattle.bits.proofs.Cursor.read_vbr.Given as goal

abbrev pub invariant-loop-e : goal.invariant-loop-e
invariant-loop-e l = Going l.s l.w l.initial.c l.c l.shift l.sum

abbrev pub decreases-loop-e : goal.decreases-loop-e
decreases-loop-e l = limit l.s l.c.end - l.c.at
