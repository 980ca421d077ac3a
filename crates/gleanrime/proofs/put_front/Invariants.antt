use Prim.Native.Nat.{◌≤◌}
use mathlib.Core.Path.{◌≡◌}
use lib.ListN.{length}
use Rattle.gleanrime.proofs.Front.{so_far}
use Rattle.gleanrime.proofs.put_front.Given as goal

abbrev pub invariant-loop-i : goal.invariant-loop-i
invariant-loop-i l = (l.i ≤ length l.from) × (l.i ≤ length l.initial.to) × (l.to ≡ so_far l.i l.from l.initial.to)
