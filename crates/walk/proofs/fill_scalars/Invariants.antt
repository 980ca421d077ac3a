use mathlib.Core.List.{◌∷◌}
use Rattle.walk.proofs.Runs.{Taking}
use Rattle.walk.proofs.fill_scalars.Given as goal

abbrev pub invariant-loop-i : goal.invariant-loop-i
invariant-loop-i l =
    Taking l.s l.initial.c l.tables.kinds l.tables.widths l.base l.count (l.initial.code ∷ l.initial.rest) (l.code ∷ l.rest) l.c l.i
