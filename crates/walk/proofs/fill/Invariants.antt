use Rattle.std.proofs.Common.{◌≡◌, ℕ, List, min, length}
use Rattle.bitcode.specs.declared.ScalarOperand.{ScalarOperand}
use Rattle.walk.specs.Promises.{ReadsEach}
use Rattle.walk.proofs.Runs.{Filling}
use Rattle.walk.proofs.fill.Given as goal

abbrev pub invariant-loop-i : goal.invariant-loop-i
invariant-loop-i g l =
    ((s : List ℕ) (k : ScalarOperand) → ReadsEach (goal.F-post g l.next) s k → Filling s l.initial.c k l.count l.initial.rest l.rest l.c l.i)
    × (l.n ≡ min l.count (length l.initial.rest)) × (length l.rest ≡ length l.initial.rest)
