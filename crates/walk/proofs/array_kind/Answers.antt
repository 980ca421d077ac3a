-- `walk::array_kind` meets its contract: 2 for an array of Char6, 1 for any other. Assumes nothing.
use mathlib.Core.Path.{sym}
use Rattle.walk.specs.Record.{array_kind}
use Rattle.walk.proofs.Records.{list_kind}
use Rattle.walk.proofs.array_kind.Goals as goal

pub returns-in-Char6 : goal.returns-in-Char6
unfolding array_kind
returns-in-Char6 c = rw c.in-Char6.is

pub returns-in_default : goal.returns-in_default
returns-in_default c = sym (list_kind _ c.in_default.not-Char6)
