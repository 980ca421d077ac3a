-- `walk::deny` meets its contract: both stores are cleared from 0 on. Assumes nothing.
use mathlib.Core.Path.{refl}
use Rattle.walk.specs.Walk.{filled}
use Rattle.walk.proofs.deny.Goals as goal

pub returns : goal.returns
unfolding filled
returns c = (refl, c.clear.ensures, c.clear-2.ensures)
