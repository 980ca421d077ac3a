-- `walk::accept` meets its contract: each store holds what it held up to its mark, and zeros behind it. Assumes nothing.
use mathlib.Core.Path.{refl}
use Rattle.walk.proofs.accept.Goals as goal

pub returns : goal.returns
returns c = (refl, c.clear.ensures, c.clear-2.ensures)
