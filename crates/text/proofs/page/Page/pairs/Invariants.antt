use Rattle.std.proofs.Common.{take}
use Rattle.text.specs.Text.{pairs}
use Rattle.text.specs.Page.{Writes}
use Rattle.text.proofs.page.Page.pairs.Given as goal

abbrev pub invariant-loop-b : goal.invariant-loop-b
invariant-loop-b l = Writes l.fn.self l.self (pairs (take l.b-index l.s))
