use Rattle.std.proofs.Common.{take}
use Rattle.text.specs.Text.{items}
use Rattle.text.specs.Page.{Writes}
use Rattle.text.proofs.page.Page.numbers.Given as goal

abbrev pub invariant-loop-i : goal.invariant-loop-i
invariant-loop-i l = Writes l.fn.self l.self (items 0 (take l.i l.numbers))
