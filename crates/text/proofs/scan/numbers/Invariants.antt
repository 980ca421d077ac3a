-- `text::scan::numbers` is safe and ends. The list keeps its length.
use Rattle.std.proofs.Common.{◌≡◌, length}
use Rattle.text.proofs.scan.numbers.Given as goal

abbrev pub invariant-loop-number : goal.invariant-loop-number
invariant-loop-number l = (l.n ≡ length l.yielded) × (length l.list ≡ length l.initial.list)
