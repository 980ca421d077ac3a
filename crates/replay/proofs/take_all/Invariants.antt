-- `replay::take_all` is safe and ends. The line lies in the text, which keeps its length. The measure is how many lines may come.
use Rattle.std.proofs.Common.{◌≡◌, ◌≤◌, length}
use Rattle.std.specs.Prelude.{IfSome}
use Rattle.text.proofs.Left.{lines_from}
use Rattle.replay.proofs.take_all.Given as goal

abbrev pub invariant-loop-next : goal.invariant-loop-next
invariant-loop-next l = IfSome l.next (λ line. (line.start ≤ line.end) × (line.end ≤ length l.text))
    × (length l.text ≡ length l.initial.text)

abbrev pub decreases-loop-next : goal.decreases-loop-next
decreases-loop-next l = lines_from l.next
