use Rattle.std.proofs.Common.{take}
use Rattle.text.specs.Page.{Writes}
use Rattle.replay.specs.Answer.{behind_commas}
use Rattle.replay.proofs.answer.put_behind_commas.Given as goal

abbrev pub invariant-loop-v : goal.invariant-loop-v
invariant-loop-v l = Writes l.fn.page l.page (behind_commas (take l.v-index l.numbers))
