-- `replay::answer::put_behind_commas` meets its contract: what is written so far is the text of the numbers so far. Assumes nothing.
use native.Mathlib.Omega.{arith}
use Rattle.text.specs.Dump.{codes, named}
use Rattle.text.proofs.Pages.{writes_none, writes_more}
use Rattle.replay.specs.Answer.{behind_commas}
use Rattle.replay.proofs.Answers.{commas_text}
use Rattle.replay.proofs.answer.put_behind_commas.Goals as goal

pub loop-v-init : goal.loop-v-init
unfolding behind_commas
loop-v-init c = writes_none _

pub loop-v-preserved : goal.loop-v-preserved
unfolding codes named
loop-v-preserved c = writes_more commas_text _ c.loop-v.v-index (omega arith) c.loop-v.invariant c.named.ensures
