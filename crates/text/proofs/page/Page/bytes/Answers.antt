use native.Mathlib.Omega.{arith}
use Rattle.text.proofs.Runs.{bytes_text}
use Rattle.text.proofs.Pages.{writes_more}
use Rattle.text.proofs.page.Page.bytes.Goals as goal

pub loop-b-preserved : goal.loop-b-preserved
loop-b-preserved c = writes_more bytes_text _ c.loop-b.b-index (omega arith) c.loop-b.invariant c.byte.ensures
