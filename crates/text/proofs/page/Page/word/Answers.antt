-- `text::page::Page::word` meets its contract: the digits are the definition's. Assumes nothing.
use native.Mathlib.Omega.{arith}
use Rattle.text.proofs.Spelling.{word_is}
use Rattle.text.proofs.page.Page.word.Goals as goal

pub returns : goal.returns
returns c = rw (word_is _ _ (omega arith) c.hex-n.ensures.len) at (rw c.hex-n.ensures.digits at c.bytes.ensures)
