-- `text::page::Page::decimal` meets its contract: the digits are the definition's. Assumes nothing.
use native.Mathlib.Omega.{arith}
use Rattle.text.proofs.Spelling.{decimal_is}
use Rattle.text.proofs.page.Page.decimal.Goals as goal

pub returns : goal.returns
returns c = rw (decimal_is _ _ (omega arith) c.decimal-n.ensures.len) at (rw c.decimal-n.ensures.digits at c.bytes.ensures)
