-- `bitcode::word_at` meets its contract: the four bytes are there, and they are put together as `word` does. Assumes nothing.
use native.Mathlib.Omega.{arith}
use Rattle.bitcode.specs.Header.{word}
use Rattle.bitcode.proofs.word_at.Goals as goal

pub returns : goal.returns
unfolding word
returns c = omega (arith, c.from.ensures, c.from_le_bytes.ensures)
