-- `gleanrime::stream_start` meets its contract: the header that `parse` gives says where the stream begins. Assumes nothing.
use mathlib.Core.Path.{sym, ◌∙◌}
use native.Mathlib.Omega.{arith}
use Rattle.bitcode.proofs.Headers.{parsed_opens}
use Rattle.gleanrime.proofs.Parts.{start_none, start_wrapped, start_plain}
use Rattle.gleanrime.proofs.stream_start.Goals as goal

pub overflow_add-result : goal.overflow_add-result
overflow_add-result c =
    let w = (parsed_opens _ _ (sym c.parse.ensures ∙ c.in-Ok.is)).wraps c.if-h-eq-LLVM_BITCODE_WRAPPER_MAGIC.true in
    omega (arith, w.inside, w.holds)

pub returns-in-Err : goal.returns-in-Err
returns-in-Err c = start_none _ (sym c.parse.ensures ∙ c.in-Err.is)

pub returns-in-Ok : goal.returns-in-Ok
returns-in-Ok c = start_wrapped _ (sym c.parse.ensures ∙ c.in-Ok.is) c.if-h-eq-LLVM_BITCODE_WRAPPER_MAGIC.true

pub returns-in-Ok-2 : goal.returns-in-Ok-2
returns-in-Ok-2 c = start_plain _ (sym c.parse.ensures ∙ c.in-Ok.is) c.if-h-eq-LLVM_BITCODE_WRAPPER_MAGIC.false
