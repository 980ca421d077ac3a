-- `bitcode::Signature::stream` meets its contract: the header that `parse` gives says where the definition's stream lies in the input. Assumes nothing.
use native.Mathlib.Omega.{arith}
use mathlib.Core.Path.{sym, ◌∙◌}
use Rattle.bitcode.proofs.Headers.{parsed_none, parsed_opens, rest_of}
use Rattle.bitcode.proofs.Signature.stream.Goals as goal

pub inner-requires : goal.inner-requires
inner-requires c =
    let w = (parsed_opens _ _ (sym c.parse.ensures ∙ c.in-Ok.is)).wraps c.if-h-eq-LLVM_BITCODE_WRAPPER_MAGIC.true in
    (w.inside, w.holds)

pub returns-then-h-eq-LLVM_BITCODE_WRAPPER_MAGIC : goal.returns-then-h-eq-LLVM_BITCODE_WRAPPER_MAGIC
returns-then-h-eq-LLVM_BITCODE_WRAPPER_MAGIC c =
    let w = (parsed_opens _ _ (sym c.parse.ensures ∙ c.in-Ok.is)).wraps c.if-h-eq-LLVM_BITCODE_WRAPPER_MAGIC.true in
    c.inner.ensures ∙ sym w.behind

pub slice_bounds-result-count-in-Ok : goal.slice_bounds-result-count-in-Ok
slice_bounds-result-count-in-Ok c = (parsed_opens _ _ (sym c.parse.ensures ∙ c.in-Ok.is)).some

pub slice_bounds-result-start-in-Ok : goal.slice_bounds-result-start-in-Ok
slice_bounds-result-start-in-Ok c =
    let o = parsed_opens _ _ (sym c.parse.ensures ∙ c.in-Ok.is) in
    omega (arith, o.some)

pub returns-in-Err : goal.returns-in-Err
returns-in-Err c = sym (parsed_none _ _ (sym c.parse.ensures ∙ c.in-Err.is))

pub returns-else-h-eq-LLVM_BITCODE_WRAPPER_MAGIC : goal.returns-else-h-eq-LLVM_BITCODE_WRAPPER_MAGIC
returns-else-h-eq-LLVM_BITCODE_WRAPPER_MAGIC c =
    let o = parsed_opens _ _ (sym c.parse.ensures ∙ c.in-Ok.is) in
    rest_of 4 c.args.input.now ∙ sym (o.plain c.if-h-eq-LLVM_BITCODE_WRAPPER_MAGIC.false)
