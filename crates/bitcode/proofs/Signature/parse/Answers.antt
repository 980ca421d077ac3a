-- `bitcode::Signature::parse` meets its contract: the length and the magic settle the tests of `signature`, and the wrapper's case is `wrapped`'s. Assumes nothing.
use native.Mathlib.Omega.{arith}
use mathlib.Core.Path.{sym, ◌∙◌}
use Rattle.bitcode.proofs.Headers.{signature_short, signature_wrapped, signature_plain}
use Rattle.bitcode.specs.Header.{parsed}
use Rattle.bitcode.proofs.Signature.parse.Goals as goal

pub returns-then-input-lt4 : goal.returns-then-input-lt4
unfolding parsed
returns-then-input-lt4 c = rw (signature_short _ c.if-input-lt4.true)

pub returns-then-magic-eq-LLVM_BITCODE_WRAPPER_MAGIC : goal.returns-then-magic-eq-LLVM_BITCODE_WRAPPER_MAGIC
unfolding parsed
returns-then-magic-eq-LLVM_BITCODE_WRAPPER_MAGIC c = rw (signature_wrapped c.args.input.now c.if-input-lt4.false (sym c.word_at-magic.ensures.0 ∙ c.if-magic-eq-LLVM_BITCODE_WRAPPER_MAGIC.true)) c.wrapped.ensures

pub returns : goal.returns
unfolding parsed
returns c = rw (signature_plain c.args.input.now (omega arith) (omega arith)) (cc)
