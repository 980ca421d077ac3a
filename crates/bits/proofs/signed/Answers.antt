-- `bits::signed` meets its contract: a half is below 2 to the 63, so that it and its negation fit; the cases are the definition's. Assumes nothing.
use Prim.Native.Nat.{◌/◌}
use mathlib.Core.Path.{sym, ◌∙◌}
use mir.Syntax.{w64}
use mir.ValLaws.{to_z_pos}
use native.Mathlib.Omega.{arith}
use Rattle.bits.proofs.Negation.{back, signed_even, signed_one, signed_odd}
use Rattle.bits.proofs.signed.Goals as goal

pub returns-then-v-eq0 : goal.returns-then-v-eq0
returns-then-v-eq0 c = to_z_pos w64 _ (omega arith) ∙ sym (signed_even _ c.if-v-eq0.true)

pub returns-then-v-eq1 : goal.returns-then-v-eq1
returns-then-v-eq1 c = sym (signed_one _ c.if-v-eq1.true)

pub returns : goal.returns
returns c = back (c.args.v / 2) (omega arith) ∙ sym (signed_odd _ c.if-v-eq0.false c.if-v-eq1.false)
