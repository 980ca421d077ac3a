-- `gleanrime::fits` meets its contract: below 64 the shift loses nothing, and from 64 on every number fits. Assumes nothing.
use mathlib.Core.Path.{sym, ◌∙◌}
use Prim.Native.Nat.{◌^◌}
use native.Mathlib.Omega.{arith}
use lib.Pow.{pow_mono}
use borrow.Author.Tests.{lt-ltb, le-leb}
use Rattle.gleanrime.proofs.fits.Goals as goal

pub returns-then-bits-ge64 : goal.returns-then-bits-ge64
returns-then-bits-ge64 c =
    let h = c.if-bits-ge64.true in
    le-leb _ _ h ∙ sym (lt-ltb c.args.v (2 ^ c.args.bits) (omega (arith, pow_mono {i = 64} h)))
