-- `walk::read_body_length` meets its contract: a body's length, and that the body lies within its parent. Assumes nothing.
use native.Mathlib.Omega.{arith}
use Prim.Native.Nat.{◌+◌, ◌*◌, ◌≤◌}
use mathlib.Core.Path.{sym}
use Rattle.bits.specs.Bits.{limit, bits_left}
use Rattle.bits.proofs.Steps.{on, off, then_off, ends, from_here, off_here, handed}
use Rattle.bits.proofs.Vbr.{read_ahead}
use Rattle.walk.specs.Promises.{head_length, Heads}
use Rattle.walk.proofs.Records.{fits_at, fits_off}
use Rattle.walk.proofs.read_body_length.Goals as goal

pub returns-in_err-n : goal.returns-in_err-n
unfolding head_length
returns-in_err-n c = handed (Heads _ _ _) _ c.from_residual.ensures.1 (off _ c.in_err-n.ensures)

pub returns-then-unconsumed_bit_len-n : goal.returns-then-unconsumed_bit_len-n
unfolding head_length bits_left
returns-then-unconsumed_bit_len-n c =
    then_off _ c.in_ok-n.ensures (off_here _ (off _ (fits_off _ _ _ _ (omega (arith, c.unconsumed_bit_len.ensures, c.if-unconsumed_bit_len-n.true)))))

pub returns : goal.returns
unfolding head_length bits_left
returns c =
    let x = c.in_ok-n.ensures in
    let a = read_ahead _ _ _ _ _ _ x.gives in
    let i = rw (sym x.ends) at a.inside in
    let d = c.in_ok-n.d in
    let n = c.in_ok-n.n in
    let fact : d.at + 8 * (4 * n) ≤ limit c.args.s.now d.end = omega (arith, i, c.unconsumed_bit_len.ensures, c.if-unconsumed_bit_len-n.false) in
    (on _ x (from_here _ (on _ (fits_at _ _ _ _ fact) ends)), rw x.ends at fact)
