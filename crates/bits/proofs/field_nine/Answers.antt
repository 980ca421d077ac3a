-- `bits::field_nine` meets its contract: the word's bits from the place on and the ninth byte's low bits are its two parts. Assumes nothing.
use native.Mathlib.Omega.{arith}
use Prim.Native.Nat.{ℕ}
use Rattle.bits.proofs.Laws.{Bytes, from_nine, field_fits}
use Rattle.bits.proofs.field_nine.Goals as goal

pub returns : goal.returns
returns c =
    let a = c.args in
    let bytes : Bytes a.s.now = λ (i : ℕ). (c.type_inv.s i).fits in
    from_nine a.s.now a.p a.n bytes c.eight_there.ensures c.from.ensures c.low-y.ensures (omega arith) (omega arith)

pub overflow_add-result : goal.overflow_add-result
overflow_add-result c =
    let a = c.args in
    record { fits = field_fits a.s.now a.p a.n (returns c) (omega arith) }
