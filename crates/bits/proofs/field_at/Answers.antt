-- `bits::field_at` meets its contract: the eight bytes are the 64 bits from a byte on, and the field is a part of them; else it is `field_far`'s, of the whole slice lent anew. Assumes nothing.
use Prim.Native.Nat.{ℕ}
use Rattle.bits.proofs.Laws.{from_word}
use Rattle.bits.proofs.field_at.Goals as goal

pub returns-then-k-n-le64 : goal.returns-then-k-n-le64
returns-then-k-n-le64 c =
    let a = c.args in
    from_word a.s.now a.p a.n (λ (i : ℕ). (c.type_inv.s i).fits) c.eight_there.ensures c.low.ensures c.if-k-n-le64.true
