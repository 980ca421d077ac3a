-- `bits::field_far` meets its contract: it is `field_nine`'s, or the byte's own, or the byte's rest and the shorter field behind it. Assumes nothing.
-- what is asked and learnt at each call, its own calls at a smaller measure
use native.Mathlib.Omega.{arith}
use Prim.Native.Nat.{◌-◌, ◌%◌}
use mathlib.Core.Path.{◌∙◌}
use Rattle.bits.proofs.Laws.{from_byte, rest_of_byte, from_two, field_fits}
use Rattle.bits.proofs.+field_far.Goals as goal

pub returns-then-k-n-le8 : goal.returns-then-k-n-le8
returns-then-k-n-le8 t c =
    let a = c.args in
    from_byte a.s.now a.p a.n (c.from.ensures ∙ c.byte_at.ensures) c.low.ensures c.if-k-n-le8.true

pub returns : goal.returns
returns t c =
    let s = c.args.s.now in
    let byte = c.from.ensures ∙ c.byte_at.ensures in
    from_two s c.args.p c.args.n (8 - c.args.p % 8) (rest_of_byte s c.args.p byte (omega (arith, c.from.ensures, c.byte_at.type_inv))) c.field_far-rest.ensures (omega arith) c.requires.1

pub overflow_add-result : goal.overflow_add-result
overflow_add-result t c =
    record { fits = field_fits c.args.s.now c.args.p c.args.n (returns t c) c.requires.1 }
