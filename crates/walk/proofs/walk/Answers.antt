-- `walk::walk` meets its contract: 15, then 1, then the stream's walk, and the stores filled with zeros. Assumes nothing.
use mathlib.Core.Path.{refl, sym, ◌∙◌}
use native.Mathlib.Omega.{arith}
use Rattle.walk.proofs.Outer.{too_long, unheaded, headed_on, refused_so, meets_denied, meets_accepted}
use Rattle.walk.proofs.walk.Goals as goal

pub returns-then-input-gt-MAX_INPUT : goal.returns-then-input-gt-MAX_INPUT
returns-then-input-gt-MAX_INPUT c =
    let a = c.args in
    let r = c.at in
    let o = too_long a.input.now a.skip.now _ _ c.if-input-gt-MAX_INPUT.true in
    let z = meets_denied a.input.now a.skip.now _ _ r.result refl refl r.ensures o c.deny.ensures in
    record { answer = z.0; events = z.1.0; operands = z.1.1 }

pub returns-in-Err : goal.returns-in-Err
returns-in-Err c =
    let a = c.args in
    let r = c.at-in-Err in
    let p = sym c.in-Err.is ∙ c.parse.ensures in
    let i = c.if-input-gt-MAX_INPUT.false in
    let o = unheaded a.input.now a.skip.now _ _ (omega (arith, i)) p in
    let z = meets_denied a.input.now a.skip.now _ _ r.result refl refl r.ensures o c.deny-in-Err.ensures in
    record { answer = z.0; events = z.1.0; operands = z.1.1 }

pub returns-in-Err-walk_stream : goal.returns-in-Err-walk_stream
returns-in-Err-walk_stream c =
    let w = c.walk_stream in
    let i = c.if-input-gt-MAX_INPUT.false in
    let a = c.args in
    let o = headed_on a.input.now a.skip.now _ _ (omega (arith, i)) (sym c.in-Ok.is ∙ c.parse.ensures) c.stream.ensures in
    let z = meets_denied a.input.now a.skip.now _ _ c.in-Err-walk_stream.refused w.auto.events w.auto.operands refl
    (refused_so _ o (rw c.in-Err-walk_stream.is at w.ensures)) c.deny-in-Err-walk_stream.ensures in
    record { answer = z.0; events = z.1.0; operands = z.1.1 }

pub returns-in-Ok-walk_stream : goal.returns-in-Ok-walk_stream
returns-in-Ok-walk_stream c =
    let w = c.walk_stream in
    let i = c.if-input-gt-MAX_INPUT.false in
    let a = c.args in
    let o = headed_on a.input.now a.skip.now _ _ (omega (arith, i)) (sym c.in-Ok.is ∙ c.parse.ensures) c.stream.ensures in
    let z = meets_accepted a.input.now a.skip.now a.events.now a.operands.now c.in-Ok-walk_stream.m o
    (rw c.in-Ok-walk_stream.is at w.ensures) w.auto.events w.auto.operands c.accept.ensures in
    record { answer = z.0; events = z.1.0; operands = z.1.1 }
