-- `walk::Block::define_local` meets its contract: a definition into the next local row, and 17 behind it where there is no room. Assumes nothing.
use native.Mathlib.Omega.{arith}
use Rattle.abbrev.proofs.Held.{kept_define, kept_shape}
use Rattle.abbrev.proofs.Infos.{defined_in, undefined_in}
use Rattle.walk.proofs.Items.{completed_off, define_off, define_full, define_done, define_went}
use Rattle.walk.proofs.Parts.{stopped_in}
use Rattle.walk.proofs.Block.define_local.Goals as goal

pub returns-in_err-shape : goal.returns-in_err-shape
returns-in_err-shape c =
    let a = c.args in
    let b = a.self.now in
    let p = c.requires in
    let k = c.define_abbrev.ensures.kept in
    let w = c.in_err-shape.ensures.gives in
    let z = rw p.in_range.2 at (undefined_in _ _ _ (omega (arith, p.in_range.1)) (omega (arith, p.in_range.1)) (omega (arith, p.in_range.1)) w) in
    record {
      kept = kept_define k.kinds k.widths;
      does = λ ev ops stands. stopped_in b a.m _ _ _ _ _ _ _ _ _ c.from_residual.ensures.1 (completed_off b _ (define_off _ _ _ _ _ _ z.why));
    }

pub returns-then-m-ge-MAX_LOCAL : goal.returns-then-m-ge-MAX_LOCAL
returns-then-m-ge-MAX_LOCAL c =
    let a = c.args in
    let b = a.self.now in
    let p = c.requires in
    let k = c.define_abbrev.ensures.kept in
    let w = c.in_ok-shape.ensures.gives in
    let z = rw p.in_range.2 at (defined_in _ _ _ (omega (arith, p.in_range.1)) (omega (arith, p.in_range.1)) (omega (arith, p.in_range.1)) w) in
    record {
      kept = kept_define k.kinds k.widths;
      does = λ ev ops stands. completed_off b _ (define_full _ _ _ _ _ _ z.gives c.if-m-ge-MAX_LOCAL.true);
    }

pub returns : goal.returns
returns c =
    let a = c.args in
    let b = a.self.now in
    let p = c.requires in
    let k = c.define_abbrev.ensures.kept in
    let w = c.in_ok-shape.ensures.gives in
    let z = rw p.in_range.2 at (defined_in _ _ _ (omega (arith, p.in_range.1)) (omega (arith, p.in_range.1)) (omega (arith, p.in_range.1)) w) in
    let room = c.if-m-ge-MAX_LOCAL.false in
    record {
      kept = kept_shape _ k.kinds k.widths;
      does = λ ev ops stands.
          define_went b a.m _ ev ops stands _ _ _ _ k.kinds k.widths (omega (arith, room)) (omega (arith, room))
          (define_done _ _ _ _ _ _ z.gives (omega (arith, room)));
    }
