-- `walk::Block::read_info` meets its contract: BLOCKINFO adds to the shared rows and gives no event. Assumes nothing.
use native.Mathlib.Omega.{arith}
use Rattle.abbrev.proofs.Held.{kept_less}
use Rattle.walk.proofs.Items.{info_refused, info_added}
use Rattle.walk.proofs.Parts.{stopped}
use Rattle.walk.proofs.Block.read_info.Goals as goal

pub returns-in_err-shared : goal.returns-in_err-shared
returns-in_err-shared c =
    let a = c.args in
    let b = a.self.now in
    let p = c.requires in
    let r = c.read_block_info_block in
    let z = c.in_err-shared.ensures in
    record {
      kept = kept_less (omega arith) (omega (arith, p.in_range.1)) r.ensures.kept;
      does = λ ev ops stands.
          stopped b a.m _ _ _ _ _ _ _ _ _ c.from_residual.ensures.1 (info_refused b a.m _ ev ops stands a.head.width a.head.length a.g a.head.block p.zero (record { kinds = omega arith; widths = omega arith; shapes = omega arith; owners = omega arith }) z.is);
    }

pub returns : goal.returns
returns c =
    let a = c.args in
    let b = a.self.now in
    let p = c.requires in
    let r = c.read_block_info_block in
    let z = c.in_ok-shared.ensures in
    record {
      kept = kept_less (omega arith) (omega (arith, p.in_range.1)) r.ensures.kept;
      does = λ ev ops stands.
          info_added b a.m _ ev ops stands a.head.width a.head.length a.g a.head.block p.zero (record { kinds = omega arith; widths = omega arith; shapes = omega arith; owners = omega arith }) _ _ r.ensures.kept z.is;
    }
