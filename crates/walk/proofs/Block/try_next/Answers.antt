-- `walk::Block::try_next` meets its contract: the end of the bits, or a number and what it says. Assumes nothing.
use mathlib.Core.Path.{sym, ap, ◌∙◌}
use lib.ListN.{length}
use borrow.Author.Tests.{leb-true, leb-false}
use Rattle.terms.specs.Refusals.{refusal_of}
use Rattle.bits.specs.Reader.{refused}
use Rattle.bits.specs.Bits.{limit, ends_at}
use Rattle.abbrev.proofs.Held.{kept_refl}
use Rattle.walk.specs.Promises.{numbered_of, held}
use Rattle.walk.proofs.Items.{completed_off, open_off}
use Rattle.walk.proofs.Parts.{next_is, stopped, does_as, placed_err}
use Rattle.walk.proofs.Block.try_next.Goals as goal

pub returns-then-is_at_end : goal.returns-then-is_at_end
unfolding ends_at
returns-then-is_at_end c =
    let a = c.args in
    let b = a.self.now in
    let p = c.requires in
    record {
      kept = kept_refl _ _ _;
      does =
          rw c.placed.ensures
          (c.end_of.ensures a.ev.now a.ops.now (held a.tables.now) p.stands);
    }

pub returns-in_err-n : goal.returns-in_err-n
unfolding ends_at
returns-in_err-n c =
    let a = c.args in
    let b = a.self.now in
    let p = c.requires in
    let (why, i, j) = placed_err _ _ (sym c.placed-2.ensures ∙ c.in_err-n.was) in
    let x = rw i at c.read_number.ensures in
    let under = leb-false (limit b.stream.now b.frame.end) a.m.at (sym c.is_at_end.ensures ∙ c.if-is_at_end.false) in
    record {
      kept = kept_refl _ _ _;
      does =
          stopped b a.m _ _ _ _ _ _ _ _ _ c.from_residual.ensures.1
          (completed_off b _ (open_off _ _ _ _ _ under x.why) ∙ ap (λ x. refused (refusal_of x)) j);
    }

pub end_of-requires : goal.end_of-requires
unfolding ends_at
end_of-requires c = leb-true _ _ (sym c.is_at_end.ensures ∙ c.if-is_at_end.true)

pub returns-in-0 : goal.returns-in-0
returns-in-0 c =
    let a = c.args in
    let b = a.self.now in
    let p = c.requires in
    let t = held a.tables.now in
    let i = sym c.is_at_end.ensures ∙ c.if-is_at_end.false in
    let o = (next_is b a.m t (length a.ev.now) (length a.ops.now) c.read_number.result i c.read_number.ensures (sym c.placed-2.ensures ∙ c.in_ok-n.was)).0
    ∙ ap (λ i. numbered_of b a.m t (length a.ev.now) (length a.ops.now) i c.in_ok-n.d) c.in-0.is in
    record {
      kept = kept_refl _ _ _;
      does = rw c.placed-in-0.ensures (does_as b a.m _ _ _ _ _ _ _ _ o (c.leave.ensures a.ops.now t p.stands));
    }

pub returns-in-1 : goal.returns-in-1
returns-in-1 c =
    let a = c.args in
    let b = a.self.now in
    let p = c.requires in
    let t = held a.tables.now in
    let i = sym c.is_at_end.ensures ∙ c.if-is_at_end.false in
    let o = (next_is b a.m t (length a.ev.now) (length a.ops.now) c.read_number.result i c.read_number.ensures (sym c.placed-2.ensures ∙ c.in_ok-n.was)).0
    ∙ ap (λ i. numbered_of b a.m t (length a.ev.now) (length a.ops.now) i c.in_ok-n.d) c.in-1.is in
    record {
      kept = c.enter_sub_block.ensures.kept;
      does = does_as b a.m _ _ _ _ _ _ _ _ o (c.enter_sub_block.ensures.does a.ops.now p.stands);
    }

pub returns-in-2 : goal.returns-in-2
returns-in-2 c =
    let a = c.args in
    let b = a.self.now in
    let p = c.requires in
    let t = held a.tables.now in
    let i = sym c.is_at_end.ensures ∙ c.if-is_at_end.false in
    let o = (next_is b a.m t (length a.ev.now) (length a.ops.now) c.read_number.result i c.read_number.ensures (sym c.placed-2.ensures ∙ c.in_ok-n.was)).0
    ∙ ap (λ i. numbered_of b a.m t (length a.ev.now) (length a.ops.now) i c.in_ok-n.d) c.in-2.is in
    record {
      kept = c.define_local.ensures.kept;
      does = rw c.placed-in-2.ensures (does_as b a.m _ _ _ _ _ _ _ _ o (c.define_local.ensures.does a.ev.now a.ops.now p.stands));
    }

pub returns-in-3 : goal.returns-in-3
returns-in-3 c =
    let a = c.args in
    let b = a.self.now in
    let p = c.requires in
    let t = held a.tables.now in
    let i = sym c.is_at_end.ensures ∙ c.if-is_at_end.false in
    let o = (next_is b a.m t (length a.ev.now) (length a.ops.now) c.read_number.result i c.read_number.ensures (sym c.placed-2.ensures ∙ c.in_ok-n.was)).0
    ∙ ap (λ i. numbered_of b a.m t (length a.ev.now) (length a.ops.now) i c.in_ok-n.d) c.in-3.is in
    record {
      kept = kept_refl _ _ _;
      does = rw c.placed-in-3.ensures (does_as b a.m _ _ _ _ _ _ _ _ o (c.record_plain.ensures t p.stands));
    }

pub returns-in_default : goal.returns-in_default
returns-in_default c =
    let a = c.args in
    let b = a.self.now in
    let p = c.requires in
    let t = held a.tables.now in
    let i = sym c.is_at_end.ensures ∙ c.if-is_at_end.false in
    let o = (next_is b a.m t (length a.ev.now) (length a.ops.now) c.read_number.result i c.read_number.ensures (sym c.placed-2.ensures ∙ c.in_ok-n.was)).0 in
    record {
      kept = kept_refl _ _ _;
      does = rw c.placed-in_default.ensures (does_as b a.m _ _ _ _ _ _ _ _ o (c.record_abbreviated.ensures p.stands));
    }
