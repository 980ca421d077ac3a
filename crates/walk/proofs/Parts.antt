-- How the parts of an item stand together: a part's refusal gets the item's place, and the number that is read says which part is next. Assumes nothing.
use Rattle.std.specs.Prelude.{Result, Ok, Err, IsErrAnd}
use mathlib.Core.Path.{◌≡◌, refl, sym, subst}
use mathlib.Core.Bool.{false}
use mathlib.Core.List.{List}
use mathlib.Core.Option.{some}
use Prim.Native.Nat.{ℕ, ◌+◌, ◌*◌, ◌/◌, ◌≤◌, ◌<◌}
use native.Mathlib.Omega.{arith}
use lib.ListN.{length}
use borrow.Author.Tests.{leb-false}
use Rattle.terms.specs.Refusals.{Refusal, at_bit, no_of, refusal_of}
use Rattle.terms.specs.declared.Reason.{Reason}
use Rattle.terms.specs.declared.Refused.{Refused}
use Rattle.bits.specs.Reader.{Answer, got, refused}
use Rattle.bits.specs.Bits.{limit, ends_at}
use Rattle.bits.specs.Told.{Gives, of_read}
use Rattle.bits.specs.declared.Cursor.{Cursor}
use Rattle.bits.proofs.Steps.{handed}
use Rattle.abbrev.specs.Abbrev.{number_of}
use Rattle.abbrev.specs.Tables.{Tables, row_at, of_row, row_count}
use Rattle.abbrev.proofs.Held.{row_found, row_at_in}
use Rattle.walk.specs.Piece.{head}
use Rattle.walk.specs.Item.{Opening}
use Rattle.walk.specs.Promises.{placed_at, context, state_of, Stands, completed, opening_of, numbered_of, Does, Behind, head_fits, Heads}
use Rattle.walk.specs.declared.Marks.{Marks}
use Rattle.walk.specs.declared.Block.{Block}
use Rattle.walk.specs.declared.BlockHead.{BlockHead}
use Rattle.walk.specs.declared.Step.{Step}
use Rattle.walk.proofs.Items.{open_number}

-- ---- a part's answer, had back from the one that has the item's place
pub placed_ok : {A : Type 0} (at : ℕ) (r : Result A Reason) {a : A} → placed_at at r ≡ Ok a → r ≡ Ok a
placed_ok at (Ok a) i = cc
placed_ok at (Err why) i = absurd (let z : ◌≡◌ {A = ℕ} 0 1 = cc in omega arith)

pub placed_err : {A : Type 0} (at : ℕ) (r : Result A Reason) {x : Refused} → placed_at at r ≡ Err x
    → (why : Reason) × (r ≡ Err why) × (record { reason = why; place = at } ≡ x)
placed_err at (Ok a) i = absurd (let z : ◌≡◌ {A = ℕ} 0 1 = cc in omega arith)
placed_err at (Err why) i = (why, refl, (cc))

-- a refusal that is handed on: of the whole item, or of a part of it, which gets the item's place
module _ (B : Block) (m : Marks) (t t' : Tables) (ev ev' ops ops' : List ℕ) (x : Answer Refusal Opening) where
  pub stopped : (r : Result Step Refused) (e : Refused) → IsErrAnd r (λ y. y ≡ e)
      → completed B (state_of B m t (length ev) (length ops)) x ≡ refused (refusal_of e) → Does B m t t' ev ev' ops ops' x r
  stopped r e h z = handed (Does B m t t' ev ev' ops ops' x) r h z

  pub stopped_in : (r : Result Step Reason) (e : Reason) → IsErrAnd r (λ y. y ≡ e)
      → completed B (state_of B m t (length ev) (length ops)) x ≡ refused (at_bit m.at (no_of e)) → Does B m t t' ev ev' ops ops' x (placed_at m.at r)
  stopped_in r e h z = handed (λ y. Does B m t t' ev ev' ops ops' x (placed_at m.at y)) r h z

  -- the same step, of an opening that answers the same
  pub does_as : (r : Result Step Refused) {y : Answer Refusal Opening} → y ≡ x → Does B m t t' ev ev' ops ops' x r → Does B m t t' ev ev' ops ops' y r
  does_as r e h = subst (λ z. Does B m t t' ev ev' ops ops' z r) (sym e) h

-- the next item's number has been read: n, and d is behind it
pub next_is : (B : Block) (m : Marks) (t : Tables) (ne nops : ℕ) (r : Result (ℕ × Cursor) Reason) {n : ℕ} {d : Cursor} → ends_at B.stream.now B.frame.end m.at ≡ false
    → Gives (record { at = m.at; end = B.frame.end }) B.stream.now (number_of B.frame.width) (of_read r) → placed_at m.at r ≡ Ok (n, d)
    → (opening_of B m t ne nops ≡ numbered_of B m t ne nops n d) × (d.end ≡ B.frame.end)
unfolding ends_at
next_is B m t ne nops r under x z =
    let y = rw (placed_ok m.at r z) at x in
    (open_number (context B.frame) (state_of B m t ne nops) B.stream.now B.frame.end m.at (leb-false (limit B.stream.now B.frame.end) m.at under) y.gives, y.ends)

-- a block's head has been read: h, and g is behind it
pub head_next : (B : Block) (m : Marks) (d : Cursor) (r : Result (BlockHead × Cursor) Reason) {h : BlockHead} {g : Cursor} → Behind B d → Heads d B.stream.now head_fits r
    → placed_at m.at r ≡ Ok (h, g)
    → (head_fits B.stream.now B.frame.end d.at ≡ got (head h.block h.width (g.at / 8) h.length) g.at) × (g.at + 8 * h.length ≤ limit B.stream.now B.frame.end)
head_next B m d r e x z =
    let w = rw (placed_ok m.at r z) at x in
    let o = rw e at w.0 in
    (o.gives, rw e at w.1)

-- the row that a number has been looked up as
pub row_used : (B : Block) (m : Marks) (ev ops : List ℕ) (n : ℕ) {row : ℕ} → Stands B m ev ops
    → Ok row ≡ of_row B.frame.number n (row_at B.own.now B.frame.base m.local n) → (row_at B.own.now B.frame.base m.local n ≡ some row) × (row < row_count)
row_used B m ev ops n stands z =
    let w = row_found B.frame.number n (row_at B.own.now B.frame.base m.local n) z in
    (w, row_at_in B.own.now B.frame.base m.local n stands.1 stands.0.shared stands.0.local stands.0.base w)
