-- Blocks: where one begins and ends, what it leaves behind in the state, a block moved, and a block taken apart. Assumes nothing.
use mathlib.Core.Path.{◌≡◌, refl, sym, ap, ap₂, ◌∙◌}
use mathlib.Core.Bool.{true, false}
use mathlib.Core.List.{List, [], ◌++◌, append-nil}
use mathlib.Core.Option.{some}
use Prim.Native.Nat.{ℕ, suc, ◌+◌, ◌-◌, ◌*◌, ◌/◌, ◌%◌, ◌≤◌, ◌<◌}
use native.Mathlib.Omega.{arith}
use lib.ListN.{length}
use lib.Dec.{ltb, eqb}
use borrow.Author.Tests.{lt-leb}
use Rattle.bits.specs.Reader.{Answer, got}
use Rattle.bits.specs.Bits.{limit, ends_at}
use Rattle.walk.specs.Piece.{Head, head, Piece, the_record, definition, blockinfo, skipped, block, Pieces, done, ◌then◌, store, added, all_added, own, State, after, entered}
use Rattle.walk.specs.Item.{Context, headed, opening, Pass, nested}
use Rattle.walk.proofs.Answers.{size_of, Takes}
use Rattle.relocation.specs.Spot.{IsBlock, Quiet, Quiets, from_of, head_end, to_of}
use Rattle.relocation.proofs.Shift.{Began, Headed, move_head, Fitting, Asks, Fine, move_piece, move_opening, Like}
use Rattle.relocation.proofs.Law.{Window, Ends, Passes, taken, inner_limit}
use Rattle.relocation.proofs.Moves.{headed_le, opening_moves, body_moves, nested_moves}
use Rattle.relocation.proofs.Apart.{one, item_open, item_make, body_apart, ctx, nest, nested_apart}
use Rattle.relocation.proofs.Keep.{items_facts, opening_facts, body_facts}

-- ---- a block at p .. q
pub began_block : (x : Piece) (p q : ℕ) → IsBlock x → Began x p q → (from_of x ≡ p) × (to_of x ≡ q) × (q % 32 ≡ 0)
unfolding IsBlock Began from_of to_of head_end
began_block (the_record from b first r) p q i z = absurd i
began_block (definition a) p q i z = absurd i
began_block (blockinfo from h sh) p q i z = absurd i
began_block (skipped from (head b w at n)) p q i z = omega arith
began_block (block from (head b w at n) inner) p q i z = omega arith

-- it leaves no abbreviation to the block that it stands in, and none to others if it is quiet
pub own_block : (x : Piece) → IsBlock x → own x ≡ []
unfolding IsBlock own
own_block (the_record from b first r) i = absurd i
own_block (definition a) i = absurd i
own_block (blockinfo from h sh) i = refl
own_block (skipped from h) i = refl
own_block (block from h inner) i = refl

mutual
  unfolding Quiet Quiets added all_added

  pub added_quiet : (x : Piece) → Quiet x → added x ≡ []
  added_quiet (the_record from b first r) z = refl
  added_quiet (definition a) z = refl
  added_quiet (blockinfo from h sh) z = absurd z
  added_quiet (skipped from h) z = refl
  added_quiet (block from h inner) z = all_added_quiet inner z

  pub all_added_quiet : (xs : Pieces) → Quiets xs → all_added xs ≡ []
  all_added_quiet (done end) z = refl
  all_added_quiet (◌then◌ x xs) z = ap₂ (λ a b. a ++ b) (added_quiet x z.0) (all_added_quiet xs z.1)

-- nothing appended
pub append_none : {A : Type 0} (xs ys : List A) → ys ≡ [] → xs ++ ys ≡ xs
append_none xs ys z = ap (λ y. xs ++ y) z ∙ append-nil xs

-- a piece that leaves no abbreviation leaves the state but for the rooms
pub leaves : (x : Piece) (st : State) → own x ≡ [] → added x ≡ [] → Like (length (store x)) 0 st (after x st)
unfolding after
leaves x st o a = record {
  l_shareds = append_none st.shareds (added x) a;
  l_mine = append_none st.mine (own x) o;
  l_locals = omega (arith, ap length o);
  l_fill = omega arith;
}

-- a run, its places written another way
pub at_places : {R A : Type 0} {a : A} {p p' q q' : ℕ} (m : ℕ → ℕ → Answer R A) (e : ℕ) → m e p ≡ got a q → p ≡ p' → q ≡ q' → m e p' ≡ got a q'
at_places {a} m e z f g = ap (m e) (sym f) ∙ z ∙ ap (got a) g

-- ---- a block moved
-- a rule that doesn't look at the place
abbrev pub Blind : Pass → Type 0
Blind skips = (from from' b : ℕ) → skips from b ≡ skips from' b

-- its body fits
fitting_moved : (up down : ℕ) (h : Head) (lim r q : ℕ) → down ≤ r → up % 32 ≡ 0 → down % 32 ≡ 0 → Headed lim h r → q ≡ r + 8 * size_of h
    → (lim' : ℕ) → q + up ≤ lim' + down → Fitting up down lim' h
unfolding Headed Fitting size_of
fitting_moved up down (head b w at n) lim r q l u v z y lim' f = omega arith

-- both runs are before their ends
before_both : (s s' : List ℕ) (e p e' p' : ℕ) → p < limit s e → p' < limit s' e' → ends_at s' e' p' ≡ ends_at s e p
unfolding ends_at
before_both s s' e p e' p' h g = lt-leb _ _ g ∙ sym (lt-leb _ _ h)

-- a block met in the first stream at lo or behind it, up to hi, is met in the second, moved, if its end and its room are there.
-- Its head is read under the parents' ends, which do not move with it
pub move_block : {s s' : List ℕ} {lo hi up down : ℕ} (win : Window s s' lo hi up down) (og oo : ℕ) (skips : Pass) → Blind skips
    → (d : ℕ) (c : Context) {st st' : State} → Like og oo st st' → (e e' p : ℕ) (x : Piece) → IsBlock x → Takes st' x → lo ≤ p
    → one skips d c st s e p ≡ got (some x) hi → hi + up ≤ limit s' e' + down
    → (one skips d c st' s' e' (p + up - down) ≡ got (some (move_piece up down og oo x)) (hi + up - down))
    × Fine up down og oo x
unfolding Asks move_opening
move_block {s} {s'} {hi} {up} {down} win og oo skips blind d c {st} {st'} l e e' p x b k h g f =
    let ps : Passes win skips skips = record { passes = λ from b h g. blind (from + up - down) from b } in
    let (from, hd, r, y₁, y₂) = item_open (nested d skips) skips c st s e p hi x b g in
    let o = opening_facts skips s d c st e p r from hd y₁ in
    let w = body_facts skips s d c st e r hi from hd x o.1 o.0 y₂ in
    let fit : Fitting up down (limit s' e') hd =
    fitting_moved up down hd (limit s e) r hi (omega (arith, o.0, o.2)) win.u32 win.d32 o.1 w.1 (limit s' e') f in
    let ends : Ends win e e' = record { ends = omega arith } in
    let lim : r ≤ limit s e = headed_le hd (limit s e) r o.1 in
    let out = before_both s s' e p e' (p + up - down) (omega (arith, o.0, o.2)) (omega (arith, o.0, o.2, w.0)) in
    let z₁ = taken (opening_moves ends h out c l) y₁ in
    let z₂ = taken (body_moves (nested_moves d ps) ps ends (omega (arith, o.0, o.2)) from hd l o.1 fit (omega (arith, o.2)) o.0) y₂ in (
      item_make (nested d skips) skips c st' s' e' (p + up - down) (hi + up - down) (r + up - down) (from + up - down) (move_head up down hd)
          (move_piece up down og oo x) (z₁.runs (omega (arith, w.0)) fit) (z₂.runs (omega arith) k),
      z₂.tells.3,
    )

-- ---- a nested block taken apart: where its body begins and ends, and its items
pub record Entered (skips : Pass) (s : List ℕ) (d : ℕ) (c : Context) (st : State) (e p q from b w at n : ℕ) (inner : Pieces) : Type 0 where
  pub body : ℕ
  pub level : ℕ
  pub last : ℕ
  pub levels : d ≡ suc level
  pub opens : opening c st s e p ≡ got (headed from (head b w at n)) body
  pub stands : Headed (limit s e) (head b w at n) body
  pub no_info : eqb b 0 ≡ false
  pub no_skip : skips from b ≡ false
  pub has_room : ltb 0 st.room ≡ true
  pub behind : p ≤ body
  pub ending : q ≡ body + 8 * n
  pub holds : nest level skips b w n st s body ≡ got inner last
  pub within_end : last ≤ q

limit_inner : (s : List ℕ) (e p b w at n : ℕ) → Headed (limit s e) (head b w at n) p → limit s (p / 8 + n) ≡ p + 8 * n
unfolding Headed
limit_inner s e p b w at n z = inner_limit s e p n z.1 z.2

pub block_apart : (skips : Pass) (s : List ℕ) (d : ℕ) (c : Context) (st : State) (e p q from b w at n : ℕ) (inner : Pieces)
    → one skips d c st s e p ≡ got (some (block from (head b w at n) inner)) q
    → Entered skips s d c st e p q from b w at n inner
unfolding IsBlock
block_apart skips s d c st e p q from b w at n inner g =
    let (from', h', r, y₁, y₂) = item_open (nested d skips) skips c st s e p q (block from (head b w at n) inner) tt g in
    let (x₁, x₂, x₃, x₄, x₅) = body_apart (nested d skips) skips c st s e r q from' from h' b w at n inner y₂ in
    let y : opening c st s e p ≡ got (headed from (head b w at n)) r = y₁ ∙ ap (λ o. got o r) (ap₂ headed x₁ x₂) in
    let o = opening_facts skips s d c st e p r from (head b w at n) y in
    let (d', r', z₁, z₂, z₃, z₄) = nested_apart d skips from b w at n st s e r q inner x₅ in
    let lim : limit s (r / 8 + n) ≡ r + 8 * n = limit_inner s e r b w at n o.1 in
    let f = items_facts skips s d' (ctx b w) (entered b st) (r / 8 + n) r (suc (8 * length s)) r' inner z₄ in
    record {
      body = r;
      level = d';
      last = r';
      levels = z₁;
      opens = y;
      stands = o.1;
      no_info = x₃;
      no_skip = x₄;
      has_room = z₂;
      behind = omega (arith, o.0, o.2);
      ending = z₃;
      holds = z₄;
      within_end = omega (arith, f.1 (omega arith));
    }
