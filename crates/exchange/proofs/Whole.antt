-- Demand 3 over the whole call, in pieces: the input with two neighbouring blocks exchanged is accepted, and its walk meets the same but for the two,
-- exchanged and moved. Assumes nothing.
use mathlib.Core.Path.{◌≡◌, refl, sym, ap, ap₂, ◌∙◌, subst}
use mathlib.Core.Bool.{Bool, true, false}
use mathlib.Core.List.{List}
use Prim.Native.Nat.{ℕ, suc, ◌+◌, ◌-◌, ◌*◌, ◌/◌, ◌%◌, ◌≤◌, ◌<◌}
use native.Mathlib.Omega.{arith}
use lib.ListN.{get_or, length}
use lib.Seq.{length-slice}
use lib.Dec.{ltb, eqb}
use Rattle.terms.specs.Limits.{max_input, max_open}
use Rattle.bits.specs.Reader.{when◌then◌else◌, got, turns}
use Rattle.bits.specs.Bits.{bit}
use Rattle.bits.proofs.Laws.{limit_in}
use Rattle.bitcode.specs.declared.Signature.{Signature}
use Rattle.bitcode.specs.Header.{word, wrapper_magic, opened}
use Rattle.walk.specs.Piece.{Piece, store}
use Rattle.walk.specs.Item.{Pass}
use Rattle.walk.specs.Walk.{top_level, start, top_items, accepted, walk_by}
use Rattle.relocation.specs.Spot.{Spot, plug, IsBlock, Quiet, from_of, to_of}
use Rattle.exchange.specs.Input.{exchange, base_of, exchanged}
use Rattle.relocation.proofs.Shift.{Fine, move_piece}
use Rattle.relocation.proofs.Apart.{many}
use Rattle.relocation.proofs.Keep.{still, items_facts}
use Rattle.relocation.proofs.Blocks.{Blind}
use Rattle.exchange.proofs.Swap.{Bounds, bounds, Traded, swap_items}
use Rattle.exchange.proofs.Exchange.{length_exchange, exchange_low, bits_low, bits_up, bits_down, bits_high, part_exchange}
use Rattle.walk.proofs.Call.{walk_apart, walk_make}
use Rattle.exchange.proofs.Input.{wrapped_lies, end_of, SameHeader, lies, same_signature}

-- ---- two blocks side by side, exchanged: the second goes down by the first's length, the first up by the second's
unfoldable pub moved_down : Piece → Piece → Piece
moved_down a b = move_piece 0 (to_of a - from_of a) 0 (length (store a)) b

unfoldable pub moved_up : Piece → Piece → Piece
moved_up a b = move_piece (to_of b - to_of a) 0 (length (store b)) 0 a

-- in the stream itself
abbrev swapped : Piece → Piece → List ℕ → List ℕ
swapped a b s = exchange (from_of a / 8) (to_of a / 8) (to_of b / 8) s

-- no place of the two falls below zero
unfoldable pub PairFine : Piece → Piece → Type 0
PairFine a b = Fine 0 (to_of a - from_of a) 0 (length (store a)) b × Fine (to_of b - to_of a) 0 (length (store b)) 0 a

-- ---- the streams agree where nothing moves, and moved where the two were
traded : (s : List ℕ) (i j k : ℕ) → i % 32 ≡ 0 → j % 32 ≡ 0 → k % 32 ≡ 0 → i < j → j < k → k ≤ 8 * length s
    → Traded s (exchange (i / 8) (j / 8) (k / 8) s) i j k
traded s i j k i32 j32 k32 ij jk kl =
    let ij₈ : i / 8 ≤ j / 8 = omega arith in
    let jk₈ : j / 8 ≤ k / 8 = omega arith in
    let kl₈ : k / 8 ≤ length s = omega arith in
    let x : List ℕ = exchange (i / 8) (j / 8) (k / 8) s in
    let len : length x ≡ length s = length_exchange (i / 8) (j / 8) (k / 8) s ij₈ jk₈ kl₈ in
    record {
      low = still 0 i (λ n h g. bits_low (i / 8) (j / 8) (k / 8) s ij₈ jk₈ kl₈ n (omega arith)) len;
      ups = record {
        agree = λ n h g. bits_up (i / 8) (j / 8) (k / 8) s ij₈ jk₈ kl₈ n (omega arith) (omega arith) ∙ ap (bit x) (omega arith);
        low = omega arith;
        u32 = omega arith;
        d32 = refl;
        lengths = len;
      };
      downs = record {
        agree = λ n h g. bits_down (i / 8) (j / 8) (k / 8) s ij₈ jk₈ kl₈ n (omega arith) (omega arith) ∙ ap (bit x) (omega arith);
        low = omega arith;
        u32 = refl;
        d32 = omega arith;
        lengths = len;
      };
      high = λ q. still k q (λ n h g. bits_high (i / 8) (j / 8) (k / 8) s ij₈ jk₈ kl₈ n (omega arith)) len;
      i_j = ij;
      j_k = jk;
    }

-- ---- the header stays: it stands before the blocks
least : (c : Bool) (n : ℕ) → 4 ≤ (when c then n + 4 else 4)
unfolding when◌then◌else◌
least true n = omega arith
least false n = omega arith

base_least : (bs : List ℕ) → 4 ≤ base_of bs
unfolding base_of
base_least bs = least (eqb (word bs 0) wrapper_magic) (word bs 8)

module _ (bs : List ℕ) (i j k : ℕ) (ij : i ≤ j) (jk : j ≤ k) (kl : base_of bs + k ≤ length bs) where
  abbrev new : List ℕ
  new = exchange (base_of bs + i) (base_of bs + j) (base_of bs + k) bs

  new_byte : (n : ℕ) → n < base_of bs + i → get_or new n 0 ≡ get_or bs n 0
  new_byte n h = exchange_low (base_of bs + i) (base_of bs + j) (base_of bs + k) bs (omega arith) (omega arith) kl n h

  new_word : (n : ℕ) → n + 3 < base_of bs + i → word new n ≡ word bs n
  unfolding word
  new_word n h =
      ap₂ (λ x y. x + 16777216 * y)
      (ap₂ (λ x y. x + 65536 * y) (ap₂ (λ x y. x + 256 * y) (new_byte n (omega arith)) (new_byte (n + 1) (omega arith)))
      (new_byte (n + 2) (omega arith)))
      (new_byte (n + 3) (omega arith))

  exchange_header : (word bs 0 ≡ wrapper_magic → 20 ≤ base_of bs + i) → SameHeader bs new
  exchange_header clear = record {
    same_length = length_exchange (base_of bs + i) (base_of bs + j) (base_of bs + k) bs (omega arith) (omega arith) kl;
    same_magic = new_word 0 (omega (arith, base_least bs));
    same_wrapper = λ z.
        let (b, e) = wrapped_lies bs z in
        let c : 20 ≤ base_of bs + i = clear z in (
          new_word 4 (omega arith),
          new_word 8 (omega arith),
          new_word 12 (omega arith),
          new_word 16 (omega arith),
          new_word (word bs 8) (omega arith),
        );
  }

module _ (skips : Pass) (blind : Blind skips) (n m : ℕ) (t : Spot) (a b : Piece) (ia : IsBlock a) (ib : IsBlock b) (qa : Quiet a) (qb : Quiet b)
    (a32 : from_of a % 32 ≡ 0) where
  -- where the two lie in the stream
  top_bounds : (s : List ℕ) (q : ℕ) → top_items skips n m s (length s) 0 ≡ got (plug t a b) q → Bounds 0 q a b × (to_of b ≤ 8 * length s)
  unfolding top_items turns
  top_bounds s q z =
      let v = bounds skips s t a b ia ib max_open (suc (8 * length s)) top_level (start n m) (length s) 0 q z in
      let w = items_facts skips s max_open top_level (start n m) (length s) 0 (suc (8 * length s)) q (plug t a b) z in
      (v, omega (arith, w.1 (omega arith), limit_in s (length s)))

  -- the items of the exchanged stream
  stream_swap : (s : List ℕ) (q : ℕ) → top_items skips n m s (length s) 0 ≡ got (plug t a b) q
      → (top_items skips n m (swapped a b s) (length (swapped a b s)) 0 ≡ got (plug t (moved_down a b) (moved_up a b)) q) × PairFine a b
  unfolding top_items turns moved_down moved_up PairFine
  stream_swap s q z =
      let (v, l) = top_bounds s q z in
      let x : List ℕ = swapped a b s in
      let tr = traded s (from_of a) (to_of a) (to_of b) a32 v.b_middle v.b_end v.b_first (omega arith) l in
      let w = swap_items a b ia ib qa qb (from_of a) (to_of a) (to_of b) skips blind s x tr refl refl refl t max_open
      (suc (8 * length s)) top_level (start n m) (length s) 0 q z in (
        subst (λ y. many skips max_open (suc (8 * y)) top_level (start n m) x y 0 ≡ got (plug t (moved_down a b) (moved_up a b)) q)
            (sym tr.low.lengths) w.0,
        w.1,
      )

  -- ---- the whole call: the exchanged input is accepted
  pub swapped_walk : (bs : List ℕ) (h : Signature) → walk_by bs skips n m ≡ accepted h (plug t a b)
      → (word bs 0 ≡ wrapper_magic → 20 ≤ base_of bs + from_of a / 8)
      → (walk_by (exchanged bs a b) skips n m ≡ accepted h (plug t (moved_down a b) (moved_up a b))) × PairFine a b × (to_of a ≡ from_of b)
  unfolding exchanged
  swapped_walk bs h z clear =
      let (s, q, e₁, z₂, z₃) = walk_apart bs skips n m h (plug t a b) z in
      let (v, l) = top_bounds s q z₃ in
      let w = stream_swap s q z₃ in
      let y = lies bs s h z₂ in
      let ij : from_of a / 8 ≤ to_of a / 8 = omega arith in
      let jk : to_of a / 8 ≤ to_of b / 8 = omega arith in
      let len : length s ≡ end_of bs - base_of bs = ap length y.stream_is ∙ length-slice (base_of bs) (end_of bs) bs y.end_length in
      let kl : base_of bs + to_of b / 8 ≤ end_of bs = omega arith in
      let same = exchange_header bs (from_of a / 8) (to_of a / 8) (to_of b / 8) ij jk (omega arith) clear in
      let e₂ = same_signature bs (exchanged bs a b) same s h z₂ in
      let e₃ = part_exchange (from_of a / 8) (to_of a / 8) (to_of b / 8) (base_of bs) (end_of bs) bs ij jk kl y.end_length
      ∙ ap (swapped a b) (sym y.stream_is) in (
        walk_make (exchanged bs a b) skips n m h (plug t (moved_down a b) (moved_up a b)) (swapped a b s) q
            (ap (λ x. ltb max_input x) same.same_length ∙ e₁) (e₂ ∙ ap (opened h) e₃) w.0,
        w.1,
        v.b_next,
      )
