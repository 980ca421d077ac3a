-- The exchange inside the walk: where a block a, directly behind it a block b, are met in one stream, b and then a are met in the stream with the two
-- exchanged, each moved, and all else is met as before. Assumes nothing.
use mathlib.Core.Path.{◌≡◌, refl, sym, ap, ap₂, ◌∙◌, subst}
use mathlib.Core.List.{List, [], ◌++◌}
use mathlib.Core.Option.{some}
use Prim.Native.Nat.{ℕ, zero, suc, ◌+◌, ◌-◌, ◌*◌, ◌/◌, ◌%◌, ◌≤◌, ◌<◌}
use native.Mathlib.Omega.{arith}
use lib.ListN.{length, length-append}
use Rattle.bits.specs.Reader.{got}
use Rattle.bits.specs.Bits.{limit}
use Rattle.walk.specs.Piece.{Head, head, Piece, block, Pieces, ◌then◌, counted, all_counted, store, all_store, added, all_added, own, State, after, entered}
use Rattle.walk.specs.Item.{Context, Pass, nested}
use Rattle.walk.proofs.Answers.{Takes}
use Rattle.relocation.specs.Spot.{Spot, right_here, later, inside, plug, IsBlock, Quiet, from_of, to_of}
use Rattle.relocation.proofs.Shift.{Headed, Fitting, Fine, move_piece, store_move, added_move, own_move, count_move, Like, like_back}
use Rattle.relocation.proofs.Law.{Window}
use Rattle.relocation.proofs.Apart.{one, many, items_apart, items_make, items_none, item_make, body_make, ctx, nest, nested_make}
use Rattle.relocation.proofs.Keep.{same_limit, still_item, still_items, still_head, fitting_self, item_facts, items_facts}
use Rattle.relocation.proofs.Blocks.{began_block, own_block, added_quiet, append_none, leaves, at_places, Blind, move_block, Entered, block_apart}
use Rattle.relocation.proofs.Laws.{block_leaves}

-- ---- where the two blocks at a spot lie, in items read from p to q
pub record Bounds (p q : ℕ) (a b : Piece) : Type 0 where
  pub b_low : p ≤ from_of a
  pub b_first : from_of a < to_of a
  pub b_next : to_of a ≡ from_of b
  pub b_second : from_of b < to_of b
  pub b_high : to_of b ≤ q
  pub b_middle : to_of a % 32 ≡ 0
  pub b_end : to_of b % 32 ≡ 0

-- for whatever lies around them
wider : {p p' q q' : ℕ} {a b : Piece} → p ≤ p' → q' ≤ q → Bounds p' q' a b → Bounds p q a b
wider h g v = record {
  b_low = omega arith;
  b_first = v.b_first;
  b_next = v.b_next;
  b_second = v.b_second;
  b_high = omega arith;
  b_middle = v.b_middle;
  b_end = v.b_end;
}

pub bounds : (skips : Pass) (s : List ℕ) (t : Spot) (a b : Piece) → IsBlock a → IsBlock b → (d k : ℕ) (c : Context) (st : State) (e p q : ℕ)
    → many skips d k c st s e p ≡ got (plug t a b) q → Bounds p q a b
unfolding plug
bounds skips s (right_here xs) a b ia ib d zero c st e p q g = absurd (items_none (nested d skips) skips c st s e p q _ g)
bounds skips s (right_here xs) a b ia ib d (suc zero) c st e p q g =
    let (r, z₁, z₂) = items_apart (nested d skips) skips c st s e zero p q a (◌then◌ b xs) g in
    absurd (items_none (nested d skips) skips c (after a st) s e r q _ z₂)
bounds skips s (right_here xs) a b ia ib d (suc (suc k)) c st e p q g =
    let (r, z₁, z₂) = items_apart (nested d skips) skips c st s e (suc k) p q a (◌then◌ b xs) g in
    let (r₂, z₃, z₄) = items_apart (nested d skips) skips c (after a st) s e k r q b xs z₂ in
    let u = item_facts skips s d c st e p r a z₁ in
    let v = item_facts skips s d c (after a st) e r r₂ b z₃ in
    let (x₁, x₂, x₃) = began_block a p r ia u.began in
    let (y₁, y₂, y₃) = began_block b r r₂ ib v.began in
    let w = items_facts skips s d c (after b (after a st)) e r₂ k q xs z₄ in
    record {
      b_low = omega arith;
      b_first = omega arith;
      b_next = omega arith;
      b_second = omega arith;
      b_high = omega (arith, w.0);
      b_middle = omega arith;
      b_end = omega arith;
    }
bounds skips s (later x t) a b ia ib d zero c st e p q g = absurd (items_none (nested d skips) skips c st s e p q _ g)
bounds skips s (later x t) a b ia ib d (suc k) c st e p q g =
    let (r, z₁, z₂) = items_apart (nested d skips) skips c st s e k p q x (plug t a b) g in
    let u = item_facts skips s d c st e p r x z₁ in
    wider (omega arith) (omega arith) (bounds skips s t a b ia ib d k c (after x st) e r q z₂)
bounds skips s (inside from hd t xs) a b ia ib d zero c st e p q g = absurd (items_none (nested d skips) skips c st s e p q _ g)
bounds skips s (inside from (head n w at m) t xs) a b ia ib d (suc k) c st e p q g =
    let (r, z₁, z₂) = items_apart (nested d skips) skips c st s e k p q (block from (head n w at m) (plug t a b)) xs g in
    let z = block_apart skips s d c st e p r from n w at m (plug t a b) z₁ in
    let w₁ = items_facts skips s d c (after (block from (head n w at m) (plug t a b)) st) e r k q xs z₂ in
    wider z.behind (omega (arith, w₁.0))
    (bounds skips s t a b ia ib z.level (suc (8 * length s)) (ctx n w) (entered n st) (z.body / 8 + m) z.body z.last z.holds)

-- ---- two streams, of which the second has the bits i..j and j..k of the first exchanged
pub record Traded (s s' : List ℕ) (i j k : ℕ) : Type 0 where
  pub low : Window s s' 0 i 0 0
  pub ups : Window s s' i j (k - j) 0
  pub downs : Window s s' j k 0 (j - i)
  pub high : (q : ℕ) → Window s s' k q 0 0
  pub i_j : i < j
  pub j_k : j < k

-- two states are the same by their parts
state_path : {x y : State} → x.shareds ≡ y.shareds → x.mine ≡ y.mine → x.locals ≡ y.locals → x.room ≡ y.room → x.fill ≡ y.fill
    → x.left ≡ y.left → x ≡ y
state_path a b c d e f = λ i. record { shareds = a i; mine = b i; locals = c i; room = d i; fill = e i; left = f i }

-- nothing appended twice
two_none : {A : Type 0} (xs ys zs : List A) → ys ≡ [] → zs ≡ [] → xs ++ ys ++ zs ≡ xs
two_none xs ys zs y z = append_none (xs ++ ys) zs z ∙ append_none xs ys y

module _ (a b : Piece) (ia : IsBlock a) (ib : IsBlock b) (qa : Quiet a) (qb : Quiet b) (i j k : ℕ) where
  abbrev pub new_a : Piece
  new_a = move_piece (k - j) 0 (length (store b)) 0 a

  abbrev pub new_b : Piece
  new_b = move_piece 0 (j - i) 0 (length (store a)) b

  -- ---- what the two leave
  added_a : added new_a ≡ []
  added_a = added_move (k - j) 0 (length (store b)) 0 a ∙ added_quiet a qa

  added_b : added new_b ≡ []
  added_b = added_move 0 (j - i) 0 (length (store a)) b ∙ added_quiet b qb

  own_a : own new_a ≡ []
  own_a = own_move (k - j) 0 (length (store b)) 0 a ∙ own_block a ia

  own_b : own new_b ≡ []
  own_b = own_move 0 (j - i) 0 (length (store a)) b ∙ own_block b ib

  count_a : counted new_a ≡ counted a
  count_a = count_move (k - j) 0 (length (store b)) 0 a

  count_b : counted new_b ≡ counted b
  count_b = count_move 0 (j - i) 0 (length (store a)) b

  store_a : store new_a ≡ store a
  store_a = store_move (k - j) 0 (length (store b)) 0 a

  store_b : store new_b ≡ store b
  store_b = store_move 0 (j - i) 0 (length (store a)) b

  -- ---- the states before and behind each
  like_down : (st : State) → Like 0 (length (store a)) (after a st) st
  like_down st = like_back (block_leaves a st ia qa)

  like_up : (st : State) → Like (length (store b)) 0 st (after new_b st)
  like_up st = subst (λ l. Like (length l) 0 st (after new_b st)) store_b (leaves new_b st own_b added_b)

  both : (st : State) → after b (after a st) ≡ after new_a (after new_b st)
  unfolding after
  both st = state_path
      (two_none st.shareds (added a) (added b) (added_quiet a qa) (added_quiet b qb)
      ∙ sym (two_none st.shareds (added new_b) (added new_a) added_b added_a))
      (two_none st.mine (own a) (own b) (own_block a ia) (own_block b ib)
      ∙ sym (two_none st.mine (own new_b) (own new_a) own_b own_a))
      (omega (arith, ap length (own_block a ia), ap length (own_block b ib), ap length own_a, ap length own_b))
      (omega (arith, count_a, count_b))
      (omega (arith, ap length store_a, ap length store_b))
      (omega (arith, ap length store_a, ap length store_b))

  -- ---- around them nothing changes but their order
  same_counts : (t : Spot) → all_counted (plug t new_b new_a) ≡ all_counted (plug t a b)
  unfolding plug all_counted counted
  same_counts (right_here xs) = omega (arith, count_a, count_b)
  same_counts (later x t) = ap (λ n. counted x + n) (same_counts t)
  same_counts (inside from h t xs) = omega (arith, same_counts t)

  same_store : (t : Spot) → length (all_store (plug t new_b new_a)) ≡ length (all_store (plug t a b))
  unfolding plug all_store store
  same_store (right_here xs) = simp length-append (omega (arith, ap length store_a, ap length store_b))
  same_store (later x t) = length-append (store x) _ ∙ ap (λ n. length (store x) + n) (same_store t) ∙ sym (length-append (store x) _)
  same_store (inside from h t xs) = simp length-append (omega (arith, same_store t))

  same_added : (t : Spot) → all_added (plug t new_b new_a) ≡ all_added (plug t a b)
  unfolding plug all_added added
  same_added (right_here xs) = ap₂ (λ x y. x ++ (y ++ all_added xs)) added_b added_a
      ∙ sym (ap₂ (λ x y. x ++ (y ++ all_added xs)) (added_quiet a qa) (added_quiet b qb))
  same_added (later x t) = ap (λ y. added x ++ y) (same_added t)
  same_added (inside from h t xs) = ap (λ y. y ++ all_added xs) (same_added t)

  around : (from : ℕ) (h : Head) (t : Spot) (st : State) → after (block from h (plug t a b)) st ≡ after
      (block from h (plug t new_b new_a)) st
  unfolding after added own counted store
  around from h t st = state_path
      (ap (λ y. st.shareds ++ y) (sym (same_added t)))
      refl refl
      (omega (arith, same_counts t))
      (ap (λ n. st.fill + n) (sym (same_store t)))
      (ap (λ n. st.left - n) (sym (same_store t)))

  -- ---- the exchange
  module _ (skips : Pass) (blind : Blind skips) (s s' : List ℕ) (tr : Traded s s' i j k) (ea : from_of a ≡ i) (eb : to_of a ≡ j)
      (ec : to_of b ≡ k) where
    -- no place of the two falls below zero
    abbrev pub BothFine : Type 0
    BothFine = Fine 0 (j - i) 0 (length (store a)) b × Fine (k - j) 0 (length (store b)) 0 a

    -- the two themselves
    swap_here : (d n : ℕ) (c : Context) (st : State) (e q : ℕ) (xs : Pieces)
        → one skips d c st s e i ≡ got (some a) j → one skips d c (after a st) s e j ≡ got (some b) k
        → many skips d n c (after b (after a st)) s e k ≡ got xs q
        → (many skips d (suc (suc n)) c st s' e i ≡ got (◌then◌ new_b (◌then◌ new_a xs)) q) × BothFine
    unfolding Takes after
    swap_here d n c st e q xs z₁ z₂ z₃ =
        let f₁ = item_facts skips s d c st e i j a z₁ in
        let f₂ = item_facts skips s d c (after a st) e j k b z₂ in
        let lim : limit s' e ≡ limit s e = same_limit s s' e tr.low.lengths in
        let (y₁, fine_b) = move_block tr.downs 0 (length (store a)) skips blind d c (like_down st) e e j b ib
        (omega arith) (omega arith) z₂ (omega arith) in
        let (y₂, fine_a) = move_block tr.ups (length (store b)) 0 skips blind d c (like_up st) e e i a ia
        (omega (arith, count_b, ap length store_b)) (omega arith) z₁ (omega arith) in
        let y₃ = still_items (tr.high q) skips d c (after b (after a st)) e k (omega arith) n q xs z₃ (omega arith) in
        let x₁ : one skips d c st s' e i ≡ got (some new_b) (i + (k - j)) =
        at_places (one skips d c st s') e y₁ (omega arith) (omega arith) in
        let x₂ : one skips d c (after new_b st) s' e (i + (k - j)) ≡ got (some new_a) k =
        at_places (one skips d c (after new_b st) s') e y₂ (omega arith) (omega arith) in
        let x₃ : many skips d n c (after new_a (after new_b st)) s' e k ≡ got xs q =
        subst (λ x. many skips d n c x s' e k ≡ got xs q) (both st) y₃ in
        let w = items_make (nested d skips) skips c (after new_b st) s' e n (i + (k - j)) q k new_a xs x₂ x₃ in
        (items_make (nested d skips) skips c st s' e (suc n) i q (i + (k - j)) new_b (◌then◌ new_a xs) x₁ w, (fine_b, fine_a))

    -- a block around them, given that its items are exchanged
    swap_inside : (d n : ℕ) (c : Context) (st : State) (e p q r from m w at l : ℕ) (t : Spot) (xs : Pieces)
        → (z : Entered skips s d c st e p r from m w at l (plug t a b)) → z.body ≤ i → k ≤ r
        → many skips z.level (suc (8 * length s)) (ctx m w) (entered m st) s' (z.body / 8 + l) z.body ≡ got (plug t new_b new_a) z.last
        → many skips d n c (after (block from (head m w at l) (plug t a b)) st) s e r ≡ got xs q
        → many skips d (suc n) c st s' e p ≡ got (◌then◌ (block from (head m w at l) (plug t new_b new_a)) xs) q
    swap_inside d n c st e p q r from m w at l t xs z g₁ g₂ x y =
        let hd : Head = head m w at l in
        let new : Pieces = plug t new_b new_a in
        let lim : limit s' e ≡ limit s e = same_limit s s' e tr.low.lengths in
        let fit : Fitting 0 0 (limit s' e) hd = fitting_self (limit s' e) hd z.body (subst (λ v. Headed v hd z.body) (sym lim) z.stands) in
        let y₁ : nest z.level skips m w l st s' z.body ≡ got new z.last =
        subst (λ v. many skips z.level (suc (8 * v)) (ctx m w) (entered m st) s' (z.body / 8 + l) z.body ≡ got new z.last)
        (sym tr.low.lengths) x in
        let y₂ = nested_make z.level skips from m w at l st s' e z.body z.last new z.has_room y₁ in
        let y₃ : nested d skips from hd st s' e z.body ≡ got new r =
        subst (λ v. nested v skips from hd st s' e z.body ≡ got new r) (sym z.levels) (y₂ ∙ ap (λ v. got new v) (sym z.ending)) in
        let y₄ = body_make (nested d skips) skips c st s' e z.body r from m w at l new z.no_info z.no_skip y₃ in
        let o = still_head tr.low skips d c st e p (omega arith) z.body from hd z.opens g₁ fit in
        let y₅ = item_make (nested d skips) skips c st s' e p r z.body from hd (block from hd new) o y₄ in
        let y₆ = still_items (tr.high q) skips d c (after (block from hd (plug t a b)) st) e r g₂ n q xs y (omega arith) in
        let y₇ = subst (λ v. many skips d n c v s' e r ≡ got xs q) (around from hd t st) y₆ in
        items_make (nested d skips) skips c st s' e n p q r (block from hd new) xs y₅ y₇

    pub swap_items : (t : Spot) (d n : ℕ) (c : Context) (st : State) (e p q : ℕ) → many skips d n c st s e p ≡ got (plug t a b) q
        → (many skips d n c st s' e p ≡ got (plug t new_b new_a) q) × BothFine
    unfolding plug
    swap_items (right_here xs) d zero c st e p q g = absurd (items_none (nested d skips) skips c st s e p q _ g)
    swap_items (right_here xs) d (suc zero) c st e p q g =
        let (r, z₁, z₂) = items_apart (nested d skips) skips c st s e zero p q a (◌then◌ b xs) g in
        absurd (items_none (nested d skips) skips c (after a st) s e r q _ z₂)
    swap_items (right_here xs) d (suc (suc n)) c st e p q g =
        let (r, z₁, z₂) = items_apart (nested d skips) skips c st s e (suc n) p q a (◌then◌ b xs) g in
        let (r₂, z₃, z₄) = items_apart (nested d skips) skips c (after a st) s e n r q b xs z₂ in
        let (x₁, x₂, x₃) = began_block a p r ia (item_facts skips s d c st e p r a z₁).began in
        let (y₁, y₂, y₃) = began_block b r r₂ ib (item_facts skips s d c (after a st) e r r₂ b z₃).began in
        let e₁ : p ≡ i = omega arith in
        let e₂ : r ≡ j = omega arith in
        let e₃ : r₂ ≡ k = omega arith in
        let w₁ : one skips d c st s e i ≡ got (some a) j = at_places (one skips d c st s) e z₁ e₁ e₂ in
        let w₂ : one skips d c (after a st) s e j ≡ got (some b) k = at_places (one skips d c (after a st) s) e z₃ e₂ e₃ in
        let w₃ : many skips d n c (after b (after a st)) s e k ≡ got xs q = at_places (many skips d n c (after b (after a st)) s) e z₄ e₃ refl in
        let w = swap_here d n c st e q xs w₁ w₂ w₃ in
        (at_places (many skips d (suc (suc n)) c st s') e w.0 (sym e₁) refl, w.1)
    swap_items (later x t) d zero c st e p q g = absurd (items_none (nested d skips) skips c st s e p q _ g)
    swap_items (later x t) d (suc n) c st e p q g =
        let (r, z₁, z₂) = items_apart (nested d skips) skips c st s e n p q x (plug t a b) g in
        let v = bounds skips s t a b ia ib d n c (after x st) e r q z₂ in
        let w = swap_items t d n c (after x st) e r q z₂ in
        let y = still_item tr.low skips d c st e p (omega arith) r x z₁ (omega arith) in
        (items_make (nested d skips) skips c st s' e n p q r x (plug t new_b new_a) y w.0, w.1)
    swap_items (inside from hd t xs) d zero c st e p q g = absurd (items_none (nested d skips) skips c st s e p q _ g)
    swap_items (inside from (head m w at l) t xs) d (suc n) c st e p q g =
        let (r, z₁, z₂) = items_apart (nested d skips) skips c st s e n p q (block from (head m w at l) (plug t a b)) xs g in
        let z = block_apart skips s d c st e p r from m w at l (plug t a b) z₁ in
        let v = bounds skips s t a b ia ib z.level (suc (8 * length s)) (ctx m w) (entered m st) (z.body / 8 + l) z.body z.last
        z.holds in
        let u = swap_items t z.level (suc (8 * length s)) (ctx m w) (entered m st) (z.body / 8 + l) z.body z.last z.holds in
        (swap_inside d n c st e p q r from m w at l t xs z (omega arith) (omega arith) u.0 z₂, u.1)
