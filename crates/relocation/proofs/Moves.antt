-- The relocation law of the walk: an item's front and rest, a block's body, the items of a block, a block inside a block. Assumes nothing.
use mathlib.Core.Path.{◌≡◌, refl, sym, ap, ◌∙◌, subst}
use mathlib.Core.Bool.{Bool, true, false}
use mathlib.Core.Option.{Option, none as nothing, some}
use mathlib.Core.List.{List}
use Prim.Native.Nat.{ℕ, zero, suc, ◌+◌, ◌-◌, ◌*◌, ◌/◌, ◌≤◌, ◌<◌}
use native.Mathlib.Omega.{arith}
use lib.ListN.{length, length-append}
use lib.Dec.{leb}
use borrow.Author.Tests.{leb-true, leb-false, le-leb}
use Rattle.terms.specs.Refusals.{Refusal}
use Rattle.bits.specs.Reader.{Reader, ◌>>=◌, give, stop, placed}
use Rattle.bits.specs.Bits.{limit, ends_at}
use Rattle.walk.specs.Piece.{Head, head, Piece, the_record, definition, blockinfo, skipped, block, Pieces, done, ◌then◌, counted, all_counted, store, all_store, State, after, entered}
use Rattle.walk.specs.Item.{Context, Begun, closing, heads, defines, records, heading, used, begun, begin, Opening, ended, defined, recorded, headed, event_room, leave_room, fits, finish, at_end, opening, Pass, Sub, body_of, complete, item, going_on, items, nested}
use Rattle.walk.proofs.Answers.{PartFits, tail, top_ends, size_of, Takes, Inner, Holds}
use Rattle.relocation.proofs.Shift.{mv, Wants, Began, Stands, Headed, move_record, move_part, move_head, move_begun, PartFine, HeadFine, Fitting, Front, FrontAsks, Asks, Open, Fine, Fines, Made, move_piece, move_pieces, move_opening, move_option, store_move, count_move, Like, after_like, entered_like}
use Rattle.relocation.proofs.Law.{Window, Free, same, Ends, Exact, Passes, Runs, Tells, exact_ends, recast, on, so, through, giving, giving_as, gives, stops, requires, roomy, rooms, branch, branch_on, branch_by, here_moves, places, turned}
use Rattle.relocation.proofs.Bodies.{withins}
use Rattle.relocation.proofs.Readers.{reads_at, aligns_at, aligns, vbrs, define_moves, numbers_at, lookup_moves, scalar_part_moves, unabbreviated_moves, rest_moves, info_moves}

-- two tests with the same outcome
leb_same : (a b c d : ℕ) → (a ≤ b → c ≤ d) → (c ≤ d → a ≤ b) → (x y : Bool) → leb a b ≡ x → leb c d ≡ y → leb c d ≡ leb a b
leb_same a b c d f g true true p q = q ∙ sym p
leb_same a b c d f g true false p q = absurd (omega (arith, f (leb-true a b p), leb-false c d q))
leb_same a b c d f g false true p q = absurd (omega (arith, g (leb-true c d q), leb-false a b p))
leb_same a b c d f g false false p q = q ∙ sym p

pub headed_le : (h : Head) (lim r : ℕ) → Headed lim h r → r ≤ lim
unfolding Headed
headed_le (head b w at n) lim r z = omega arith

-- a place that is not at the end is before it
before_end : (s : List ℕ) (e p : ℕ) → ends_at s e p ≡ false → p < limit s e
unfolding ends_at
before_end s e p h = leb-false (limit s e) p h

module _ {s s' : List ℕ} {lo hi up down : ℕ} {win : Window s s' lo hi up down} where
  -- ---- an item's front
  heading_moves : {e e' p : ℕ} → Ends win e e' → lo ≤ p → Runs win e e' p (Unit {0}) Stands Free (move_head up down) heading heading
  unfolding heading ◌>>=◌ give move_head Stands
  heading_moves t h =
      so _ (vbrs t h 8) (λ b q₁ g₁ _.
      so _ (requires t _ _ _) (λ _ q₂ g₂ _.
      so _ (vbrs t (omega arith) 4) (λ w q₃ g₃ _.
      so _ (aligns_at t (omega arith)) (λ _ q₄ g₄ z₄.
      so _ (reads_at t (omega arith) 32) (λ n q₅ g₅ z₅.
      so _ (here_moves t) (λ at q₆ g₆ z₆.
      giving_as (head b w (at / 8) (4 * n)) _ (ap (λ x. head b w x (4 * n)) (omega arith)) (omega arith) (λ v. v)))))))

  -- ---- tests of rooms
  leaves : {e e' p : ℕ} → Ends win e e' → (top : Bool) (from from' : ℕ) (st st' : State)
      → Runs win e e' p (Unit {0}) (λ _ _. tail top ≤ st.room) (λ _. tail top ≤ st'.room) same
      (leave_room top from st) (leave_room top from' st')
  unfolding leave_room event_room give tail
  leaves t true from from' st st' = giving _ (omega arith) (λ v. tt)
  leaves {e} {e'} t false from from' st st' = recast (rooms e e' st.room st'.room _ _) (λ _ _ _ v. v.0) (λ _ v. v) (λ _ _ v. v)

  -- that the second run's body fits is what it asks
  fits_moves : {e e' p : ℕ} → Ends win e e' → lo ≤ p → (h : Head) → Stands h p
      → Runs win e e' p (Unit {0}) (λ _ q. Headed (limit s e) h q) (λ _. Fitting up down (limit s' e') h) same
      (fits h) (fits (move_head up down h))
  unfolding fits move_head Stands Headed Fitting
  fits_moves {e} {e'} {p} t g (head b w at n) z =
      recast (roomy e e' (leb (p + 8 * n) (limit s e)) (leb (mv up down p + 8 * n) (limit s' e')) _ _)
      (λ _ q _ v. omega (arith, leb-true (p + 8 * n) (limit s e) v.0, v.1))
      (λ _ v. le-leb (mv up down p + 8 * n) (limit s' e') (omega arith)) (λ _ _ v. v)

  at_end_moves : {e e' p : ℕ} → Ends win e e' → ends_at s' e' (mv up down p) ≡ ends_at s e p
      → Tells win e e' p (λ b q. (b ≡ ends_at s e p) × (q ≡ p)) at_end
  unfolding at_end
  at_end_moves t x = giving_as _ _ x (refl, refl) (λ v. tt)

  -- ---- where the ends are moved too, as in a body
  pub exact_out : {e e' p : ℕ} → Exact win e e' → lo ≤ p → ends_at s' e' (mv up down p) ≡ ends_at s e p
  unfolding ends_at
  exact_out {e} {e'} {p} x h =
      leb_same (limit s e) p (limit s' e') (mv up down p) (λ v. omega arith) (λ v. omega arith) _ _ refl refl

  exact_fits : {e e' p : ℕ} → Exact win e e' → lo ≤ p → (h : Head) → Headed (limit s e) h p → Fitting up down (limit s' e') h
  unfolding Headed Fitting
  exact_fits x h (head b w at n) z = omega arith

  module _ {og oo : ℕ} where
    used_moves : {e e' p : ℕ} → Ends win e e' → lo ≤ p → (c : Context) {st st' : State} → Like og oo st st' → (n : ℕ)
        → Runs win e e' p (Unit {0}) (λ x _. PartFits st.left x × PartFine up down x) (PartFits st'.left) (move_part up down)
        (used c st n) (used c st' n)
    unfolding used ◌>>=◌
    used_moves t h c {st} {st'} l n =
        rw l.l_mine (so _ (lookup_moves t _ _ (n - 4) st.mine) (λ a q g _.
        scalar_part_moves t (omega arith) st.left st'.left a))

    begun_moves : {e e' p : ℕ} → Ends win e e' → lo ≤ p → (c : Context) {st st' : State} → Like og oo st st' → (n : ℕ)
        → Runs win e e' p (Unit {0}) (Front up down st) (FrontAsks up down st') (move_begun up down) (begun c st n) (begun c st' n)
    unfolding begun ◌>>=◌ give move_begun Front FrontAsks
    begun_moves t h c {st} {st'} l n =
        branch t _ _ _ _ _ (so _ (aligns t h) (λ _ q g _. giving closing tt (λ v. v))) (
        branch t _ _ _ _ _ (so _ (heading_moves t h) (λ x q g z. giving (heads x) z (λ v. v))) (
        branch t _ _ _ _ _ (so _ (define_moves t h) (λ a q g _. giving (defines a) tt (λ v. v))) (
        branch t _ _ _ _ _ (on _ (unabbreviated_moves t h st.left st'.left) (λ x q g z. giving (records x) z (λ v. (v, tt))))
        (on _ (used_moves t h c l n) (λ x q g z. giving (records x) z (λ v. (v, tt)))))))

    -- it takes a bit at least
    pub begin_moves : {e e' p : ℕ} → Ends win e e' → lo ≤ p → (c : Context) {st st' : State} → Like og oo st st'
        → Runs win e e' p (Unit {0}) (λ x q. (p < q) × Front up down st x q) (FrontAsks up down st') (move_begun up down)
        (begin c st) (begin c st')
    unfolding begin ◌>>=◌
    begin_moves t h c l = so _ (numbers_at t h c.wide) (λ n q g z.
        recast (begun_moves t (omega arith) c l n) (λ _ r g₁ v. (omega arith, v)) (λ _ v. v) (λ _ _ v. v))

    -- ---- an item without a block's body
    finish_moves : {e e' p : ℕ} → Ends win e e' → lo ≤ p → (c : Context) (from : ℕ) → lo ≤ from → {st st' : State} → Like og oo st st'
        → (x : Begun) → from < p → from < limit s e → Front up down st x p
        → Runs win e e' p (FrontAsks up down st' x) (Open up down og oo (limit s e) c.top st from) (Asks up down (limit s' e') c.top st')
        (move_opening up down og oo) (finish c st from x) (finish c st' (mv up down from) (move_begun up down x))
    unfolding finish move_begun Front FrontAsks placed event_room ◌>>=◌ give move_opening Open Asks
    finish_moves t h c from k {st} {st'} l closing z₁ z₂ z = on _ (leaves t c.top _ _ st st') (λ _ q g y. giving ended y (λ v. (v, tt)))
    finish_moves t h c from k l (heads x) z₁ z₂ z =
        on _ (places _ _ (fits_moves t h x z)) (λ _ q g y. giving (headed from x) (omega arith, y, refl) (λ v. (v, tt)))
    finish_moves t h c from k l (defines a) z₁ z₂ z =
        rw l.l_locals (so _ (requires t _ _ _) (λ _ q g y. giving (defined a) (omega arith) (λ v. v)))
    finish_moves {e} {e'} t h c from k {st} {st'} l (records x) z₁ z₂ z =
        through _ (places _ _ (rest_moves t h st.left st'.left x z.0 z.1)) (λ r q g y.
        on _ (rooms e e' st.room st'.room _ _) (λ _ q₁ g₁ y₁.
        giving_as (recorded from c.number st.fill r) _
        (ap (λ n. recorded (mv up down from) c.number n (move_record up down r)) (omega arith))
        (omega arith, omega arith, y₁.0, y.0, omega arith, y.1, refl) (λ v. (v.0, v.1))))

    -- given that both runs are at the end of their bits, or neither is
    pub opening_moves : {e e' p : ℕ} → Ends win e e' → lo ≤ p → ends_at s' e' (mv up down p) ≡ ends_at s e p
        → (c : Context) {st st' : State} → Like og oo st st'
        → Runs win e e' p (Unit {0}) (Open up down og oo (limit s e) c.top st p) (Asks up down (limit s' e') c.top st')
        (move_opening up down og oo) (opening c st) (opening c st')
    unfolding opening placed ◌>>=◌ give Open Asks move_opening
    opening_moves {e} {e'} {p} t h x c {st} {st'} l = so _ (here_moves t) (λ from q g z.
        let w : from ≡ p = omega arith in
        so _ (at_end_moves t (subst (λ y. ends_at s' e' (mv up down y) ≡ ends_at s e y) (sym z.1) x)) (λ out q₁ g₁ z₁.
        branch_on t _ _ _ _ _ (λ _. so _ (requires t _ _ _) (λ _ q₂ g₂ z₂. giving ended (top_ends _ st z₂.0) (λ v. tt)))
        (λ y. on _ (places _ _ (begin_moves t (omega arith) c l)) (λ b q₂ g₂ z₂.
        let u : from < limit s e = before_end s e from (ap (ends_at s e) z.0 ∙ sym z₁.0 ∙ y) in
        recast (finish_moves t (omega arith) c from (omega arith) l b (omega (arith, z₂.0)) u z₂.1)
        (λ o r _ v. subst (λ n. Open up down og oo (limit s e) c.top st n o r) w v) (λ _ v. v) (λ _ _ v. (v, tt))))))

-- ---- the law of a reader of nested blocks
module _ {s s' : List ℕ} {lo hi up down : ℕ} (win : Window s s' lo hi up down) (og oo : ℕ) where
  pub record Subs (sub sub' : Sub) : Type 0 where
    pub subs : (e e' p : ℕ) → lo ≤ p → (from : ℕ) (h : Head) (st st' : State) → Like og oo st st' → Headed (limit s e) h p
        → Fitting up down (limit s' e') h
        → Runs win e e' p (Unit {0}) (λ xs q. Inner st xs × (q ≡ p + 8 * size_of h) × Fines up down og oo xs) (Inner st')
        (move_pieces up down og oo) (sub from h st) (sub' (mv up down from) (move_head up down h) st')

module _ {s s' : List ℕ} {lo hi up down : ℕ} {win : Window s s' lo hi up down} {og oo : ℕ} where
  pub body_moves : {sub sub' : Sub} → Subs win og oo sub sub' → {skips skips' : Pass} → Passes win skips skips'
      → {e e' p : ℕ} → Ends win e e' → lo ≤ p
      → (from : ℕ) (h : Head) {st st' : State} → Like og oo st st' → Headed (limit s e) h p → Fitting up down (limit s' e') h
      → lo ≤ from → from < p
      → Runs win e e' p (Unit {0}) (λ x q. Takes st x × Began x from q × (q ≡ p + 8 * size_of h) × Fine up down og oo x) (Takes st')
      (move_piece up down og oo) (body_of sub skips from st h) (body_of sub' skips' (mv up down from) st' (move_head up down h))
  unfolding body_of event_room move_head Headed Fitting Fine HeadFine ◌>>=◌ give move_piece Takes Began size_of Inner counted store
  body_moves r {skips} {skips'} ps {e} {e'} {p} t h from (head b w at n) {st} {st'} l (z₀, z₁, z₂, z₃) f g₀ g =
      branch t _ _ _ _ _
      (rw l.l_shareds (
      so _ (withins {win = win} {K = Free} e' h n _ _ z₁ z₂ (omega arith)
      (λ t₁. turned _ _ _ _ (λ k. info_moves (exact_ends t₁) k w nothing _ h))) (λ xs q g₁ z₄.
      giving (blockinfo from (head b w at n) xs) (omega arith) (λ v. tt))))
      (branch_by t (skips from b) (skips' (mv up down from) b) (λ v. ps.passes from b g₀ (omega arith)) _ _ _ _
      (on _ (rooms e e' st.room st'.room _ _) (λ _ q g₁ z₄.
      so _ (withins {win = win} {K = Free} {p = q} e' (omega arith) n _ _ (omega arith) (omega arith) (omega arith) (λ t₁. gives tt)) (λ _ q₁ g₂ z₅.
      giving (skipped from (head b w at n)) (omega arith) (λ v. (v.0, tt)))))
      (on _ (r.subs e e' p h from (head b w at n) st st' l (z₀, z₁, z₂, z₃) f) (λ xs q g₁ z₄.
      giving (block from (head b w at n) xs) (omega arith, omega arith, z₄.1, (omega arith, omega arith, z₄.2)) (λ v. omega arith))))

  complete_moves : {sub sub' : Sub} → Subs win og oo sub sub' → {skips skips' : Pass} → Passes win skips skips'
      → {e e' p : ℕ} → Exact win e e' → lo ≤ p
      → (top : Bool) (p₀ : ℕ) → lo ≤ p₀ → {st st' : State} → Like og oo st st' → (o : Opening)
      → Open up down og oo (limit s e) top st p₀ o p
      → Runs win e e' p (Asks up down (limit s' e') top st' o) (Made up down og oo (limit s e) top st p₀) (Wants top st')
      (move_option up down og oo) (complete sub skips st o) (complete sub' skips' st' (move_opening up down og oo o))
  unfolding complete Open Asks Made Wants Fine move_opening move_option move_piece give ◌>>=◌ Takes Began counted store
  complete_moves r ps x h top p₀ h₀ l ended z = giving nothing z (λ v. v)
  complete_moves r ps x h top p₀ h₀ l (defined a) z = giving (some (definition a)) (z.0, z.1, omega arith, tt, tt) (λ v. tt)
  complete_moves r ps x h top p₀ h₀ l (recorded from b first y) z =
      giving (some (the_record from b first y)) (z.0, z.1, (z.2, z.3), tt, (z.4, z.5, omega (arith, z.6))) (λ v. v)
  complete_moves r ps {e} x h top p₀ h₀ l (headed from y) z =
      let f = exact_fits x h y z.1 in
      let g₀ = headed_le y (limit s e) _ z.1 in
      on _ (body_moves r ps (exact_ends x) h from y l z.1 f (omega (arith, z.2)) z.0) (λ y q g z₁.
      giving (some y)
      (omega (arith, z.0, z.2), omega (arith, z.0, z.2), z₁.0, subst (λ n. Began y n q) z.2 z₁.1, z₁.3) (λ v. (v, f)))

  pub item_moves : {sub sub' : Sub} → Subs win og oo sub sub' → {skips skips' : Pass} → Passes win skips skips'
      → {e e' p : ℕ} → Exact win e e' → lo ≤ p → (c : Context) {st st' : State} → Like og oo st st'
      → Runs win e e' p (Unit {0}) (Made up down og oo (limit s e) c.top st p) (Wants c.top st') (move_option up down og oo)
      (item sub skips c st) (item sub' skips' c st')
  unfolding item ◌>>=◌
  item_moves r ps {p} x h c l = through _ (opening_moves (exact_ends x) h (exact_out x h) c l) (λ o q g z.
      complete_moves r ps x (omega arith) c.top p h l o z)

  going_moves : {e e' p : ℕ} → Exact win e e' → lo ≤ p → (top : Bool) (x : Option Piece) (p₀ : ℕ) → lo ≤ p₀
      → {st st' : State} → Like og oo st st' → Made up down og oo (limit s e) top st p₀ x p → (m m' : Piece → Reader Refusal Pieces)
      → ((y : Piece) → Runs win e e' p (Unit {0}) (λ xs _. Holds top (after y st) xs × Fines up down og oo xs)
      (Holds top (after (move_piece up down og oo y) st')) (move_pieces up down og oo) (m y) (m' (move_piece up down og oo y)))
      → Runs win e e' p (Wants top st' x) (λ xs _. Holds top st xs × Fines up down og oo xs) (Holds top st') (move_pieces up down og oo)
      (going_on p₀ x m) (going_on (mv up down p₀) (move_option up down og oo x) m')
  unfolding going_on ◌>>=◌ give Made Wants Holds Fines Takes after move_option move_pieces all_counted all_store
  going_moves t h top nothing p₀ h₀ l k m m' w = giving (done p₀) (omega arith, omega arith) (λ v. omega arith)
  going_moves t h top (some x) p₀ h₀ l k m m' w = on _ (w x) (λ xs q g z.
      giving (◌then◌ x xs) (omega (arith, k.2, length-append (store x) (all_store xs)), (k.4, z.1))
      (λ v. omega (arith, length-append (store x) (all_store xs), count_move up down og oo x, ap length (store_move up down og oo x))))

  pub items_move : {sub sub' : Sub} → Subs win og oo sub sub' → {skips skips' : Pass} → Passes win skips skips'
      → (c : Context) (k : ℕ) {e e' : ℕ} → Exact win e e'
      → {st st' : State} → Like og oo st st' → {p : ℕ} → lo ≤ p
      → Runs win e e' p (Unit {0}) (λ xs _. Holds c.top st xs × Fines up down og oo xs) (Holds c.top st') (move_pieces up down og oo)
      (items k sub skips c st) (items k sub' skips' c st')
  unfolding items ◌>>=◌ stop
  items_move r ps c zero t l h = stops _
  items_move r ps c (suc k) {e} t {st} l h =
      so _ (here_moves (exact_ends t)) (λ from q g z.
      through _ (item_moves r ps t (omega arith) c l) (λ x q₁ g₁ z₁.
      going_moves t (omega arith) c.top x from (omega arith) l
      (subst (λ n. Made up down og oo (limit s e) c.top st n x q₁) (sym z.0) z₁) _ _
      (λ y. items_move r ps c k t (after_like up down y l) (omega arith))))

  nested_at : (d : ℕ) {skips skips' : Pass} → Passes win skips skips' → (e e' p : ℕ) → lo ≤ p → (from : ℕ) (h : Head) (st st' : State)
      → Like og oo st st' → Headed (limit s e) h p → Fitting up down (limit s' e') h
      → Runs win e e' p (Unit {0}) (λ xs q. Inner st xs × (q ≡ p + 8 * size_of h) × Fines up down og oo xs) (Inner st')
      (move_pieces up down og oo) (nested d skips from h st) (nested d skips' (mv up down from) (move_head up down h) st')
  unfolding nested event_room Headed Fitting stop ◌>>=◌ move_head Inner Holds size_of entered tail
  nested_at zero ps e e' p h from (head b w at n) st st' l z f = stops _
  nested_at (suc d) ps e e' p h from (head b w at n) st st' l z f =
      on _ (rooms e e' st.room st'.room _ _) (λ _ q g z₁.
      recast (withins {win = win} {K = λ xs. Holds false (entered b st) xs × Fines up down og oo xs} {p = q} e' (omega arith) n _ _
      (omega arith) (omega arith) (omega arith)
      (λ t₁. turned _ _ _ _ (λ k. items_move (record { subs = nested_at d ps }) ps _ k t₁ (entered_like b l) (omega arith))))
      (λ _ _ _ v. (omega arith, omega arith, v.0.1)) (λ _ v. omega arith) (λ _ v _. omega arith))

  pub nested_moves : (d : ℕ) {skips skips' : Pass} → Passes win skips skips' → Subs win og oo (nested d skips) (nested d skips')
  nested_moves d ps = record { subs = nested_at d ps }
