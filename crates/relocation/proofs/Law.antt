-- The relocation law, and how it goes through `do`. Two streams agree on the bits lo..hi of the first, moved by a multiple of 32: up - down.
-- What a reader gets in the first from a place at or behind lo, to a place at or before hi, it gets in the second, moved. Assumes nothing.
use mathlib.Core.Path.{◌≡◌, refl, sym, ap, ap₂, subst}
use mathlib.Core.Bool.{Bool, true, false, false≢true}
use mathlib.Core.List.{List}
use Prim.Native.Nat.{ℕ, ◌+◌, ◌-◌, ◌*◌, ◌/◌, ◌%◌, ◌≤◌, ◌<◌, min}
use native.Mathlib.Omega.{arith}
use lib.ListN.{length}
use lib.Dec.{ltb, leb}
use borrow.Author.Tests.{leb-true, leb-false, ltb-true, lt-ltb}
use Rattle.terms.specs.Refusals.{No, no}
use Rattle.bits.specs.Reader.{Reader, Answer, got, refused, onward, require, when◌then◌else◌, here, turns, at_place}
use Rattle.bits.specs.Bits.{bit, limit}
use Rattle.walk.specs.Item.{Pass}
use Rattle.relocation.proofs.Shift.{mv}

pub record Window (s s' : List ℕ) (lo hi up down : ℕ) : Type 0 where
  pub agree : (i : ℕ) → lo ≤ i → i < hi → bit s i ≡ bit s' (i + up - down)
  pub low : down ≤ lo
  pub u32 : up % 32 ≡ 0
  pub d32 : down % 32 ≡ 0
  pub lengths : length s' ≡ length s

-- what a value and a place need not tell; what a value need not ask; a value that doesn't move
abbrev pub AnyPlace : {A : Type 0} → A → ℕ → Type 0
AnyPlace a q = Unit {0}

abbrev pub Free : {A : Type 0} → A → Type 0
Free a = Unit {0}

abbrev pub same : {A : Type 0} → A → A
same a = a

-- ---- the law
module _ {s s' : List ℕ} {lo hi up down : ℕ} (win : Window s s' lo hi up down) where
  -- the second run's end is far enough for what the first reads before hi
  pub record Ends (e e' : ℕ) : Type 0 where
    pub ends : min hi (limit s e) + up ≤ limit s' e' + down

  -- the ends themselves are moved
  pub record Exact (e e' : ℕ) : Type 0 where
    pub exact : limit s' e' + down ≡ limit s e + up

  -- blocks that begin in the window are passed over by both or by neither
  pub record Passes (skips skips' : Pass) : Type 0 where
    pub passes : (from b : ℕ) → lo ≤ from → from < hi → skips' (mv up down from) b ≡ skips from b

  -- of a read from p on that got a, and came to q; K: what the first run tells of value and place; F: what the value asks of the second run's rooms;
  -- P: what the reads before this one asked; f: the value moved; x': what the second run answers
  pub record Gets {R A B : Type 0} (e : ℕ) (P : Type 0) (K : A → ℕ → Type 0) (F : A → Type 0) (f : A → B) (p : ℕ)
      (x' : Answer R B) (a : A) (q : ℕ) : Type 0 where
    pub rises : p ≤ q
    pub tells : K a q
    pub asks : F a → P
    pub runs : q ≤ hi → F a → x' ≡ got (f a) (mv up down q)
    pub stays : p ≤ limit s e → q ≤ limit s e

  -- a refusal of the first run says nothing of the second
  unfoldable pub Moves : {R A B : Type 0} → ℕ → Type 0 → (A → ℕ → Type 0) → (A → Type 0) → (A → B) → ℕ → Answer R B → Answer R A → Type 0
  Moves e P K F f p x' (got a q) = Gets e P K F f p x' a q
  Moves e P K F f p x' (refused r) = Unit {0}

  pub record Moved {R A B : Type 0} (e : ℕ) (P : Type 0) (K : A → ℕ → Type 0) (F : A → Type 0) (f : A → B) (p : ℕ)
      (x : Answer R A) (x' : Answer R B) : Type 0 where
    pub moves : Moves e P K F f p x' x

  -- a read that tells nothing and asks nothing
  abbrev pub Easy : {R A B : Type 0} → ℕ → (A → B) → ℕ → Answer R A → Answer R B → Type 0
  Easy e f p x x' = Moved e (Unit {0}) AnyPlace Free f p x x'

  -- two readers, from a place on
  abbrev pub Runs : {R A B : Type 0} → ℕ → ℕ → ℕ → Type 0 → (A → ℕ → Type 0) → (A → Type 0) → (A → B) → Reader R A → Reader R B → Type 0
  Runs e e' p P K F f m m' = Moved e P K F f p (m s e p) (m' s' e' (mv up down p))

  -- one reader that asks nothing and whose value doesn't move; one that tells nothing either
  abbrev pub Tells : {R A : Type 0} → ℕ → ℕ → ℕ → (A → ℕ → Type 0) → Reader R A → Type 0
  Tells e e' p K m = Runs e e' p (Unit {0}) K Free same m m

  abbrev pub Keeps : {R A : Type 0} → ℕ → ℕ → ℕ → Reader R A → Type 0
  Keeps e e' p m = Tells e e' p AnyPlace m

-- ---- its use
module _ {s s' : List ℕ} {lo hi up down : ℕ} {win : Window s s' lo hi up down} where
  pub exact_ends : {e e' : ℕ} → Exact win e e' → Ends win e e'
  exact_ends x = record { ends = omega arith }

  pub taken : {R A B : Type 0} {P : Type 0} {K : A → ℕ → Type 0} {F : A → Type 0} {f : A → B}
      {e p q : ℕ} {x : Answer R A} {x' : Answer R B} {a : A} → Moved win e P K F f p x x' → x ≡ got a q → Gets win e P K F f p x' a q
  unfolding Moves
  taken {P} {K} {F} {f} {e} {p} {x'} m z = subst (λ y. Moves win e P K F f p x' y) z m.moves

  -- consequence
  pub recast : {R A B : Type 0} {P P' : Type 0} {K K' : A → ℕ → Type 0} {F F' : A → Type 0} {f : A → B}
      {e p : ℕ} {x : Answer R A} {x' : Answer R B}
      → Moved win e P K F f p x x' → ((a : A) (q : ℕ) → p ≤ q → K a q → K' a q) → ((a : A) → F' a → F a) → ((a : A) → F' a → P → P')
      → Moved win e P' K' F' f p x x'
  unfolding Moves
  recast {x = got a q} m k f g =
      let v = m.moves in
      record {
        moves = record {
          rises = v.rises;
          tells = k a q v.rises v.tells;
          asks = λ w. g a w (v.asks (f a w));
          runs = λ z w. v.runs z (f a w);
          stays = v.stays;
        };
      }
  recast {x = refused r} m k f g = record { moves = tt }

  -- what is told, no more than that
  pub knows : {R A B : Type 0} {K K' : A → ℕ → Type 0} {f : A → B} {e p : ℕ} {x : Answer R A} {x' : Answer R B}
      → Moved win e (Unit {0}) K Free f p x x' → ((a : A) (q : ℕ) → p ≤ q → K a q → K' a q) → Moved win e (Unit {0}) K' Free f p x x'
  knows m k = recast m k (λ _ _. tt) (λ _ _ _. tt)

  pub easy : {R A B : Type 0} {K : A → ℕ → Type 0} {f : A → B} {e p : ℕ} {x : Answer R A} {x' : Answer R B}
      → Moved win e (Unit {0}) K Free f p x x' → Easy win e f p x x'
  easy m = knows m (λ _ _ _ _. tt)

  -- ---- one reader behind the other
  last : {R B C D : Type 0} {P : Type 0} {FA : Type 0} {KC : C → ℕ → Type 0} {FC : C → Type 0} {g : C → D}
      {e p q : ℕ} {y : Answer R C} (b : B) (x' : Answer R B) (k' : B → ℕ → Answer R D)
      → p ≤ q → (p ≤ limit s e → q ≤ limit s e) → (q ≤ hi → FA → x' ≡ got b (mv up down q))
      → Moved win e (FA × P) KC FC g q y (k' b (mv up down q)) → Moved win e P KC FC g p y (onward x' k')
  unfolding Moves onward
  last {y = got c r} b x' k' h l m n =
      let v = n.moves in
      let u = v.rises in
      record {
        moves = record {
          rises = omega arith;
          tells = v.tells;
          asks = λ w. (v.asks w).1;
          runs = λ z w. rw (m (omega arith) (v.asks w).0) (v.runs z w);
          stays = λ z. v.stays (l z);
        };
      }
  last {y = refused r} b x' k' h l m n = record { moves = tt }

  pub on : {R A B C D : Type 0} {P : Type 0} {KA : A → ℕ → Type 0} {FA : A → Type 0} {f : A → B}
      {KC : C → ℕ → Type 0} {FC : C → Type 0} {g : C → D}
      {e p : ℕ} {x : Answer R A} {x' : Answer R B} {k : A → ℕ → Answer R C} (k' : B → ℕ → Answer R D)
      → Moved win e (Unit {0}) KA FA f p x x'
      → ((a : A) (q : ℕ) → p ≤ q → KA a q → Moved win e (FA a × P) KC FC g q (k a q) (k' (f a) (mv up down q)))
      → Moved win e P KC FC g p (onward x k) (onward x' k')
  unfolding Moves onward
  on {x = got a q} {x'} k' m n = let v = m.moves in last _ x' k' v.rises v.stays v.runs (n a q v.rises v.tells)
  on {x = refused r} k' m n = record { moves = tt }

  -- the same, where the first asks nothing
  pub so : {R A B C D : Type 0} {P : Type 0} {KA : A → ℕ → Type 0} {f : A → B}
      {KC : C → ℕ → Type 0} {FC : C → Type 0} {g : C → D}
      {e p : ℕ} {x : Answer R A} {x' : Answer R B} {k : A → ℕ → Answer R C} (k' : B → ℕ → Answer R D)
      → Moved win e (Unit {0}) KA Free f p x x'
      → ((a : A) (q : ℕ) → p ≤ q → KA a q → Moved win e P KC FC g q (k a q) (k' (f a) (mv up down q)))
      → Moved win e P KC FC g p (onward x k) (onward x' k')
  so k' m n = on k' m (λ a q h ka. recast (n a q h ka) (λ _ _ _ v. v) (λ _ v. v) (λ _ _ v. (tt, v)))

  -- the same, where what was asked before stands with the first
  pub through : {R A B C D : Type 0} {P : Type 0} {KA : A → ℕ → Type 0} {FA : A → Type 0} {f : A → B}
      {KC : C → ℕ → Type 0} {FC : C → Type 0} {g : C → D}
      {e p : ℕ} {x : Answer R A} {x' : Answer R B} {k : A → ℕ → Answer R C} (k' : B → ℕ → Answer R D)
      → Moved win e P KA FA f p x x'
      → ((a : A) (q : ℕ) → p ≤ q → KA a q → Moved win e (FA a) KC FC g q (k a q) (k' (f a) (mv up down q)))
      → Moved win e P KC FC g p (onward x k) (onward x' k')
  unfolding Moves onward
  through {x = got a q} {x'} k' m n =
      let v = m.moves in
      last _ x' k' v.rises v.stays v.runs
      (recast (n a q v.rises v.tells) (λ _ _ _ w. w) (λ _ w. w) (λ _ _ w. (w, v.asks w)))
  through {x = refused r} k' m n = record { moves = tt }

  -- ---- the ends of a `do`
  pub giving : {R A B : Type 0} {P : Type 0} {K : A → ℕ → Type 0} {F : A → Type 0} {f : A → B} {e p : ℕ} (a : A)
      → K a p → (F a → P) → Moved win {R = R} e P K F f p (got a p) (got (f a) (mv up down p))
  unfolding Moves
  giving a k w = record { moves = record { rises = omega arith; tells = k; asks = w; runs = λ z v. refl; stays = λ z. z } }

  -- where the second run's value is the moved one by a lemma
  pub giving_as : {R A B : Type 0} {P : Type 0} {K : A → ℕ → Type 0} {F : A → Type 0} {f : A → B} {e p : ℕ} (a : A) (a' : B)
      → a' ≡ f a → K a p → (F a → P) → Moved win {R = R} e P K F f p (got a p) (got a' (mv up down p))
  unfolding Moves
  giving_as {p} a a' z k w = record {
    moves = record { rises = omega arith; tells = k; asks = w; runs = λ _ v. ap (λ x. got x (mv up down p)) z; stays = λ z. z };
  }

  pub gives : {R A B : Type 0} {f : A → B} {e p : ℕ} (a : A) → Easy win {R = R} e f p (got a p) (got (f a) (mv up down p))
  gives a = giving a tt (λ v. v)

  pub stops : {R A B : Type 0} {P : Type 0} {K : A → ℕ → Type 0} {F : A → Type 0} {f : A → B} {e p : ℕ} {x' : Answer R B} (r : R)
      → Moved win e P K F f p (refused r) x'
  unfolding Moves
  stops r = record { moves = tt }

  -- ---- tests
  -- that both runs make on the same numbers
  pub requires : {R : Type 0} {e e' p : ℕ} → Ends win e e' → (b : Bool) (r r' : R)
      → Runs win e e' p (Unit {0}) (λ _ q. (b ≡ true) × (q ≡ p)) Free same (require b r) (require b r')
  unfolding require
  requires t true r r' = giving tt (refl, refl) (λ v. v)
  requires t false r r' = stops _

  -- of the runs' own numbers: that the second's passes is what it asks
  pub roomy : {R : Type 0} {p : ℕ} (e e' : ℕ) (b b' : Bool) (r r' : R)
      → Runs win e e' p (Unit {0}) (λ _ q. (b ≡ true) × (q ≡ p)) (λ _. b' ≡ true) same (require b r) (require b' r')
  unfolding require Moves
  roomy e e' true true r r' = giving tt (refl, refl) (λ v. tt)
  roomy e e' true false r r' = record {
    moves = record { rises = omega arith; tells = (refl, refl); asks = λ v. tt; runs = λ z v. absurd (false≢true v); stays = λ z. z };
  }
  roomy e e' false b' r r' = stops _

  pub rooms : {R : Type 0} {p : ℕ} (e e' n n' : ℕ) (r r' : R)
      → Runs win e e' p (Unit {0}) (λ _ q. (0 < n) × (q ≡ p)) (λ _. 0 < n') same (require (ltb 0 n) r) (require (ltb 0 n') r')
  rooms e e' n n' r r' =
      recast (roomy e e' (ltb 0 n) (ltb 0 n') r r') (λ _ _ _ v. (ltb-true _ _ v.0, v.1)) (λ _ v. lt-ltb _ _ v) (λ _ _ v. v)

  -- a move that ends at q: both runs test their limit
  pub bounded : {A : Type 0} {e e' p : ℕ} → Ends win e e' → (q q' : ℕ) (a a' : A) (r : No) → lo ≤ p → p ≤ q → q' ≡ mv up down q → (q ≤ hi → a' ≡ a)
      → (b b' : Bool) → leb q (limit s e) ≡ b → leb q' (limit s' e') ≡ b'
      → Moved win e (Unit {0}) (λ _ r. (r ≡ q) × (q ≤ limit s e)) Free same p
      (when b then got a q else refused r) (when b' then got a' q' else refused r)
  unfolding Moves when◌then◌else◌
  bounded {e} t q q' a a' r h g m w true true z z' =
      let l : q ≤ limit s e = leb-true q (limit s e) z in
      record { moves = record { rises = g; tells = (refl, l); asks = λ v. v; runs = λ c v. ap₂ got (w c) m; stays = λ c. l } }
  bounded {e} {e'} t q q' a a' r h g m w true false z z' =
      let l : q ≤ limit s e = leb-true q (limit s e) z in
      let l' : limit s' e' < q' = leb-false q' (limit s' e') z' in
      record { moves = record { rises = g; tells = (refl, l); asks = λ v. v; runs = λ c v. absurd (omega arith); stays = λ c. l } }
  bounded t q q' a a' r h g m w false b' z z' = stops _

  pub branch : {R A B : Type 0} {P : Type 0} {K : A → ℕ → Type 0} {F : A → Type 0} {f : A → B} {e e' p : ℕ} → Ends win e e'
      → (b : Bool) (m n : Reader R A) (m' n' : Reader R B)
      → Runs win e e' p P K F f m m' → Runs win e e' p P K F f n n'
      → Runs win e e' p P K F f (when b then m else n) (when b then m' else n')
  unfolding when◌then◌else◌
  branch t true m n m' n' x y = x
  branch t false m n m' n' x y = y

  -- where the test tells something
  pub branch_on : {R A B : Type 0} {P : Type 0} {K : A → ℕ → Type 0} {F : A → Type 0} {f : A → B} {e e' p : ℕ} → Ends win e e'
      → (b : Bool) (m n : Reader R A) (m' n' : Reader R B)
      → (b ≡ true → Runs win e e' p P K F f m m')
      → (b ≡ false → Runs win e e' p P K F f n n')
      → Runs win e e' p P K F f (when b then m else n) (when b then m' else n')
  unfolding when◌then◌else◌
  branch_on t true m n m' n' x y = x refl
  branch_on t false m n m' n' x y = y refl

  -- a second run that doesn't matter: the first is past hi
  past_hi : {R A B : Type 0} {P : Type 0} {K : A → ℕ → Type 0} {F : A → Type 0} {f : A → B} {e p : ℕ} {x : Answer R A} {x' y' : Answer R B}
      → (p ≤ hi → ⊥) → Moved win e P K F f p x x' → Moved win e P K F f p x y'
  unfolding Moves
  past_hi {x = got a q} h m =
      let v = m.moves in
      let u = v.rises in
      record { moves = record { rises = u; tells = v.tells; asks = v.asks; runs = λ z w. absurd (h (omega arith)); stays = v.stays } }
  past_hi {x = refused r} h m = record { moves = tt }

  -- two tests that agree where the first run is still before hi
  pub branch_by : {R A B : Type 0} {P : Type 0} {K : A → ℕ → Type 0} {F : A → Type 0} {f : A → B} {e e' p : ℕ} → Ends win e e'
      → (b b' : Bool) → (p ≤ hi → b' ≡ b) → (m n : Reader R A) (m' n' : Reader R B)
      → Runs win e e' p P K F f m m' → Runs win e e' p P K F f n n'
      → Runs win e e' p P K F f (when b then m else n) (when b' then m' else n')
  unfolding when◌then◌else◌
  branch_by t true true h m n m' n' x y = x
  branch_by t true false h m n m' n' x y = past_hi (λ v. false≢true (h v)) x
  branch_by t false true h m n m' n' x y = past_hi (λ v. false≢true (sym (h v))) y
  branch_by t false false h m n m' n' x y = y

  -- ---- places, turns, parts
  pub here_moves : {R : Type 0} {e e' p : ℕ} → Ends win e e'
      → Runs win {R = R} e e' p (Unit {0}) (λ a q. (a ≡ q) × (q ≡ p)) Free (mv up down) here here
  unfolding here
  here_moves t = giving _ (refl, refl) (λ v. v)

  pub places : {A B : Type 0} {P : Type 0} {K : A → ℕ → Type 0} {F : A → Type 0} {f : A → B} {e p : ℕ} {x : Answer No A} {x' : Answer No B}
      (from from' : ℕ) → Moved win e P K F f p x x' → Moved win e P K F f p (at_place from x) (at_place from' x')
  unfolding Moves at_place
  places {x = got a q} from from' m =
      let v = m.moves in
      record { moves = record { rises = v.rises; tells = v.tells; asks = v.asks; runs = λ z w. rw (v.runs z w); stays = v.stays } }
  places {x = refused (no n y z)} from from' m = record { moves = tt }

  pub turned : {R A B : Type 0} {P : Type 0} {K : A → ℕ → Type 0} {F : A → Type 0} {f : A → B} {p : ℕ} (e e' : ℕ)
      → (m : ℕ → Reader R A) (m' : ℕ → Reader R B) → ((k : ℕ) → Runs win e e' p P K F f (m k) (m' k))
      → Runs win e e' p P K F f (turns m) (turns m')
  unfolding turns
  turned e e' m m' w = rw win.lengths (w _)

  pub behind : {R A B : Type 0} {P : Type 0} {K : A → Type 0} {F : A → Type 0} {f : A → B} {e p e₁ : ℕ} {x : Answer R A} {x' : Answer R B}
      (n : ℕ) → lo ≤ p → limit s e₁ ≡ p + 8 * n → p + 8 * n ≤ limit s e → Moved win e₁ P (λ a _. K a) F f p x x'
      → Moved win e P (λ a q. K a × (q ≡ p + 8 * n)) F f p
      (onward x (λ a q. got a (p + 8 * n))) (onward x' (λ a q. got a (mv up down p + 8 * n)))
  unfolding Moves onward
  behind {f} {p} {e₁} {x = got a r} n h l g m =
      let v = m.moves in
      let c : r ≤ limit s e₁ = v.stays (omega arith) in
      record {
        moves = record {
          rises = omega arith;
          tells = (v.tells, refl);
          asks = v.asks;
          runs = λ z w. rw (v.runs (omega arith) w) (ap (λ y. got (f a) y) (omega arith));
          stays = λ z. g;
        };
      }
  behind {x = refused r} n h l g m = record { moves = tt }

-- the limit of a body that fits
pub inner_limit : (l : List ℕ) (e p n : ℕ) → p % 32 ≡ 0 → p + 8 * n ≤ limit l e → limit l (p / 8 + n) ≡ p + 8 * n
unfolding limit
inner_limit l e p n z h = omega arith
