-- What every run of a reader obeys, whatever the stream: a value that is got has K, a refusal has Q, and the place goes forward and stays within the
-- end. The proof for a definition is its text again. Assumes nothing.
use mathlib.Core.Path.{◌≡◌, refl, sym, subst}
use mathlib.Core.Bool.{Bool, true, false}
use mathlib.Core.List.{List}
use Prim.Native.Nat.{ℕ, zero, suc, ◌+◌, ◌*◌, ◌/◌, ◌≤◌}
use native.Mathlib.Omega.{arith}
use lib.ListN.{length}
use lib.Dec.{T, leb, ltb}
use borrow.Author.Tests.{leb-true}
use Rattle.terms.specs.Refusals.{No, no, Refusal, refusal, buffer_overflow, walk_number}
use Rattle.bits.specs.Reader.{Answer, got, refused, Reader, onward, ◌>>=◌, give, stop, require, when◌then◌else◌, here, turns, at_place, placed}
use Rattle.bits.specs.Bits.{limit, in_range, field_at, reach, read, align, chunks, vbr}
use Rattle.bits.proofs.Vbr.{Ahead}

-- ---- a refusal by a walk's number
unfoldable pub Known : No → Type 0
Known (no n x y) = T (walk_number n)

unfoldable pub KnownAt : Refusal → Type 0
KnownAt (refusal n p x y) = T (walk_number n)

-- ---- an answer from the place p on
unfoldable pub Has : {R A : Type 0} → List ℕ → ℕ → ℕ → (A → ℕ → Type 0) → (R → Type 0) → Answer R A → Type 0
Has s e p K Q (got a q) = (p ≤ q) × (p ≤ limit s e → q ≤ limit s e) × K a q
Has s e p K Q (refused r) = Q r

pub record Answers {R A : Type 0} (m : Reader R A) (s : List ℕ) (e p : ℕ) (K : A → ℕ → Type 0) (Q : R → Type 0) : Type 0 where
  pub has : Has s e p K Q (m s e p)

-- what a run that got a value, and one that was refused, tell
module _ {R A : Type 0} {m : Reader R A} {s : List ℕ} {e p : ℕ} {K : A → ℕ → Type 0} {Q : R → Type 0} (x : Answers m s e p K Q) where
  pub when_got : {a : A} {q : ℕ} → m s e p ≡ got a q → (p ≤ q) × (p ≤ limit s e → q ≤ limit s e) × K a q
  unfolding Has
  when_got i = rw i at x.has

  pub when_refused : {r : R} → m s e p ≡ refused r → Q r
  unfolding Has
  when_refused i = rw i at x.has

-- ---- the parts of a `do` block
later : {R A : Type 0} (s : List ℕ) (e p q : ℕ) (K : A → ℕ → Type 0) (Q : R → Type 0) (x : Answer R A)
    → p ≤ q → (p ≤ limit s e → q ≤ limit s e) → Has s e q K Q x → Has s e p K Q x
unfolding Has
later s e p q K Q (got a r) l i (f, g, k) = (omega arith, λ h. g (i h), k)
later s e p q K Q (refused r) l i k = k

pub on : {R A B : Type 0} {m : Reader R A} {s : List ℕ} {e p : ℕ} {K : A → ℕ → Type 0} {K' : B → ℕ → Type 0} {Q : R → Type 0} (f : A → Reader R B)
    → Answers m s e p K Q → ((a : A) (q : ℕ) → p ≤ q → K a q → Answers (f a) s e q K' Q) → Answers (m >>= f) s e p K' Q
unfolding ◌>>=◌ onward Has
on {R} {A} {m = m} {s} {e} {p} {K} {K'} {Q} f x y = record { has = go (m s e p) x.has }
  where
    go : (z : Answer R A) → Has s e p K Q z → Has s e p K' Q (onward z (λ a q. f a s e q))
    go (got a q) (l, i, k) = later s e p q K' Q (f a s e q) l i (y a q l k).has
    go (refused r) k = k

module _ {R A : Type 0} {s : List ℕ} {e p : ℕ} {K : A → ℕ → Type 0} {Q : R → Type 0} where
  pub gives : (a : A) → K a p → Answers (give a) s e p K Q
  unfolding give Has
  gives a k = record { has = (omega arith, λ h. h, k) }

  pub stops : (r : R) → Q r → Answers (stop r) s e p K Q
  unfolding stop Has
  stops r k = record { has = k }

  pub branch : (b : Bool) {x y : Reader R A} → (b ≡ true → Answers x s e p K Q) → (b ≡ false → Answers y s e p K Q) → Answers (when b then x else y) s e p K Q
  unfolding when◌then◌else◌
  branch true i j = i refl
  branch false i j = j refl

  pub turned : {m : ℕ → Reader R A} → ((k : ℕ) → Answers (m k) s e p K Q) → Answers (turns m) s e p K Q
  unfolding turns
  turned x = record { has = (x (suc (8 * length s))).has }

  -- K weakened
  pub weaker : {m : Reader R A} {K₀ : A → ℕ → Type 0} → Answers m s e p K₀ Q → ((a : A) (q : ℕ) → p ≤ q → K₀ a q → K a q) → Answers m s e p K Q
  unfolding Has
  weaker {m} {K₀} x w = record { has = go (m s e p) x.has }
    where
      go : (z : Answer R A) → Has s e p K₀ Q z → Has s e p K Q z
      go (got a q) (l, i, k) = (l, i, w a q l k)
      go (refused r) k = k

module _ {R : Type 0} {s : List ℕ} {e p : ℕ} {Q : R → Type 0} where
  pub requires : (b : Bool) (r : R) → Q r → Answers (require b r) s e p (λ u q. (b ≡ true) × (q ≡ p)) Q
  unfolding require Has
  requires true r k = record { has = (omega arith, λ h. h, (refl, refl)) }
  requires false r k = record { has = k }

  pub heres : Answers here s e p (λ a q. (a ≡ p) × (q ≡ p)) Q
  unfolding here Has
  heres = record { has = (omega arith, λ h. h, (refl, refl)) }

pub places : {A : Type 0} {s : List ℕ} {e p : ℕ} (from : ℕ) {m : Reader No A} {K : A → ℕ → Type 0} → Answers m s e p K Known → Answers (placed from m) s e p K KnownAt
unfolding placed at_place Has Known KnownAt
places {A} {s} {e} {p} from {m} {K} x = record { has = go (m s e p) x.has }
  where
    go : (z : Answer No A) → Has s e p K Known z → Has s e p K KnownAt (at_place from z)
    go (got a q) k = k
    go (refused (no n u v)) k = k

-- ---- bits
bounded : {A : Type 0} (s : List ℕ) (e p t : ℕ) (b : Bool) (a : A) → leb t (limit s e) ≡ b → p ≤ t
    → Has s e p (λ v q. (q ≡ t) × (q ≤ limit s e)) Known (when b then got a t else refused buffer_overflow)
unfolding when◌then◌else◌ Has Known
bounded s e p t true a i l = let m = leb-true t (limit s e) i in (l, λ h. m, (refl, m))
bounded s e p t false a i l = tt

module _ {s : List ℕ} {e p : ℕ} where
  fields : (n : ℕ) → Answers (field_at n) s e p (λ v q. (q ≡ p + n) × (q ≤ limit s e)) Known
  unfolding field_at
  fields n = record { has = bounded s e p (p + n) _ _ refl (omega arith) }

  pub aligns : Answers align s e p (λ u q. (q ≡ (p + 31) / 32 * 32) × (q ≤ limit s e)) Known
  unfolding align reach
  aligns = record { has = bounded s e p ((p + 31) / 32 * 32) _ _ refl (omega arith) }

-- a number that is read takes a bit at least, and ends within the end
some_bits : {s : List ℕ} {e p q r : ℕ} (n : ℕ) → (in_range 1 64 n ≡ true) × (q ≡ p) → (r ≡ q + n) × (r ≤ limit s e) → Ahead s e p r
some_bits zero (i, j) h = absurd (let z : ◌≡◌ {A = ℕ} 0 1 = cc in omega arith)
some_bits (suc n) (i, j) (h, k) = record { past = omega arith; inside = k }

pub reads : (n : ℕ) {s : List ℕ} {e p : ℕ} → Answers (read n) s e p (λ v q. Ahead s e p q) Known
unfolding read Known
reads n = on _ (requires (in_range 1 64 n) _ tt) (λ u q l k. weaker (fields n) (λ v r m h. some_bits n k h))

-- and so does a VBR number
further : {s : List ℕ} {e p q r : ℕ} → p ≤ q → Ahead s e q r → Ahead s e p r
further l h = record { past = omega arith; inside = h.inside }

chunked : (k w shift acc : ℕ) {s : List ℕ} {e p : ℕ} → Answers (chunks k w shift acc) s e p (λ v q. Ahead s e p q) Known
unfolding chunks Known
chunked zero w shift acc = stops _ tt
chunked (suc k) w shift acc {s} {e} {p} = on _ (reads w) (λ c q l h. on _ (requires (ltb shift 64) _ tt) (λ u r m g.
    branch _ (λ i. gives _ (subst (Ahead s e p) (sym g.1) h)) (λ i. weaker (chunked k w _ _) (λ v t n j. further (omega arith) j))))

pub vbrs : (w : ℕ) {s : List ℕ} {e p : ℕ} → Answers (vbr w) s e p (λ v q. Ahead s e p q) Known
unfolding vbr Known
vbrs w = on _ (requires (in_range 1 32 w) _ tt) (λ u q l g. weaker (turned (λ k. chunked k w 0 0)) (λ v r m h. further l h))

pub vbr_ahead : (s : List ℕ) (e p w v q : ℕ) → vbr w s e p ≡ got v q → Ahead s e p q
vbr_ahead s e p w v q z = (when_got (vbrs w) z).2
