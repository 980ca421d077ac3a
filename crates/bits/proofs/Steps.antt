-- How answers go through a `do` block, forward for a function that reads, and back for what an answer tells of its parts. Assumes nothing.
use Prim.Native.Nat.{ℕ}
use mathlib.Core.Path.{◌≡◌, refl, ap, ◌∙◌, subst}
use mathlib.Core.List.{List}
use mathlib.Core.Bool.{Bool, true, false}
use native.Mathlib.Omega.{arith}
use Rattle.std.specs.Prelude.{Result, Err, IsErrAnd}
use Rattle.std.proofs.lemmas.Result.{err_from_is_err_and}
use Rattle.terms.specs.Refusals.{No}
use Rattle.terms.specs.declared.Reason.{Reason}
use Rattle.bits.specs.declared.Cursor.{Cursor}
use Rattle.bits.specs.Reader.{Answer, got, refused, Reader, onward, ◌>>=◌, require, when◌then◌else◌, here, give}
use Rattle.bits.specs.Told.{At, Off, Told, told, refuses, Gives}

-- ---- forward: the first part got a value at d, and the rest is told from d on
module _ {R A B : Type 0} {s : List ℕ} {e p : ℕ} {m : Reader R A} (f : A → Reader R B) where
  pub on : {a : A} {b : B} {d g : Cursor} → At m s e p a d → At (f a) s d.end d.at b g → At (m >>= f) s e p b g
  unfolding ◌>>=◌ onward
  on {a} {b} {d} {g} x y =
      record { gives = rw x.gives (subst (λ i. f a s i d.at ≡ got b g.at) x.ends y.gives); ends = y.ends ∙ x.ends }

  pub then_off : {a : A} {d : Cursor} {r : R} → At m s e p a d → Off (f a) s d.end d.at r → Off (m >>= f) s e p r
  unfolding ◌>>=◌ onward
  then_off {a} {d} {r} x y = record { why = rw x.gives (subst (λ i. f a s i d.at ≡ refused r) x.ends y.why) }

  pub off : {r : R} → Off m s e p r → Off (m >>= f) s e p r
  unfolding ◌>>=◌ onward
  off x = record { why = rw x.why }

-- the place is known, and the end of the do block
module _ {R B : Type 0} {s : List ℕ} {e p : ℕ} (f : ℕ → Reader R B) where
  pub from_here : {b : B} {d : Cursor} → At (f p) s e p b d → At (here >>= f) s e p b d
  unfolding ◌>>=◌ onward here
  from_here x = record { gives = x.gives; ends = x.ends }

  pub off_here : {r : R} → Off (f p) s e p r → Off (here >>= f) s e p r
  unfolding ◌>>=◌ onward here
  off_here x = record { why = x.why }

pub ends : {R A : Type 0} {a : A} {s : List ℕ} {d : Cursor} → At {R = R} (give a) s d.end d.at a d
unfolding give
ends = record { gives = refl; ends = refl }

-- a test that passes, a test that fails
module _ {R B : Type 0} {s : List ℕ} {e p : ℕ} (r : R) (f : Unit {0} → Reader R B) where
  pub pass : {b : Bool} {a : B} {d : Cursor} → b ≡ true → At (f tt) s e p a d → At (require b r >>= f) s e p a d
  unfolding ◌>>=◌ onward require
  pass i j = record { gives = rw i j.gives; ends = j.ends }

  pub pass_off : {b : Bool} {r' : R} → b ≡ true → Off (f tt) s e p r' → Off (require b r >>= f) s e p r'
  unfolding ◌>>=◌ onward require
  pass_off i j = record { why = rw i j.why }

pub fail : {R B : Type 0} {s : List ℕ} {e p : ℕ} {r : R} (f : Unit {0} → Reader R B) {b : Bool} → b ≡ false → Off (require b r >>= f) s e p r
unfolding ◌>>=◌ onward require
fail f i = record { why = rw i }

-- a branch
module _ {R A : Type 0} {s : List ℕ} {e p : ℕ} (x y : Reader R A) {b : Bool} where
  pub yes_at : {a : A} {d : Cursor} → b ≡ true → At x s e p a d → At (when b then x else y) s e p a d
  unfolding when◌then◌else◌
  yes_at i j = rw i j

  pub no_at : {a : A} {d : Cursor} → b ≡ false → At y s e p a d → At (when b then x else y) s e p a d
  unfolding when◌then◌else◌
  no_at i j = rw i j

  pub yes_off : {r : R} → b ≡ true → Off x s e p r → Off (when b then x else y) s e p r
  unfolding when◌then◌else◌
  yes_off i j = rw i j

  pub no_off : {r : R} → b ≡ false → Off y s e p r → Off (when b then x else y) s e p r
  unfolding when◌then◌else◌
  no_off i j = rw i j

-- ---- back: what a `do` block that got a value tells of its parts
-- a refusal is no value
pub never : {R A : Type 0} {r : R} {a : A} {q : ℕ} → refused r ≡ got a q → ⊥
never h = let z : ◌≡◌ {A = ℕ} 0 1 = cc in omega arith

-- a first reader got a value, and the rest got the whole's from there
pub apart : {R A B : Type 0} (m : Reader R A) (f : A → Reader R B) (s : List ℕ) (e p : ℕ) {q : ℕ} {b : B}
    → (m >>= f) s e p ≡ got b q → (a : A) × (r : ℕ) × (m s e p ≡ got a r) × (f a s e r ≡ got b q)
unfolding ◌>>=◌ onward
apart {R} {A} {B} m f s e p {q} {b} z = go (m s e p) refl z
  where
    go : (x : Answer R A) → m s e p ≡ x → onward x (λ a r. f a s e r) ≡ got b q → (a : A) × (r : ℕ) × (m s e p ≡ got a r) × (f a s e r ≡ got b q)
    go (got a r) i h = (a, r, i, h)
    go (refused r) i h = absurd (never h)

-- a test passed
pub passed : {R B : Type 0} (f : Unit {0} → Reader R B) (r : R) (s : List ℕ) (e p : ℕ) {q : ℕ} {b : Bool} {a : B}
    → (require b r >>= f) s e p ≡ got a q → (b ≡ true) × (f tt s e p ≡ got a q)
unfolding ◌>>=◌ require onward
passed f r s e p {b = true} z = (refl, z)
passed f r s e p {b = false} z = absurd (never z)

-- the arm of a branch that was taken, for any fact P of the branch
pub arms : {A X : Type 0} (P : A → Type 0) (b : Bool) (x y : A) → P (when b then x else y) → (b ≡ true → P x → X) → (b ≡ false → P y → X) → X
unfolding when◌then◌else◌
arms P true x y h f g = f refl h
arms P false x y h f g = g refl h

-- two values got are the same value, at the same place
pub got_value : {R A : Type 0} {a b : A} {p q : ℕ} → ◌≡◌ {A = Answer R A} (got a p) (got b q) → a ≡ b
got_value h = cc

pub got_place : {R A : Type 0} {a b : A} {p q : ℕ} → ◌≡◌ {A = Answer R A} (got a p) (got b q) → p ≡ q
got_place h = cc

-- ---- an answer with its value changed: what a loop that has some of the value in hand is left with
unfoldable pub mapped : {R A B : Type 0} → (A → B) → Answer R A → Answer R B
mapped f (got a q) = got (f a) q
mapped f (refused r) = refused r

pub mapped_twice : {R A B C : Type 0} (f : A → B) (g : B → C) (h : A → C) → ((a : A) → g (f a) ≡ h a) → (x : Answer R A) → mapped g (mapped f x) ≡ mapped h x
unfolding mapped
mapped_twice f g h i (got a q) = ap (λ y. got y q) (i a)
mapped_twice f g h i (refused r) = refl

pub mapped_same : {R A : Type 0} (f : A → A) → ((a : A) → f a ≡ a) → (x : Answer R A) → mapped f x ≡ x
unfolding mapped
mapped_same f i (got a q) = ap (λ y. got y q) (i a)
mapped_same f i (refused r) = refl

-- a do block that ends by giving what it got, changed
pub gives_mapped : {R A B : Type 0} (m : Reader R A) (f : A → B) (s : List ℕ) (e p : ℕ) → (m >>= (λ a. give (f a))) s e p ≡ mapped f (m s e p)
unfolding ◌>>=◌ onward give mapped
gives_mapped {R} {A} {B} m f s e p = go (m s e p)
  where
    go : (x : Answer R A) → onward x (λ a q. got (f a) q) ≡ mapped f x
    go (got a q) = refl
    go (refused r) = refl

pub mapped_got : {R A B : Type 0} (f : A → B) {x : Answer R A} {a : A} {q : ℕ} → x ≡ got a q → mapped f x ≡ got (f a) q
unfolding mapped
mapped_got f i = rw i

pub mapped_off : {R A B : Type 0} (f : A → B) {x : Answer R A} {r : R} → x ≡ refused r → mapped f x ≡ refused r
unfolding mapped
mapped_off f i = rw i

-- the equations of a do block
pub so : {R A B : Type 0} (m : Reader R A) (f : A → Reader R B) (s : List ℕ) (e p : ℕ) {a : A} {q : ℕ} → m s e p ≡ got a q → (m >>= f) s e p ≡ f a s e q
unfolding ◌>>=◌ onward
so m f s e p i = rw i

pub so_off : {R A B : Type 0} (m : Reader R A) (f : A → Reader R B) (s : List ℕ) (e p : ℕ) {r : R} → m s e p ≡ refused r → (m >>= f) s e p ≡ refused r
unfolding ◌>>=◌ onward
so_off m f s e p i = rw i

-- the exit of a `?`: what it hands on is the callee's refusal
pub handed : {A E : Type 0} (P : Result A E → Type 0) (r : Result A E) {e : E} → IsErrAnd r (λ x. x ≡ e) → P (Err e) → P r
handed P r x y = let p = err_from_is_err_and r x in rw (p.1, p.2) y

pub handed_on : {A E : Type 0} (of : Result E Reason → Told No A) (c : Cursor) (s : List ℕ) (m : Reader No A) (r : Result E Reason) (e : Reason)
    → IsErrAnd r (λ x. x ≡ e) → Gives c s m (of (Err e)) → Gives c s m (of r)
handed_on of c s m r e x y = handed (λ z. Gives c s m (of z)) r x y

-- a do block that ends in a call: what the call tells is what the block tells
pub on_told : {R A B : Type 0} {s : List ℕ} {c d : Cursor} {m : Reader R A} (f : A → Reader R B) (t : Told R B) {a : A}
    → At m s c.end c.at a d → Gives d s (f a) t → Gives c s (m >>= f) t
on_told f (told b g) x y = on f x y
on_told f (refuses r) x y = then_off f x y
