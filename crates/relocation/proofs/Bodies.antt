-- The relocation law for the body of a block, whose end is known. Assumes nothing.
use mathlib.Core.Path.{◌≡◌, sym, ap, ◌∙◌}
use mathlib.Core.List.{List}
use Prim.Native.Nat.{ℕ, ◌+◌, ◌*◌, ◌/◌, ◌%◌, ◌≤◌}
use native.Mathlib.Omega.{arith}
use Rattle.bits.specs.Reader.{Reader}
use Rattle.bits.specs.Bits.{limit}
use Rattle.walk.specs.Item.{within}
use Rattle.relocation.proofs.Shift.{mv}
use Rattle.relocation.proofs.Law.{Window, Exact, Moved, Runs, behind, inner_limit}

module _ {s s' : List ℕ} {lo hi up down : ℕ} {win : Window s s' lo hi up down} where
  inner_exact : {p : ℕ} (e e' : ℕ) → lo ≤ p → (n : ℕ) → p % 32 ≡ 0 → p + 8 * n ≤ limit s e → mv up down p + 8 * n ≤ limit s' e'
      → Exact win (p / 8 + n) (mv up down p / 8 + n)
  inner_exact {p} e e' h n z f f' = record {
    exact =
        ap (λ x. x + down) (inner_limit s' e' (mv up down p) n (omega arith) f')
        ∙ (let w : mv up down p + 8 * n + down ≡ p + 8 * n + up = omega arith in w)
        ∙ sym (ap (λ x. x + up) (inner_limit s e p n z f));
  }

  -- a body: what is known and asked of its value is known and asked behind it
  pub withins : {R A B : Type 0} {P : Type 0} {K : A → Type 0} {F : A → Type 0} {f : A → B} {e p : ℕ} (e' : ℕ) → lo ≤ p
      → (n : ℕ) (m : Reader R A) (m' : Reader R B)
      → p % 32 ≡ 0 → p + 8 * n ≤ limit s e → mv up down p + 8 * n ≤ limit s' e'
      → (Exact win (p / 8 + n) (mv up down p / 8 + n)
      → Moved win (p / 8 + n) P (λ a _. K a) F f p (m s (p / 8 + n) p) (m' s' (mv up down p / 8 + n) (mv up down p)))
      → Runs win e e' p P (λ a q. K a × (q ≡ p + 8 * n)) F f (within n m) (within n m')
  unfolding within
  withins {e} {p} e' h n m m' z g g' w = behind n h (inner_limit s e p n z g) g (w (inner_exact e e' h n z g g'))
