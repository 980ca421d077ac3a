-- The digits that `io` spells are the definition's: there are as many as `places` counts. Assumes nothing.
use mathlib.Core.Bool.{Bool, true, false, cond}
use mathlib.Core.Path.{◌≡◌, refl, ap, ◌∙◌}
use Prim.Native.Nat.{ℕ, zero, suc, ◌-◌, ◌/◌, ◌^◌, ◌≤◌, ◌<◌, max}
use native.Mathlib.Nat.{pow-zero, pow-suc, pow-le-pow_right, le-div_iff_mul-le, div-lt_iff_lt-mul, eq-zero-or-pos}
use native.Mathlib.Omega.{arith}
use mathlib.Core.Logic.{⊎_elim}
use borrow.Author.Tests.{ltb-true, ltb-false}
use lib.Dec.{ltb}
use Rattle.io.specs.Digits.{last_digits, IsDigitCount}
use Rattle.text.specs.Text.{places, decimal, word}

all_ways : {A : Type 0} (P : A → Type 0) (t : Bool) {a b : A} → (t ≡ true → P a) → (t ≡ false → P b) → P (cond t a b)
all_ways P true f g = f refl
all_ways P false f g = g refl

pow_one : (b : ℕ) → b ^ 1 ≡ b
pow_one b = pow-suc b 0 ∙ rw (pow-zero b) (omega arith)

-- a power that is at most n is less far than one that n is below
pow_apart : (b n i j : ℕ) → 1 < b → b ^ i ≤ n → n < b ^ j → i < j
pow_apart b n i j o f m =
    ⊎_elim
    (λ (h : j - i ≡ zero). absurd (omega (arith, pow-le-pow_right {n = b} (omega arith) {i = j} {j = i} (omega arith))))
    (λ (h : zero < j - i). omega arith)
    (eq-zero-or-pos (j - i))

fewest_one : (b n : ℕ) → n < b → IsDigitCount b 1 n 1
fewest_one b n h = (omega arith, rw (pow_one b) h, λ (z : 1 < 1). absurd (omega arith))

fewest_more : (b n k : ℕ) → 1 < b → b ≤ n → IsDigitCount b 1 (n / b) k → IsDigitCount b 1 n (suc k)
fewest_more b n zero o h (l, m, f) = absurd (omega arith)
fewest_more b n (suc zero) o h (l, m, f) =
    (omega arith, rw (pow-suc b 1) ((div-lt_iff_lt-mul {k = b} {x = n} {y = b ^ 1} (omega arith)).0 m), λ (z : 1 < 2). rw (pow_one b) h)
fewest_more b n (suc (suc j)) o h (l, m, f) =
    let one_less : suc (suc j) - 1 ≡ suc j = omega arith in
    let two_less : suc (suc (suc j)) - 1 ≡ suc (suc j) = omega arith in
    let at_least : b ^ suc j ≤ n / b = rw one_less at (f (omega arith)) in (
      omega arith,
      rw (pow-suc b (suc (suc j))) ((div-lt_iff_lt-mul {k = b} {x = n} {y = b ^ suc (suc j)} (omega arith)).0 m),
      λ (z : 1 < suc (suc (suc j))). rw (two_less, pow-suc b (suc j)) ((le-div_iff_mul-le {k = b} {x = b ^ suc j} {y = n} (omega arith)).0 at_least),
    )

pub places_fewest : (b : ℕ) → 1 < b → (most n : ℕ) → n < b ^ suc most → IsDigitCount b 1 n (places b most n)
unfolding places
places_fewest b o zero n h = fewest_one b n (rw (pow_one b) at h)
places_fewest b o (suc most) n h =
    all_ways
    (IsDigitCount b 1 n)
    (ltb n b)
    (λ t. fewest_one b n (ltb-true n b t))
    (λ t. fewest_more
    b
    n
    (places b most (n / b))
    o
    (ltb-false n b t)
    (places_fewest b o most (n / b) ((div-lt_iff_lt-mul {k = b} {x = n} {y = b ^ suc most} (omega arith)).1 (rw (pow-suc b (suc most)) at h))))

-- two counts of digits: the fewest of so many at least, and the fewest
fewest_is : (b least n k p : ℕ) → 1 < b → 1 ≤ least → IsDigitCount b least n k → IsDigitCount b 1 n p → k ≡ max least p
fewest_is b least n k p o e (l, m, f) (l', m', f') =
    ⊎_elim
    (λ (h : k - least ≡ zero).
    ⊎_elim
    (λ (g : p - 1 ≡ zero). omega arith)
    (λ (g : zero < p - 1). omega (arith, pow_apart b n (p - 1) k o (f' (omega arith)) m))
    (eq-zero-or-pos (p - 1)))
    (λ (h : zero < k - least).
    ⊎_elim
    (λ (g : p - 1 ≡ zero). omega (arith, pow_apart b n (k - 1) p o (f (omega arith)) m'))
    (λ (g : zero < p - 1). omega (arith, pow_apart b n (k - 1) p o (f (omega arith)) m', pow_apart b n (p - 1) k o (f' (omega arith)) m))
    (eq-zero-or-pos (p - 1)))
    (eq-zero-or-pos (k - least))

pub decimal_is : (n k : ℕ) → n < 2 ^ 64 → IsDigitCount 10 1 n k → last_digits 10 k n ≡ decimal n
unfolding decimal
decimal_is n k h f =
    let few : IsDigitCount 10 1 n (places 10 20 n) = places_fewest 10 (omega arith) 20 n (omega arith) in
    let e : k ≡ places 10 20 n = omega (arith, fewest_is 10 1 n k (places 10 20 n) (omega arith) (omega arith) f few, few.0) in
    ap (λ (j : ℕ). last_digits 10 j n) e

pub word_is : (n k : ℕ) → n < 2 ^ 64 → IsDigitCount 16 8 n k → last_digits 16 k n ≡ word n
unfolding word
word_is n k h f =
    let few : IsDigitCount 16 1 n (places 16 20 n) = places_fewest 16 (omega arith) 20 n (omega arith) in
    ap (λ (j : ℕ). last_digits 16 j n) (fewest_is 16 8 n k (places 16 20 n) (omega arith) (omega arith) f few)
