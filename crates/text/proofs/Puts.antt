-- How text goes into a buffer piece by piece: a piece behind another is both, one behind the other. Assumes nothing.
use mathlib.Core.List.{List, [], ◌∷◌, ◌++◌}
use mathlib.Core.Path.{◌≡◌, refl, sym, ap, ap₂, ◌∙◌}
use mathlib.Core.Logic.{⊎_elim}
use Prim.Native.Nat.{ℕ, zero, suc, ◌+◌, ◌-◌, ◌≤◌, ◌<◌, min}
use native.Mathlib.Nat.{eq-zero-or-pos}
use native.Mathlib.Omega.{arith}
use lib.ListN.{length, take, set, length-append}
use lib.Seq.{sets, length-sets, set_out}
use Rattle.walk.proofs.Stores.{take_sets}
use Rattle.text.specs.Text.{Puts}

-- what is put past the end changes nothing
sets_out : (l : List ℕ) (i : ℕ) (text : List ℕ) → length l ≤ i → sets l i text ≡ l
sets_out l i [] h = refl
sets_out l i (b ∷ bs) h = rw (set_out l i b h) (sets_out l (suc i) bs (omega arith))

sets_both : (l : List ℕ) (i : ℕ) (a b : List ℕ) → sets l i (a ++ b) ≡ sets (sets l i a) (i + length a) b
sets_both l i [] b = ap (λ (k : ℕ). sets l k b) (omega arith)
sets_both l i (x ∷ a) b =
    let e : suc i + length a ≡ i + suc (length a) = omega arith in
    sets_both (set l i x) (suc i) a b ∙ ap (λ (k : ℕ). sets (sets (set l i x) (suc i) a) k b) e

-- where the next piece begins: behind this one, or past the end whichever way it is counted
sets_from : (l : List ℕ) (i k : ℕ) (b : List ℕ) → sets l (i + k) b ≡ sets l (i + min k (length l - i)) b
sets_from l i k b =
    ⊎_elim
    (λ (h : i + k - length l ≡ zero). ap (λ (j : ℕ). sets l j b) (omega arith))
    (λ (h : zero < i + k - length l). sets_out l (i + k) b (omega arith) ∙ sym (sets_out l (i + min k (length l - i)) b (omega arith)))
    (eq-zero-or-pos (i + k - length l))

pub puts_none : (l : List ℕ) (fill : ℕ) → Puts l l fill fill []
puts_none l fill = record { bytes = refl; mark = omega arith }

pub puts_then : {l l' l'' : List ℕ} {f g h : ℕ} {a b : List ℕ} → Puts l l' f g a → Puts l' l'' g h b → Puts l l'' f h (a ++ b)
puts_then {l} {l'} {l''} {f} {g} {h} {a} {b} x y =
    let n : length l' ≡ length l = ap length x.bytes ∙ length-sets l f a in
    record {
      bytes =
          y.bytes
          ∙ rw (x.bytes, x.mark) (ap (λ (k : ℕ). sets (sets l f a) (f + min (length a) (k - f)) b) (sym (length-sets l f a)) ∙ sym (sets_from (sets l f a) f (length a) b) ∙ sym (sets_both l f a b));
      mark = rw (length-append a b) (omega (arith, x.mark, y.mark, n));
    }

-- what is put at the front of a buffer that holds it stands there whole
pub puts_whole : {buffer after text : List ℕ} {r : ℕ} → Puts buffer after 0 r text → length text ≤ length buffer → take r after ≡ text
puts_whole {buffer} {after} {text} {r} p h =
    let n : r ≡ 0 + length text = omega (arith, p.mark) in
    ap₂ take n p.bytes ∙ take_sets text buffer 0 (omega arith)
