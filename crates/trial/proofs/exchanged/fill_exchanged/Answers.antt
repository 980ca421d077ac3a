-- `trial::exchanged::fill_exchanged` meets its contract: the two blocks' part, turned left by the length of the first, has them exchanged.
-- Assumes nothing.
use mathlib.Core.Path.{◌≡◌, sym, ap, ◌∙◌}
use mathlib.Core.List.{List, ◌++◌, append_assoc}
use Prim.Native.Nat.{ℕ, ◌-◌, ◌≤◌}
use native.Mathlib.Omega.{arith}
use lib.ListN.{take, drop}
use lib.Seq.{drop-drop, take-take}
use Rattle.std.proofs.lemmas.List.{drop-take}
use Rattle.exchange.specs.Input.{exchange}
use Rattle.trial.proofs.exchanged.fill_exchanged.Goals as goal

-- a part of what lies behind i, by its places in the whole
part : (i k : ℕ) (l : List ℕ) → i ≤ k → take (k - i) (drop i l) ≡ drop i (take k l)
part i k l h = sym (drop-take i (k - i) l) ∙ ap (λ n. drop i (take n l)) (omega arith)

behind : (i j : ℕ) (l : List ℕ) → i ≤ j → drop (j - i) (drop i l) ≡ drop j l
behind i j l h = drop-drop (j - i) i l ∙ ap (λ n. drop n l) (omega arith)

turned : (i j k : ℕ) (l xs : List ℕ) → i ≤ j → j ≤ k
    → xs ≡ drop (j - i) (take (k - i) (drop i l)) ++ take (j - i) (take (k - i) (drop i l))
    → take i l ++ (xs ++ drop (k - i) (drop i l)) ≡ exchange i j k l
unfolding exchange
turned i j k l xs ij jk e =
    let second : drop (j - i) (take (k - i) (drop i l)) ≡ drop j (take k l) =
    ap (drop (j - i)) (part i k l (omega arith)) ∙ behind i j (take k l) ij in
    let first : take (j - i) (take (k - i) (drop i l)) ≡ drop i (take j l) =
    take-take (j - i) (k - i) (drop i l) (omega arith) ∙ part i j l ij in
    simp (e, second, first, behind i k l (omega arith), append_assoc)

pub returns : goal.returns
returns c =
    turned _ _ _ _ _ (omega arith) (omega arith) c.rotate_left.ensures.after ∙ ap (exchange _ _ _) c.copy_from_slice.ensures.after
