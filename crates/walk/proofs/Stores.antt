-- The front of a store: behind a store of one number or of several, and behind a part that was lent. Assumes nothing.
use mathlib.Core.Path.{◌≡◌, sym, ap, ap₂, ◌∙◌}
use mathlib.Core.List.{List, [], ◌∷◌, ◌++◌, append-nil}
use Prim.Native.Nat.{ℕ, ◌+◌, ◌-◌, ◌≤◌, ◌<◌}
use native.Mathlib.Omega.{arith}
use native.Mathlib.Numerals.{add-one}
use lib.ListN.{length, take, drop, set, replicate, length-append, drop_of_length-le}
use Rattle.std.proofs.lemmas.List.{length-drop}
use lib.Seq.{take-suc-set, length-take-le, take-append-add, take-append-le, sets, sets-eq, take_at}
use borrow.Rule.Slice.PartMut.{put_mid, mid_of, mid_len, post_of}

-- one number behind the front
pub take_store : (l : List ℕ) (i a : ℕ) → i < length l → take (i + 1) (set l i a) ≡ take i l ++ a ∷ []
take_store l i a h = ap (λ k. take k (set l i a)) (add-one i) ∙ take-suc-set l i a h

-- several
pub take_sets : (vs l : List ℕ) (i : ℕ) → i + length vs ≤ length l → take (i + length vs) (sets l i vs) ≡ take i l ++ vs
take_sets vs l i h =
    ap (take (i + length vs)) (sets-eq vs l i h)
    ∙ take_at (take i l ++ vs) (drop (i + length vs) l) (i + length vs)
    (length-append (take i l) vs ∙ ap (λ n. n + length vs) (length-take-le i l (omega arith)))

-- the part from a on was lent, and came back as ys
pub take_put_front : (a k n : ℕ) (xs ys : List ℕ) → a ≤ length xs → n ≤ length ys → take (a + n) (put_mid a k xs ys) ≡ take a xs ++ take n ys
take_put_front a k n xs ys h g =
    ap (λ i. take (i + n) (put_mid a k xs ys)) (sym (length-take-le a xs h))
    ∙ take-append-add (take a xs) (ys ++ post_of a k xs) n
    ∙ ap (λ z. take a xs ++ z) (take-append-le n ys (post_of a k xs) g)

-- a store whose part from a place on has been filled with zeros
pub put_zeros : (a : ℕ) (xs : List ℕ) {ys : List ℕ} → a ≤ length xs → ys ≡ replicate (length (mid_of a (length xs - a) xs)) 0
    → put_mid a (length xs - a) xs ys ≡ take a xs ++ replicate (length xs - a) 0
put_zeros a xs {ys} h z =
    let k = length xs - a in
    ap₂ (λ l e. take a xs ++ (l ++ e)) (z ∙ ap (λ n. replicate n 0) (mid_len a (length xs) xs (omega arith))) (drop_of_length-le (drop a xs) (omega (arith, length-drop a xs)))
    ∙ ap (λ l. take a xs ++ l) (append-nil (replicate k 0))
