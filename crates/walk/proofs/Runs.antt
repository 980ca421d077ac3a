-- Runs of operands into the front of a store: the loops for one kind of operand (`fill_fixed` and so on) and that of `fill_scalars`. Assumes nothing.
use mathlib.Core.Path.{◌≡◌, refl, sym, ap, ap₂, subst, ◌∙◌}
use mathlib.Core.List.{List, [], ◌∷◌, ◌++◌, append_assoc, append-nil}
use Prim.Native.Nat.{ℕ, zero, suc, ◌+◌, ◌-◌, ◌≤◌, ◌<◌}
use native.Mathlib.Omega.{arith}
use lib.ListN.{length, take, set, length-set}
use borrow.Author.Tests.{lt-ltb}
use Rattle.terms.specs.Refusals.{No, no_operand_room}
use Rattle.bits.specs.Reader.{Reader, Answer, got, refused, onward, ◌>>=◌, give, require}
use Rattle.bits.specs.Told.{At, Off}
use Rattle.bits.specs.declared.Cursor.{Cursor}
use Rattle.bits.proofs.Steps.{mapped, mapped_twice, mapped_same, mapped_got, mapped_off, gives_mapped, so, so_off}
use Rattle.bitcode.specs.declared.ScalarOperand.{ScalarOperand}
use Rattle.bitcode.specs.Scalar.{value}
use Rattle.abbrev.specs.Tables.{slot, slots}
use Rattle.walk.specs.Record.{stored, values, repeated}
use Rattle.walk.proofs.Stores.{take_store}

-- ---- one operand that is stored
module _ (left : ℕ) (k : ScalarOperand) (s : List ℕ) (e p : ℕ) where
  stored_full : left ≡ 0 → stored left k s e p ≡ refused no_operand_room
  unfolding stored ◌>>=◌ onward require
  stored_full h = rw h

  pub stored_is : 0 < left → stored left k s e p ≡ value k s e p
  unfolding stored ◌>>=◌ onward require
  stored_is h = rw (lt-ltb 0 left h)

-- one that is stored, and those that `rest` reads behind it
module _ (left : ℕ) (k : ScalarOperand) (rest : Reader No (List ℕ)) (s : List ℕ) (e p : ℕ) where
  abbrev one_and : Answer No (List ℕ)
  one_and = (stored left k >>= (λ v. rest >>= (λ vs. give (v ∷ vs)))) s e p

  one_full : left ≡ 0 → one_and ≡ refused no_operand_room
  one_full l = so_off (stored left k) _ s e p (stored_full left k s e p l)

  one_off : {r : No} → 0 < left → value k s e p ≡ refused r → one_and ≡ refused r
  one_off l z = so_off (stored left k) _ s e p (stored_is left k s e p l ∙ z)

  one_more : {v q : ℕ} → 0 < left → value k s e p ≡ got v q → one_and ≡ mapped (λ vs. v ∷ vs) (rest s e q)
  one_more {v} {q} l z =
      so (stored left k) (λ v. rest >>= (λ vs. give (v ∷ vs))) s e p (stored_is left k s e p l ∙ z) ∙ gives_mapped rest (λ vs. v ∷ vs) s e q

-- ---- where a loop stands: `front` is stored, `rest` reads what is left, and the answer from the start is what is stored in front of its answer
pub record Going (s : List ℕ) (e : ℕ) (whole : Answer No (List ℕ)) (rest : Reader No (List ℕ)) (front : List ℕ) (p : ℕ) : Type 0 where
  pub answer : whole ≡ mapped (λ vs. front ++ vs) (rest s e p)

going_start : (s : List ℕ) (e p : ℕ) (m : Reader No (List ℕ)) → Going s e (m s e p) m [] p
going_start s e p m = record { answer = sym (mapped_same (λ vs. [] ++ vs) (λ a. refl) (m s e p)) }

module _ {s : List ℕ} {e : ℕ} {whole : Answer No (List ℕ)} {rest : Reader No (List ℕ)} {front : List ℕ} {p : ℕ} (g : Going s e whole rest front p) where
  going_none : rest s e p ≡ got [] p → whole ≡ got front p
  going_none z = g.answer ∙ mapped_got (λ vs. front ++ vs) z ∙ ap (λ a. got a p) (append-nil front)

  going_off : {r : No} → rest s e p ≡ refused r → whole ≡ refused r
  going_off z = g.answer ∙ mapped_off (λ vs. front ++ vs) z

  going_more : (v : ℕ) {q : ℕ} {rest' : Reader No (List ℕ)} {front' : List ℕ} → rest s e p ≡ mapped (λ vs. v ∷ vs) (rest' s e q)
      → front' ≡ front ++ v ∷ [] → Going s e whole rest' front' q
  going_more v {q} {rest'} {front'} z f = record {
    answer =
        g.answer ∙ ap (mapped (λ vs. front ++ vs)) z
        ∙ mapped_twice (λ vs. v ∷ vs) (λ vs. front ++ vs) (λ vs. front' ++ vs) (λ vs. sym (ap (λ l. l ++ vs) f ∙ append_assoc front (v ∷ []) vs)) (rest' s e q);
  }

-- ---- so many of one kind
repeated_turn : (left n : ℕ) (k : ScalarOperand) → 0 < n
    → repeated left n k ≡ (stored left k >>= (λ v. repeated (left - 1) (n - 1) k >>= (λ vs. give (v ∷ vs))))
unfolding repeated
repeated_turn left zero k h = absurd (omega arith)
repeated_turn left (suc n) k h =
    let z : n ≡ suc n - 1 = omega arith in
    ap (λ i. stored left k >>= (λ v. repeated (left - 1) i k >>= (λ vs. give (v ∷ vs)))) z

pub record Filling (s : List ℕ) (c₀ : Cursor) (k : ScalarOperand) (count : ℕ) (xs₀ xs : List ℕ) (c : Cursor) (i : ℕ) : Type 0 where
  pub going : Going s c₀.end (repeated (length xs₀) count k s c₀.end c₀.at) (repeated (length xs₀ - i) (count - i) k) (take i xs) c.at
  pub same_end : c.end ≡ c₀.end
  pub wanted : i ≤ count
  pub most : i ≤ length xs
  pub many : length xs ≡ length xs₀

pub filling_start : (s : List ℕ) (c : Cursor) (k : ScalarOperand) (count : ℕ) (xs : List ℕ) → Filling s c k count xs xs c 0
filling_start s c k count xs =
    let z : length xs ≡ length xs - 0 = omega arith in
    let y : count ≡ count - 0 = omega arith in
    let whole = repeated (length xs) count k in
    record {
      going =
          subst (λ m. Going s c.end (whole s c.end c.at) (repeated (length xs - 0) m k) [] c.at) y
          (subst (λ n. Going s c.end (whole s c.end c.at) (repeated n count k) [] c.at) z (going_start s c.end c.at whole));
      same_end = refl;
      wanted = omega arith;
      most = omega arith;
      many = refl;
    }

module _ {s : List ℕ} {c₀ : Cursor} {k : ScalarOperand} {count : ℕ} {xs₀ xs : List ℕ} {c : Cursor} {i : ℕ} (f : Filling s c₀ k count xs₀ xs c i) where
  pub filled : count ≤ i → At (repeated (length xs₀) count k) s c₀.end c₀.at (take count xs) c × (count ≤ length xs)
  unfolding repeated give
  filled h =
      let z : i ≡ count = omega (arith, f.wanted) in
      let y : count - i ≡ 0 = omega arith in
      (record { gives = going_none f.going (rw y) ∙ ap (λ n. got (take n xs) c.at) z; ends = f.same_end }, omega (arith, f.most))

  -- one more turn
  turn_as : {x : Answer No (List ℕ)} → i < count
      → (stored (length xs₀ - i) k >>= (λ v. repeated (length xs₀ - i - 1) (count - i - 1) k >>= (λ vs. give (v ∷ vs)))) s c₀.end c.at ≡ x
      → repeated (length xs₀ - i) (count - i) k s c₀.end c.at ≡ x
  turn_as h z = ap (λ m. m s c₀.end c.at) (repeated_turn (length xs₀ - i) (count - i) k (omega arith)) ∙ z

  pub filled_full : i < count → length xs ≤ i → Off (repeated (length xs₀) count k) s c₀.end c₀.at no_operand_room
  filled_full h l = record { why = going_off f.going (turn_as h (one_full _ _ _ _ _ _ (omega (arith, f.many)))) }

  pub filled_off : {r : No} → i < count → i < length xs → Off (value k) s c.end c.at r → Off (repeated (length xs₀) count k) s c₀.end c₀.at r
  filled_off h l o =
      let o₂ = rw f.same_end at o in
      record { why = going_off f.going (turn_as h (one_off _ _ _ _ _ _ (omega (arith, f.many)) o₂.why)) }

  pub filled_more : {v : ℕ} {d : Cursor} → i < count → i < length xs → At (value k) s c.end c.at v d
      → Filling s c₀ k count xs₀ (set xs i v) d (i + 1)
  filled_more {v} {d} h l o =
      let o₂ = rw f.same_end at o in
      let z : length xs₀ - i - 1 ≡ length xs₀ - (i + 1) = omega arith in
      let w : count - i - 1 ≡ count - (i + 1) = omega arith in
      let y = turn_as h (one_more (length xs₀ - i) k (repeated (length xs₀ - i - 1) (count - i - 1) k) s c₀.end c.at (omega (arith, f.many)) o₂.gives) in
      record {
        going = going_more f.going v (y ∙ ap₂ (λ n m. mapped (λ vs. v ∷ vs) (repeated n m k s c₀.end d.at)) z w) (take_store xs i v l);
        same_end = o₂.ends;
        wanted = omega arith;
        most = rw (length-set xs i v) (omega arith);
        many = length-set xs i v ∙ f.many;
      }

-- ---- those of an abbreviation
slots_first : (kinds widths : List ℕ) (j n : ℕ) → 0 < n → slots kinds widths j n ≡ slot kinds widths j ∷ slots kinds widths (j + 1) (n - 1)
unfolding slots
slots_first kinds widths j zero h = absurd (omega arith)
slots_first kinds widths j (suc n) h = let z : n ≡ suc n - 1 = omega arith in ap (λ i. slot kinds widths j ∷ slots kinds widths (j + 1) i) z

values_turn : (left : ℕ) (kinds widths : List ℕ) (j n : ℕ) → 0 < n
    → values left (slots kinds widths j n)
    ≡ (stored left (slot kinds widths j) >>= (λ v. values (left - 1) (slots kinds widths (j + 1) (n - 1)) >>= (λ vs. give (v ∷ vs))))
unfolding values
values_turn left kinds widths j n h = ap (values left) (slots_first kinds widths j n h)

pub record Taking (s : List ℕ) (c₀ : Cursor) (kinds widths : List ℕ) (from count : ℕ) (xs₀ xs : List ℕ) (c : Cursor) (i : ℕ) : Type 0 where
  pub going :
      Going s c₀.end (values (length xs₀) (slots kinds widths from count) s c₀.end c₀.at)
      (values (length xs₀ - i) (slots kinds widths (from + i) (count - i))) (take i xs) c.at
  pub same_end : c.end ≡ c₀.end
  pub some : i ≤ count
  pub most : i ≤ length xs
  pub many : length xs ≡ length xs₀

values_same : (kinds widths : List ℕ) {left left' j j' n n' : ℕ} → left ≡ left' → j ≡ j' → n ≡ n'
    → values left (slots kinds widths j n) ≡ values left' (slots kinds widths j' n')
values_same kinds widths {left} {left'} {j} {j'} {n} {n'} x y z =
    ap (λ i. values i (slots kinds widths j n)) x ∙ ap₂ (λ a b. values left' (slots kinds widths a b)) y z

pub taking_start : (s : List ℕ) (c : Cursor) (kinds widths : List ℕ) (from count : ℕ) (xs : List ℕ) → Taking s c kinds widths from count xs xs c 0
taking_start s c kinds widths from count xs =
    let whole = values (length xs) (slots kinds widths from count) in
    let same : whole ≡ values (length xs - 0) (slots kinds widths (from + 0) (count - 0)) = values_same kinds widths (omega arith) (omega arith) (omega arith) in
    record {
      going = subst (λ m. Going s c.end (whole s c.end c.at) m [] c.at) same (going_start s c.end c.at whole);
      same_end = refl;
      some = omega arith;
      most = omega arith;
      many = refl;
    }

module _ {s : List ℕ} {c₀ : Cursor} {kinds widths : List ℕ} {from count : ℕ} {xs₀ xs : List ℕ} {c : Cursor} {i : ℕ} (f : Taking s c₀ kinds widths from count xs₀ xs c i) where
  took : count ≤ i → At (values (length xs₀) (slots kinds widths from count)) s c₀.end c₀.at (take count xs) c × (count ≤ length xs)
  unfolding values slots give
  took h =
      let z : i ≡ count = omega (arith, f.some) in
      let y : count - i ≡ 0 = omega arith in
      (record { gives = going_none f.going (rw y) ∙ ap (λ n. got (take n xs) c.at) z; ends = f.same_end }, omega (arith, f.some, f.most))

  -- one more turn
  turn_as_slot : {x : Answer No (List ℕ)} → i < count
      → (stored (length xs₀ - i) (slot kinds widths (from + i))
      >>= (λ v. values (length xs₀ - i - 1) (slots kinds widths (from + i + 1) (count - i - 1)) >>= (λ vs. give (v ∷ vs)))) s c₀.end c.at
      ≡ x
      → values (length xs₀ - i) (slots kinds widths (from + i) (count - i)) s c₀.end c.at ≡ x
  turn_as_slot h z = ap (λ m. m s c₀.end c.at) (values_turn (length xs₀ - i) kinds widths (from + i) (count - i) (omega arith)) ∙ z

  pub took_full : i < count → length xs ≤ i → Off (values (length xs₀) (slots kinds widths from count)) s c₀.end c₀.at no_operand_room
  took_full h l = record { why = going_off f.going (turn_as_slot h (one_full _ _ _ _ _ _ (omega (arith, f.many)))) }

  pub took_off : {r : No} → i < count → i < length xs → Off (value (slot kinds widths (from + i))) s c.end c.at r
      → Off (values (length xs₀) (slots kinds widths from count)) s c₀.end c₀.at r
  took_off h l o =
      let o₂ = rw f.same_end at o in
      record { why = going_off f.going (turn_as_slot h (one_off _ _ _ _ _ _ (omega (arith, f.many)) o₂.why)) }

  pub took_more : {v : ℕ} {d : Cursor} {xs' : List ℕ} → i < count → i < length xs → At (value (slot kinds widths (from + i))) s c.end c.at v d
      → xs' ≡ set xs i v → Taking s c₀ kinds widths from count xs₀ xs' d (i + 1)
  took_more {v} {d} {xs'} h l o z =
      let o₂ = rw f.same_end at o in
      let rest = values (length xs₀ - i - 1) (slots kinds widths (from + i + 1) (count - i - 1)) in
      let same : rest ≡ values (length xs₀ - (i + 1)) (slots kinds widths (from + (i + 1)) (count - (i + 1))) = values_same kinds widths (omega arith) (omega arith) (omega arith) in
      let y = turn_as_slot h (one_more (length xs₀ - i) (slot kinds widths (from + i)) rest s c₀.end c.at (omega (arith, f.many)) o₂.gives) in
      record {
        going =
            going_more f.going v (y ∙ ap (λ m. mapped (λ vs. v ∷ vs) (m s c₀.end d.at)) same) (ap (take (i + 1)) z ∙ take_store xs i v l);
        same_end = o₂.ends;
        some = omega arith;
        most = omega (arith, ap length z, length-set xs i v);
        many = ap length z ∙ length-set xs i v ∙ f.many;
      }

-- ---- the scalars of a record: its code, then the store's rest
take_first : (a : ℕ) (xs : List ℕ) (n : ℕ) → 0 < n → take n (a ∷ xs) ≡ a ∷ take (n - 1) xs
take_first a xs zero h = absurd (omega arith)
take_first a xs (suc n) h = let z : n ≡ suc n - 1 = omega arith in ap (λ i. a ∷ take i xs) z

module _ (a : ℕ) (xs : List ℕ) (i v : ℕ) {b : ℕ} {ys : List ℕ} where
  pub set_code : i ≡ 0 → ys ≡ xs → b ≡ v → b ∷ ys ≡ set (a ∷ xs) i v
  set_code h y z = rw (h, y, z)

  pub set_rest : (i ≡ 0 → ⊥) → ys ≡ set xs (i - 1) v → b ≡ a → b ∷ ys ≡ set (a ∷ xs) i v
  set_rest h y z = ap₂ (λ m l. m ∷ l) z y ∙ go i h
    where
      go : (j : ℕ) → (j ≡ 0 → ⊥) → a ∷ set xs (j - 1) v ≡ set (a ∷ xs) j v
      go zero n = absurd (n refl)
      go (suc j) n = let k : suc j - 1 ≡ j = omega arith in ap (λ m. a ∷ set xs m v) k

pub took_scalars : {s : List ℕ} {c₀ : Cursor} {kinds widths : List ℕ} {from count a code : ℕ} {xs₀ xs : List ℕ} {c : Cursor} {i : ℕ}
    → Taking s c₀ kinds widths from count (a ∷ xs₀) (code ∷ xs) c i → 0 < count → count ≤ i
    → At (values (suc (length xs₀)) (slots kinds widths from count)) s c₀.end c₀.at (code ∷ take (count - 1) xs) c × (count - 1 ≤ length xs)
took_scalars {count = count} {code = code} {xs = xs} f n h = let w = took f h in (rw (take_first code xs count n) at w.0, omega (arith, w.1))
