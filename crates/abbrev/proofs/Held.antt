-- What the tables hold: rows and shared rows that a call kept, one row more, a block's rows, and the row that a number stands for. Assumes nothing.
use mathlib.Core.Path.{◌≡◌, refl, sym, ap, ap₂, ◌∙◌}
use mathlib.Core.Bool.{Bool, true, false, ◌&&◌}
use mathlib.Core.List.{List, [], ◌∷◌, ◌++◌, map, append_assoc, append-nil}
use mathlib.Core.Option.{Option, none as nothing, some}
use Prim.Native.Nat.{ℕ, zero, suc, ◌+◌, ◌-◌, ◌*◌, ◌≤◌, ◌<◌, min}
use native.Mathlib.Omega.{arith}
use native.Mathlib.Numerals.{add-one}
use lib.ListN.{length, get_or, set, take, drop, length-append, length-map, length-take, length-drop}
use lib.Seq.{get_or-set_same, get_or-take, take_all, take_at, drop-cons, set_at}
use lib.Dec.{ltb, leb, eqb}
use borrow.Author.Tests.{ltb-true, ltb-false, leb-true, lt-ltb, le-ltb, le-leb, eq-eqb, ne_eqb}
use Rattle.std.specs.Prelude.{Ok, Err}
use Rattle.terms.specs.Refusals.{No}
use Rattle.terms.specs.declared.Reason.{Reason}
use Rattle.terms.specs.declared.Reason.TheVariants.{NoSuchAbbrev}
use Rattle.bits.specs.Reader.{got, refused, give, stop, when◌then◌else◌}
use Rattle.bits.proofs.Laws.{and_true}
use Rattle.bits.proofs.Steps.{arms}
use Rattle.abbrev.specs.Abbrev.{Abbrev, look_up}
use Rattle.abbrev.specs.BlockInfo.{shared, shared_for}
use Rattle.abbrev.specs.Tables.{row_size, first_local, row_count, Tables, tables, abbrev_of, row_of, rows, shareds, block_rows, Outside, Kept, Whole, Below, positions, picked, row_at, of_row}
use Rattle.abbrev.proofs.Rows.{outside_refl, outside_set, abbrev_same}

-- ---- what is kept
pub kept_refl : (have local : ℕ) (t : Tables) → Kept have local t t
kept_refl have local t =
    record { many_kinds = refl; many_widths = refl; many_shapes = refl; many_owners = refl; row = λ i h n. refl; owner = λ i h. refl }

pub kept_then : {have local : ℕ} {t t' t'' : Tables} → Kept have local t t' → Kept have local t' t'' → Kept have local t t''
kept_then a b =
    record {
      many_kinds = b.many_kinds ∙ a.many_kinds;
      many_widths = b.many_widths ∙ a.many_widths;
      many_shapes = b.many_shapes ∙ a.many_shapes;
      many_owners = b.many_owners ∙ a.many_owners;
      row = λ i h n. b.row i h n ∙ a.row i h n;
      owner = λ i h. b.owner i h ∙ a.owner i h;
    }

pub kept_less : {have have' local local' : ℕ} {t t' : Tables} → have ≤ have' → local ≤ local' → Kept have' local' t t' → Kept have local t t'
kept_less l m a =
    record {
      many_kinds = a.many_kinds;
      many_widths = a.many_widths;
      many_shapes = a.many_shapes;
      many_owners = a.many_owners;
      row = λ i h n. a.row i (omega arith) (λ x y. n (omega arith) y);
      owner = λ i h. a.owner i (omega arith);
    }

pub whole_kept : {have local : ℕ} {t t' : Tables} → Whole t → Kept have local t t' → Whole t'
whole_kept w a =
    record {
      kinds = a.many_kinds ∙ w.kinds;
      widths = a.many_widths ∙ w.widths;
      shapes = a.many_shapes ∙ w.shapes;
      owners = a.many_owners ∙ w.owners;
    }

-- a row that is none of those to be kept was written, with its shape and its owner
pub kept_row : {have local r : ℕ} {t t' : Tables} → ((i : ℕ) → i < first_local + local → (have ≤ i → i < first_local → ⊥) → i ≡ r → ⊥)
    → Outside (row_size * r) (row_size * r + row_size) t.kinds t'.kinds → Outside (row_size * r) (row_size * r + row_size) t.widths t'.widths
    → Outside r (r + 1) t.shapes t'.shapes → length t'.owners ≡ length t.owners
    → ((i : ℕ) → i < have → get_or t'.owners i 0 ≡ get_or t.owners i 0) → Kept have local t t'
unfolding row_of
kept_row {have} {local} {r} {t} {t'} other k w sh many own =
    record {
      many_kinds = k.many;
      many_widths = w.many;
      many_shapes = sh.many;
      many_owners = many;
      row = λ i h n. same i (λ e. other i h n e);
      owner = own;
    }
  where
    same : (i : ℕ) → (i ≡ r → ⊥) → row_of t' i ≡ row_of t i
    same i n =
        ap (abbrev_of t'.kinds t'.widths (row_size * i)) (sh.same i (λ x y. n (omega arith)))
        ∙ abbrev_same k w (row_size * i) (get_or t.shapes i 0) (λ j a b x y. n (omega arith))

-- a definition is read into the local row behind those in use
module _ {have local : ℕ} {t : Tables} {kinds' widths' : List ℕ} where
  pub kept_define : Outside (row_size * (first_local + local)) (row_size * (first_local + local) + row_size) t.kinds kinds'
      → Outside (row_size * (first_local + local)) (row_size * (first_local + local) + row_size) t.widths widths' → Kept have local t (tables kinds' widths' t.shapes t.owners)
  kept_define k w = kept_row (λ i h n e. omega arith) k w (outside_refl _ _ _) refl (λ i h. refl)

  pub kept_shape : (shape : ℕ) → Outside (row_size * (first_local + local)) (row_size * (first_local + local) + row_size) t.kinds kinds'
      → Outside (row_size * (first_local + local)) (row_size * (first_local + local) + row_size) t.widths widths'
      → Kept have local t (tables kinds' widths' (set t.shapes (first_local + local) shape) t.owners)
  kept_shape shape k w = kept_row (λ i h n e. omega arith) k w (outside_set _ _ _ _ _ (omega arith) (omega arith)) refl (λ i h. refl)

-- ---- rows that are kept are the same
module _ {have local : ℕ} {t t' : Tables} (k : Kept have local t t') where
  rows_from : (row n : ℕ) → first_local ≤ row → row + n ≤ first_local + local → rows t' row n ≡ rows t row n
  unfolding rows
  rows_from row zero l h = refl
  rows_from row (suc n) l h =
      ap₂ (λ x xs. x ∷ xs) (k.row row (omega arith) (λ x y. omega arith)) (rows_from (row + 1) n (omega arith) (omega arith))

  pub rows_kept : (base n : ℕ) → base + n ≤ local → rows t' (first_local + base) n ≡ rows t (first_local + base) n
  rows_kept base n h = rows_from (first_local + base) n (omega arith) (omega arith)

  shareds_from : (row n : ℕ) → row + n ≤ have → row + n ≤ first_local → shareds t' row n ≡ shareds t row n
  unfolding shareds
  shareds_from row zero l h = refl
  shareds_from row (suc n) l h =
      ap₂ (λ x xs. x ∷ xs) (ap₂ (λ o a. shared o a) (k.owner row (omega arith)) (k.row row (omega arith) (λ x y. omega arith)))
      (shareds_from (row + 1) n (omega arith) (omega arith))

  pub shareds_kept : (n : ℕ) → n ≤ have → n ≤ first_local → shareds t' 0 n ≡ shareds t 0 n
  shareds_kept n l h = shareds_from 0 n (omega arith) (omega arith)

  pub own_kept : (own : List ℕ) → Below have own → have ≤ first_local → map (row_of t') own ≡ map (row_of t) own
  own_kept [] b h = refl
  own_kept (x ∷ own) b h =
      let l : x < have = b 0 (omega arith) in
      ap₂ (λ a more. a ∷ more) (k.row x (omega arith) (λ y z. omega arith)) (own_kept own (λ i m. b (suc i) (omega arith)) h)

  pub block_rows_kept : (own : List ℕ) (base : ℕ) → Below have own → have ≤ first_local → base ≤ local → block_rows t' own base local ≡ block_rows t own base local
  unfolding block_rows
  block_rows_kept own base b h l = ap₂ (λ x y. x ++ y) (own_kept own b h) (rows_kept base (local - base) (omega arith))

-- ---- one row more
rows_more : (t : Tables) (row n : ℕ) → rows t row (n + 1) ≡ rows t row n ++ row_of t (row + n) ∷ []
unfolding rows
rows_more t row zero = ap (λ j. row_of t j ∷ []) (let z : row ≡ row + 0 = omega arith in z)
rows_more t row (suc n) =
    let z : suc n + 1 ≡ suc (n + 1) = omega arith in
    let y : row + 1 + n ≡ row + suc n = omega arith in
    ap (rows t row) z ∙ ap (λ xs. row_of t row ∷ xs) (rows_more t (row + 1) n ∙ ap (λ j. rows t (row + 1) n ++ row_of t j ∷ []) y)

shareds_on : (t : Tables) (row n : ℕ) → shareds t row (n + 1) ≡ shareds t row n ++ shared (get_or t.owners (row + n) 0) (row_of t (row + n)) ∷ []
unfolding shareds
shareds_on t row zero = ap (λ j. shared (get_or t.owners j 0) (row_of t j) ∷ []) (let z : row ≡ row + 0 = omega arith in z)
shareds_on t row (suc n) =
    let z : suc n + 1 ≡ suc (n + 1) = omega arith in
    let y : row + 1 + n ≡ row + suc n = omega arith in
    ap (shareds t row) z
    ∙ ap (λ xs. shared (get_or t.owners row 0) (row_of t row) ∷ xs)
    (shareds_on t (row + 1) n ∙ ap (λ j. shareds t (row + 1) n ++ shared (get_or t.owners j 0) (row_of t j) ∷ []) y)

pub shareds_more : (t : Tables) (n : ℕ) → shareds t 0 (n + 1) ≡ shareds t 0 n ++ shared (get_or t.owners n 0) (row_of t n) ∷ []
shareds_more t n = shareds_on t 0 n ∙ ap (λ j. shareds t 0 n ++ shared (get_or t.owners j 0) (row_of t j) ∷ []) (let z : 0 + n ≡ n = omega arith in z)

-- a shape that is stored is its row's
pub row_set : (kinds widths shapes owners : List ℕ) (row shape : ℕ) → row < length shapes
    → row_of (tables kinds widths (set shapes row shape) owners) row ≡ abbrev_of kinds widths (row_size * row) shape
unfolding row_of
row_set kinds widths shapes owners row shape h = ap (abbrev_of kinds widths (row_size * row)) (get_or-set_same shapes row shape 0 h)

pub block_rows_more : {have : ℕ} (t : Tables) {kinds' widths' : List ℕ} (own : List ℕ) (base local shape : ℕ)
    → Outside (row_size * (first_local + local)) (row_size * (first_local + local) + row_size) t.kinds kinds' → Outside (row_size * (first_local + local)) (row_size * (first_local + local) + row_size) t.widths widths'
    → Below have own → have ≤ first_local → base ≤ local → first_local + local < length t.shapes
    → block_rows (tables kinds' widths' (set t.shapes (first_local + local) shape) t.owners) own base (local + 1)
    ≡ block_rows t own base local ++ abbrev_of kinds' widths' (row_size * (first_local + local)) shape ∷ []
unfolding block_rows
block_rows_more {have} t {kinds'} {widths'} own base local shape k w b h l m =
    let t' = tables kinds' widths' (set t.shapes (first_local + local) shape) t.owners in
    let a : Kept have local t t' = kept_shape shape k w in
    let x : local + 1 - base ≡ local - base + 1 = omega arith in
    let y : first_local + base + (local - base) ≡ first_local + local = omega arith in
    ap₂ (λ u v. u ++ v) (own_kept a own b h)
    (ap (rows t' (first_local + base)) x ∙ rows_more t' (first_local + base) (local - base)
    ∙ ap₂ (λ u v. u ++ v ∷ []) (rows_kept a base (local - base) (omega arith))
    (ap (row_of t') y ∙ row_set kinds' widths' t.shapes t.owners (first_local + local) shape m))
    ∙ sym (append_assoc (map (row_of t) own) (rows t (first_local + base) (local - base)) (abbrev_of kinds' widths' (row_size * (first_local + local)) shape ∷ []))

-- ---- lengths
rows_length : (t : Tables) (row n : ℕ) → length (rows t row n) ≡ n
unfolding rows
rows_length t row zero = refl
rows_length t row (suc n) = ap suc (rows_length t (row + 1) n)

pub shareds_length : (t : Tables) (row n : ℕ) → length (shareds t row n) ≡ n
unfolding shareds
shareds_length t row zero = refl
shareds_length t row (suc n) = ap suc (shareds_length t (row + 1) n)

pub block_rows_length : (t : Tables) (own : List ℕ) (base local : ℕ) → length (block_rows t own base local) ≡ length own + (local - base)
unfolding block_rows
block_rows_length t own base local =
    length-append (map (row_of t) own) (rows t (first_local + base) (local - base))
    ∙ ap₂ (λ (m n : ℕ). m + n) (length-map own (row_of t)) (rows_length t (first_local + base) (local - base))

-- ---- the shared rows for a block
module _ (b : ℕ) where
  shared_positions : (t : Tables) (j n : ℕ) → shared_for b (shareds t j n) ≡ map (row_of t) (positions b t.owners j n)
  unfolding shareds shared_for positions when◌then◌else◌
  shared_positions t j zero = refl
  shared_positions t j (suc n) = go (shared_positions t (j + 1) n) (eqb (get_or t.owners j 0) b)
    where
      go : shared_for b (shareds t (j + 1) n) ≡ map (row_of t) (positions b t.owners (j + 1) n) → (x : Bool)
          → (when x then row_of t j ∷ shared_for b (shareds t (j + 1) n) else shared_for b (shareds t (j + 1) n))
          ≡ map (row_of t) (when x then j ∷ positions b t.owners (j + 1) n else positions b t.owners (j + 1) n)
      go z true = ap (λ xs. row_of t j ∷ xs) z
      go z false = z

  positions_length : (owners : List ℕ) (j n : ℕ) → length (positions b owners j n) ≤ n
  unfolding positions when◌then◌else◌
  positions_length owners j zero = omega arith
  positions_length owners j (suc n) = go (positions_length owners (j + 1) n) (eqb (get_or owners j 0) b)
    where
      go : length (positions b owners (j + 1) n) ≤ n → (x : Bool) → length (when x then j ∷ positions b owners (j + 1) n else positions b owners (j + 1) n) ≤ suc n
      go z true = omega arith
      go z false = omega arith

  positions_below : (owners : List ℕ) (j n i : ℕ) → i < length (positions b owners j n) → get_or (positions b owners j n) i 0 < j + n
  unfolding positions when◌then◌else◌
  positions_below owners j zero i h = absurd (omega arith)
  positions_below owners j (suc n) i h = go (positions_below owners (j + 1) n) (eqb (get_or owners j 0) b) i h
    where
      go : ((i : ℕ) → i < length (positions b owners (j + 1) n) → get_or (positions b owners (j + 1) n) i 0 < j + 1 + n) → (x : Bool) (i : ℕ)
          → i < length (when x then j ∷ positions b owners (j + 1) n else positions b owners (j + 1) n)
          → get_or (when x then j ∷ positions b owners (j + 1) n else positions b owners (j + 1) n) i 0 < j + suc n
      go z true zero h = omega arith
      go z true (suc i) h = omega (arith, z i (omega arith))
      go z false i h = omega (arith, z i h)

  pub shared_for_picked : (t : Tables) (have room : ℕ) → have ≤ 32 → have ≤ length t.owners → have ≤ room
      → shared_for b (shareds t 0 have) ≡ map (row_of t) (picked b t.owners have room)
  unfolding picked
  shared_for_picked t have room h l m =
      let e : min (min have 32) (length t.owners) ≡ have = omega arith in
      shared_positions t 0 have
      ∙ ap (map (row_of t)) (sym (ap (λ n. take room (positions b t.owners 0 n)) e
      ∙ take_all room (positions b t.owners 0 have) (omega (arith, positions_length t.owners 0 have))))

  pub picked_below : (owners : List ℕ) (have room : ℕ) → have ≤ 32 → Below have (picked b owners have room)
  unfolding picked
  picked_below owners have room h i l =
      let n = min (min have 32) (length owners) in
      let m : i < min room (length (positions b owners 0 n)) = rw (length-take room (positions b owners 0 n)) at l in
      rw (get_or-take room (positions b owners 0 n) i 0 (omega arith)) (omega (arith, positions_below owners 0 n i (omega arith)))

-- the loop that picks them: those from the row 0 on are those in front of the store, and those from the row j on
pub record Picking (b : ℕ) (owners rows₀ : List ℕ) (many : ℕ) (rows : List ℕ) (j k : ℕ) : Type 0 where
  pub front : List ℕ
  pub size : length front ≡ k
  pub split : positions b owners 0 many ≡ front ++ positions b owners j (many - j)
  pub held : rows ≡ front ++ drop k rows₀
  pub inside : k ≤ length rows₀

pub picking_start : (b : ℕ) (owners rows₀ : List ℕ) (many : ℕ) → Picking b owners rows₀ many rows₀ 0 0
picking_start b owners rows₀ many =
    let z : many ≡ many - 0 = omega arith in
    record { front = []; size = refl; split = ap (positions b owners 0) z; held = refl; inside = omega arith }

positions_turn : (b : ℕ) (owners : List ℕ) (j n : ℕ) → 0 < n
    → positions b owners j n ≡ (when eqb (get_or owners j 0) b then j ∷ positions b owners (j + 1) (n - 1) else positions b owners (j + 1) (n - 1))
unfolding positions
positions_turn b owners j zero h = absurd (omega arith)
positions_turn b owners j (suc n) h =
    let z : n ≡ suc n - 1 = omega arith in
    ap (λ m. when eqb (get_or owners j 0) b then j ∷ positions b owners (j + 1) m else positions b owners (j + 1) m) z

module _ {b : ℕ} {owners rows₀ : List ℕ} {many : ℕ} {rows : List ℕ} {j k : ℕ} (p : Picking b owners rows₀ many rows j k) where
  pub picking_length : length rows ≡ length rows₀
  picking_length =
      let z : length rows ≡ length p.front + length (drop k rows₀) = ap length p.held ∙ length-append p.front (drop k rows₀) in
      omega (arith, length-drop k rows₀, p.size, p.inside)

  -- the row j is for the block
  pub picking_more : j < many → k < length rows₀ → get_or owners j 0 ≡ b → Picking b owners rows₀ many (set rows k j) (j + 1) (k + 1)
  unfolding when◌then◌else◌
  picking_more h l i =
      let x : many - j - 1 ≡ many - (j + 1) = omega arith in
      record {
        front = p.front ++ j ∷ [];
        size = length-append p.front (j ∷ []) ∙ ap (λ n. n + 1) p.size;
        split =
            p.split
            ∙ ap (λ xs. p.front ++ xs) (positions_turn b owners j (many - j) (omega arith) ∙ rw (eq-eqb (get_or owners j 0) b i, x) refl)
            ∙ sym (append_assoc p.front (j ∷ []) (positions b owners (j + 1) (many - (j + 1))));
        held =
            ap (λ xs. set xs k j) (p.held ∙ ap (λ xs. p.front ++ xs) (drop-cons rows₀ k 0 l))
            ∙ set_at p.front (get_or rows₀ k 0) (drop (suc k) rows₀) j k p.size
            ∙ sym (append_assoc p.front (j ∷ []) (drop (suc k) rows₀)) ∙ rw add-one refl;
        inside = omega arith;
      }

  -- it is not
  pub picking_less : j < many → (get_or owners j 0 ≡ b → ⊥) → Picking b owners rows₀ many rows (j + 1) k
  unfolding when◌then◌else◌
  picking_less h i =
      let x : many - j - 1 ≡ many - (j + 1) = omega arith in
      record {
        front = p.front;
        size = p.size;
        split = p.split ∙ ap (λ xs. p.front ++ xs) (positions_turn b owners j (many - j) (omega arith) ∙ rw (ne_eqb (get_or owners j 0) b i, x) refl);
        held = p.held;
        inside = p.inside;
      }

  module _ (have : ℕ) (e : many ≡ min (min have 32) (length owners)) where
    picking_is : p.front ≡ picked b owners have (length rows₀) → (k ≡ length (picked b owners have (length rows₀))) × (rows ≡ picked b owners have (length rows₀) ++ drop k rows₀)
    picking_is z = (sym p.size ∙ ap length z, p.held ∙ ap (λ xs. xs ++ drop k rows₀) z)

    -- all rows were seen
    pub picking_end : many ≤ j → (k ≡ length (picked b owners have (length rows₀))) × (rows ≡ picked b owners have (length rows₀) ++ drop k rows₀)
    unfolding picked positions
    picking_end h =
        let x : many - j ≡ 0 = omega arith in
        let y : positions b owners 0 many ≡ p.front = p.split ∙ ap (λ n. p.front ++ positions b owners j n) x ∙ append-nil p.front in
        picking_is (sym (ap (λ n. take (length rows₀) (positions b owners 0 n)) (sym e) ∙ ap (take (length rows₀)) y
        ∙ take_all (length rows₀) p.front (omega (arith, p.size, p.inside))))

    -- there is no room for more
    pub picking_full : length rows₀ ≤ k → (k ≡ length (picked b owners have (length rows₀))) × (rows ≡ picked b owners have (length rows₀) ++ drop k rows₀)
    unfolding picked
    picking_full h =
        picking_is (sym (ap (λ n. take (length rows₀) (positions b owners 0 n)) (sym e) ∙ ap (take (length rows₀)) p.split
        ∙ take_at p.front (positions b owners j (many - j)) (length rows₀) (omega (arith, p.size, p.inside))))

-- ---- the row that a number stands for
module _ (r : No) (s : List ℕ) (e q : ℕ) where
  look_up_own : (f : ℕ → Abbrev) (own : List ℕ) (more : List Abbrev) (i : ℕ) → i < length own → look_up r i (map f own ++ more) s e q ≡ got (f (get_or own i 0)) q
  unfolding look_up give
  look_up_own f [] more i h = absurd (omega arith)
  look_up_own f (x ∷ own) more zero h = refl
  look_up_own f (x ∷ own) more (suc i) h = look_up_own f own more i (omega arith)

  look_up_behind : (xs more : List Abbrev) (i : ℕ) → look_up r (length xs + i) (xs ++ more) s e q ≡ look_up r i more s e q
  unfolding look_up
  look_up_behind [] more i = ap (λ n. look_up r n more s e q) (let z : 0 + i ≡ i = omega arith in z)
  look_up_behind (x ∷ xs) more i =
      let z : suc (length xs) + i ≡ suc (length xs + i) = omega arith in
      ap (λ n. look_up r n (x ∷ xs ++ more) s e q) z ∙ look_up_behind xs more i

  look_up_row : (t : Tables) (row n i : ℕ) → i < n → look_up r i (rows t row n) s e q ≡ got (row_of t (row + i)) q
  unfolding look_up rows give
  look_up_row t row zero i h = absurd (omega arith)
  look_up_row t row (suc n) zero h = ap (λ j. got (row_of t j) q) (let z : row ≡ row + 0 = omega arith in z)
  look_up_row t row (suc n) (suc i) h =
      look_up_row t (row + 1) n i (omega arith) ∙ ap (λ j. got (row_of t j) q) (let z : row + 1 + i ≡ row + suc i = omega arith in z)

  look_up_past : (xs : List Abbrev) (i : ℕ) → length xs ≤ i → look_up r i xs s e q ≡ refused r
  unfolding look_up stop
  look_up_past [] i h = refl
  look_up_past (x ∷ xs) zero h = absurd (omega arith)
  look_up_past (x ∷ xs) (suc i) h = look_up_past xs i (omega arith)

-- a number that stands for a row is that of a shared row for the block, or of a local row
module _ (own : List ℕ) (base local n : ℕ) where
  row_cases : {X : Type 0} {row : ℕ} → row_at own base local n ≡ some row
      → (4 ≤ n → n - 4 < length own → row ≡ get_or own (n - 4) 0 → X)
      → (4 ≤ n → length own ≤ n - 4 → n - 4 - length own < local - base → row ≡ first_local + base + (n - 4 - length own) → X) → X
  unfolding row_at
  row_cases {X} {row} z f g =
      arms P (ltb n 4) _ _ z (λ i y. absurd (none y)) (λ i y.
      arms P (ltb (n - 4) (length own)) _ _ y (λ j x. f (ltb-false _ _ i) (ltb-true _ _ j) (is x)) (λ j x.
      arms P (leb local 32 && ltb (n - 4 - length own) (local - base)) _ _ x
      (λ k w. g (ltb-false _ _ i) (ltb-false _ _ j) (ltb-true _ _ (and_true (leb local 32) _ k).1) (is w)) (λ k w. absurd (none w))))
    where
      P : Option ℕ → Type 0
      P o = o ≡ some row

      none : nothing ≡ some row → ⊥
      none h = let w : ◌≡◌ {A = ℕ} 0 1 = cc in omega arith

      is : {x : ℕ} → some x ≡ some row → row ≡ x
      is h = cc

  no_row : local ≤ 32 → 4 ≤ n → row_at own base local n ≡ nothing → length own + (local - base) ≤ n - 4
  unfolding row_at
  no_row h l z =
      arms P (ltb n 4) _ _ z (λ i y. let m : n < 4 = ltb-true _ _ i in absurd (omega arith)) (λ i y.
      arms P (ltb (n - 4) (length own)) _ _ y (λ j x. absurd (some_row x)) (λ j x.
      arms P (leb local 32 && ltb (n - 4 - length own) (local - base)) _ _ x (λ k w. absurd (some_row w)) (λ k w.
      let a : length own ≤ n - 4 = ltb-false _ _ j in
      let b : local - base ≤ n - 4 - length own = ltb-false _ _ (rw (le-leb local 32 h) at k) in
      omega arith)))
    where
      P : Option ℕ → Type 0
      P o = o ≡ nothing

      some_row : {x : ℕ} → some x ≡ nothing → ⊥
      some_row h = let w : ◌≡◌ {A = ℕ} 0 1 = cc in omega arith

  pub row_at_in : {have row : ℕ} → Below have own → have ≤ 32 → local ≤ 32 → base ≤ local → row_at own base local n ≡ some row → row < row_count
  row_at_in {have} {row} b h l m z =
      row_cases z (λ i j k. let x : get_or own (n - 4) 0 < have = b (n - 4) j in omega arith) (λ i j k y. omega arith)

  module _ (t : Tables) (r : No) (s : List ℕ) (e q : ℕ) where
    pub look_up_some : {row : ℕ} → local ≤ 32 → base ≤ local → row_at own base local n ≡ some row
        → look_up r (n - 4) (block_rows t own base local) s e q ≡ got (row_of t row) q
    unfolding block_rows
    look_up_some {row} h l z =
        row_cases z (λ i j k. look_up_own r s e q (row_of t) own _ (n - 4) j ∙ ap (λ x. got (row_of t x) q) (sym k)) (λ i j m k.
        let u : n - 4 ≡ length (map (row_of t) own) + (n - 4 - length own) = omega (arith, length-map own (row_of t)) in
        ap (λ x. look_up r x (map (row_of t) own ++ rows t (first_local + base) (local - base)) s e q) u
        ∙ look_up_behind r s e q (map (row_of t) own) (rows t (first_local + base) (local - base)) (n - 4 - length own)
        ∙ look_up_row r s e q t (first_local + base) (local - base) (n - 4 - length own) m ∙ ap (λ x. got (row_of t x) q) (sym k))

    pub look_up_none : local ≤ 32 → base ≤ local → 4 ≤ n → row_at own base local n ≡ nothing
        → look_up r (n - 4) (block_rows t own base local) s e q ≡ refused r
    look_up_none h l m z =
        look_up_past r s e q (block_rows t own base local) (n - 4) (omega (arith, block_rows_length t own base local, no_row h m z))

  -- forward, by the tests
  pub row_low : n < 4 → row_at own base local n ≡ nothing
  unfolding row_at when◌then◌else◌
  row_low h = rw (lt-ltb n 4 h)

  pub row_own : 4 ≤ n → n - 4 < length own → row_at own base local n ≡ some (get_or own (n - 4) 0)
  unfolding row_at when◌then◌else◌
  row_own h l = rw (le-ltb n 4 h, lt-ltb (n - 4) (length own) l)

  pub row_local : 4 ≤ n → length own ≤ n - 4 → local ≤ 32 → n - 4 - length own < local - base
      → row_at own base local n ≡ some (first_local + base + (n - 4 - length own))
  unfolding row_at when◌then◌else◌
  row_local h l m i = rw (le-ltb n 4 h, le-ltb (n - 4) (length own) l, le-leb local 32 m, lt-ltb (n - 4 - length own) (local - base) i)

  pub row_past : 4 ≤ n → length own ≤ n - 4 → (local ≤ 32 → local - base ≤ n - 4 - length own) → row_at own base local n ≡ nothing
  unfolding row_at when◌then◌else◌
  row_past h l m = rw (le-ltb n 4 h, le-ltb (n - 4) (length own) l, fails (leb local 32) refl)
    where
      fails : (x : Bool) → leb local 32 ≡ x → x && ltb (n - 4 - length own) (local - base) ≡ false
      fails true i = le-ltb _ _ (m (leb-true _ _ i))
      fails false i = refl

-- what the code's answer says of it
module _ (block number : ℕ) where
  pub row_found : (x : Option ℕ) {row : ℕ} → Ok row ≡ of_row block number x → x ≡ some row
  row_found nothing h = absurd (let z : ◌≡◌ {A = ℕ} 0 1 = cc in omega arith)
  row_found (some row) h = cc

  pub row_lost : (x : Option ℕ) {r : Reason} → Err r ≡ of_row block number x → (x ≡ nothing) × (r ≡ NoSuchAbbrev number block)
  row_lost nothing h = (refl, cc)
  row_lost (some row) h = absurd (let z : ◌≡◌ {A = ℕ} 0 1 = cc in omega arith)
