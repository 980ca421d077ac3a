-- No second outcome of the public calls. `define_abbrev` and `read_block_info_block` say nothing of rows that no number stands for: of them it is shown
-- that two outcomes tell the same, cursor and refusal included, and hold the same abbreviations. Assumes nothing.
use mathlib.Core.List.{List, ◌++◌}
use mathlib.Core.Path.{◌≡◌, refl, sym, ap, ◌∙◌}
use Prim.Native.Nat.{ℕ, ◌*◌}
use lib.ListN.{length, drop}
use Rattle.std.specs.Prelude.{Result, Ok, Err}
use Rattle.terms.specs.Refusals.{No, no, no_of, Refusal, refusal, refusal_of, at_bit}
use Rattle.terms.specs.declared.Reason.{Reason}
use Rattle.terms.specs.declared.Refused.{Refused}
use Rattle.terms.proofs.Once.{reason_of, reason_back}
use Rattle.bits.specs.Reader.{Reader}
use Rattle.bits.specs.Told.{Told, told, refuses, Gives, of_read}
use Rattle.bits.specs.declared.Cursor.{Cursor}
use Rattle.bits.proofs.Once.{gives_once, told_once, because, read_back, same_once}
use Rattle.bits.proofs.Steps.{never, got_value}
use Rattle.bitcode.specs.declared.ScalarOperand.{ScalarOperand}
use Rattle.abbrev.specs.Abbrev.{Abbrev, number_of}
use Rattle.abbrev.specs.BlockInfo.{Shared}
use Rattle.abbrev.specs.Tables.{row_size, Tables, scalar_of, abbrev_of, shareds, NothingHeld, Defines, define_row, InfoIs, info_block, picked, row_at, of_row}
use Rattle.abbrev.specs.declared.Abbreviations.{Abbreviations}
use Rattle.abbrev.proofs.Held.{shareds_length}

-- ---- calls that are determined
state : List ℕ → List ℕ → List ℕ → List ℕ → ℕ → ℕ → Abbreviations
state kinds widths shapes owners shared local =
    record { kinds = kinds; widths = widths; shapes = shapes; owners = owners; shared = shared; local = local }

pub new_once : (a b : Abbreviations) → NothingHeld a → NothingHeld b → a ≡ b
unfolding state
new_once a b x y =
    ap (λ z. state z a.widths a.shapes a.owners a.shared a.local) (same_once x.0 y.0)
    ∙ ap (λ z. state b.kinds z a.shapes a.owners a.shared a.local) (same_once x.1 y.1)
    ∙ ap (λ z. state b.kinds b.widths z a.owners a.shared a.local) (same_once x.2 y.2)
    ∙ ap (λ z. state b.kinds b.widths b.shapes z a.shared a.local) (same_once x.3 y.3)
    ∙ ap (λ z. state b.kinds b.widths b.shapes b.owners z a.local) (same_once x.4 y.4)
    ∙ ap (λ z. state b.kinds b.widths b.shapes b.owners b.shared z) (same_once x.5 y.5)

pub scalar_operand_once : (kind width : ℕ) (r r' : ScalarOperand) → r ≡ scalar_of kind width → r' ≡ scalar_of kind width → r ≡ r'
scalar_operand_once kind width r r' x y = same_once x y

pub read_number_once : (c : Cursor) (s : List ℕ) (w : ℕ) (r r' : Result (ℕ × Cursor) Reason) → Gives c s (number_of w) (of_read r) → Gives c s (number_of w) (of_read r') → r ≡ r'
read_number_once c s w = told_once of_read (λ v d. Ok (v, d)) because read_back c s (number_of w)

pub look_up_once : (own : List ℕ) (base local block number : ℕ) (r r' : Result ℕ Reason) → r ≡ of_row block number (row_at own base local number) → r' ≡ of_row block number (row_at own base local number) → r ≡ r'
look_up_once own base local block number r r' x y = same_once x y

-- the count, and the store of row numbers
pub shared_rows_once : (b : ℕ) (owners : List ℕ) (have : ℕ) (rows : List ℕ) (r r' : ℕ) (xs xs' : List ℕ)
    → (r ≡ length (picked b owners have (length rows))) × (xs ≡ picked b owners have (length rows) ++ drop r rows)
    → (r' ≡ length (picked b owners have (length rows))) × (xs' ≡ picked b owners have (length rows) ++ drop r' rows)
    → (r ≡ r') × (xs ≡ xs')
shared_rows_once b owners have rows r r' xs xs' x y =
    let i = same_once x.0 y.0 in
    (i, x.1 ∙ ap (λ n. picked b owners have (length rows) ++ drop n rows) i ∙ sym y.1)

-- ---- calls that fill rows
-- what a definition's answer tells: the abbreviation that the row holds
abbrev pub defined_as : List ℕ → List ℕ → ℕ → Result (ℕ × Cursor) Reason → Told No Abbrev
defined_as kinds widths base (Ok (shape, d)) = told (abbrev_of kinds widths base shape) d
defined_as kinds widths base (Err r) = refuses (no_of r)

defines_gives : (c : Cursor) (s : List ℕ) (m : Reader No Abbrev) (kinds widths : List ℕ) (base : ℕ) (r : Result (ℕ × Cursor) Reason)
    → Defines c s m kinds widths base r → Gives c s m (defined_as kinds widths base r)
defines_gives c s m kinds widths base (Ok (shape, d)) x = x
defines_gives c s m kinds widths base (Err r) x = x

pub define_abbrev_once : (c : Cursor) (s : List ℕ) (row n m : ℕ) (kinds kinds' widths widths' : List ℕ) (r r' : Result (ℕ × Cursor) Reason)
    → Defines c s (define_row row n m) kinds widths (row_size * row) r → Defines c s (define_row row n m) kinds' widths' (row_size * row) r'
    → defined_as kinds widths (row_size * row) r ≡ defined_as kinds' widths' (row_size * row) r'
define_abbrev_once c s row n m kinds kinds' widths widths' r r' x y =
    gives_once c s (define_row row n m) _ _ (defines_gives c s (define_row row n m) kinds widths (row_size * row) r x) (defines_gives c s (define_row row n m) kinds' widths' (row_size * row) r' y)

-- a refusal of the walk is had back from what it tells
abbrev refused_of : Refusal → Refused
refused_of (refusal n place x y) = record { reason = reason_of (no n x y); place = place }

refused_at : (place : ℕ) (x : No) → refused_of (at_bit place x) ≡ record { reason = reason_of x; place = place }
refused_at place (no n x y) = refl

refused_back : (r : Refused) → refused_of (refusal_of r) ≡ r
refused_back r = refused_at r.place (no_of r.reason) ∙ ap (λ (x : Reason). record { reason = x; place = r.place }) (reason_back r.reason)

pub refused_same : (r q : Refused) → refusal_of r ≡ refusal_of q → r ≡ q
refused_same r q i = sym (refused_back r) ∙ ap refused_of i ∙ refused_back q

-- the shared abbreviations that the tables hold behind a BLOCKINFO; where it is refused they don't matter
abbrev pub held_by : Tables → Result ℕ Refused → List Shared
held_by t (Ok have) = shareds t 0 have
held_by t (Err r) = shareds t 0 0

pub read_block_info_block_once : (c : Cursor) (s : List ℕ) (w have : ℕ) (t u u' : Tables) (r r' : Result ℕ Refused)
    → InfoIs c s (info_block w have t) have t u r → InfoIs c s (info_block w have t) have t u' r' → (r ≡ r') × (held_by u r ≡ held_by u' r')
unfolding shareds
read_block_info_block_once c s w have t u u' (Ok a) (Ok b) x y =
    let i = got_value (sym x.gives ∙ y.gives) in
    let h : shareds u 0 a ≡ shareds u' 0 b = x.holds ∙ ap (λ l. shareds t 0 have ++ l) i ∙ sym y.holds in
    (ap Ok (sym (shareds_length u 0 a) ∙ ap length h ∙ shareds_length u' 0 b), h)
read_block_info_block_once c s w have t u u' (Ok a) (Err r) x y = absurd (never (sym y ∙ x.gives))
read_block_info_block_once c s w have t u u' (Err r) (Ok b) x y = absurd (never (sym x ∙ y.gives))
read_block_info_block_once c s w have t u u' (Err r) (Err q) x y =
    let z = sym x ∙ y in
    let i : refusal_of r ≡ refusal_of q = cc in
    (ap Err (refused_same r q i), refl)
