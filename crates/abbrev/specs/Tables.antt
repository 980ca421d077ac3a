-- What the answers of the code and the lent tables stand for. The relation between the tables and the definition's lists is stated here and
-- nowhere else; callers use its laws (proofs/Rows.antt). Assumes nothing.
use Rattle.std.specs.Prelude.{◌≡◌, Bool, ◌&&◌, List, [], ◌∷◌, ◌++◌, map, ℕ, zero, suc, ◌+◌, ◌-◌, ◌*◌, ◌/◌, ◌%◌, ◌≤◌, ◌<◌, min, length, get_or, take, replicate, ltb, leb, eqb, Option as RustOption, Some, None, Result, Ok, Err}
use Rattle.std.proofs.Math.Option.{Option, none as nothing, some}
use Rattle.terms.specs.Limits.{max_shared, max_local}
use Rattle.terms.specs.Refusals.{No, no_of, Refusal, refusal_of, at_bit, no_abbreviation_room}
use Rattle.terms.specs.declared.Reason.{Reason}
use Rattle.terms.specs.declared.Reason.TheVariants.{NoSuchAbbrev}
use Rattle.terms.specs.declared.Refused.{Refused}
use Rattle.bits.specs.Reader.{Reader, got, refused, ◌>>=◌, ◌>>◌, require, when◌then◌else◌, here, turns}
use Rattle.bits.specs.Told.{Told, told, refuses, At, Off}
use Rattle.bits.specs.declared.Cursor.{Cursor}
use Rattle.bitcode.specs.declared.ScalarOperand.{ScalarOperand}
use Rattle.bitcode.specs.declared.ScalarOperand.TheVariants.{Literal, Fixed, Vbr, Char6}
use Rattle.abbrev.specs.Abbrev as D
use Rattle.abbrev.specs.Abbrev.{Abbrev, abbreviation, Payload, none, blob, array}
use Rattle.abbrev.specs.BlockInfo as I
use Rattle.abbrev.specs.BlockInfo.{Shared, shared, info_end, info_adds, info_now}
use Rattle.abbrev.specs.declared.Abbreviations.{Abbreviations}
use Rattle.abbrev.specs.declared.BlockNumber.{BlockNumber}
use Rattle.abbrev.specs.declared.Operand.{Operand}
use Rattle.abbrev.specs.declared.Operand.TheVariants as O
use Rattle.abbrev.specs.declared.InfoItem.{InfoItem}
use Rattle.abbrev.specs.declared.InfoItem.TheVariants as S

-- ---- sizes
-- the slots of a row: one more than an abbreviation has operands
abbrev pub row_size : ℕ
row_size = 33

-- the shared rows: 32, and the one that is being read. The local rows are behind them, again 32 and one
abbrev pub first_local : ℕ
first_local = 33

abbrev pub local_rows : ℕ
local_rows = 33

abbrev pub row_count : ℕ
row_count = 66

abbrev pub shared_slots : ℕ
shared_slots = 1089

abbrev pub slot_count : ℕ
slot_count = 2178

-- what a blob adds to a shape: twice an array
abbrev pub blob_shape : ℕ
blob_shape = 66

-- ---- a slot holds a scalar operand: a kind, and a width or a value
unfoldable pub scalar_of : ℕ → ℕ → ScalarOperand
scalar_of k v =
    when eqb k 0 then Literal v else
    when eqb k 1 then Fixed v else
    when eqb k 2 then Vbr v else Char6

abbrev pub slot : List ℕ → List ℕ → ℕ → ScalarOperand
slot kinds widths i = scalar_of (get_or kinds i 0) (get_or widths i 0)

-- n slots from i on
unfoldable pub slots : List ℕ → List ℕ → ℕ → ℕ → List ScalarOperand
slots kinds widths i zero = []
slots kinds widths i (suc n) = slot kinds widths i ∷ slots kinds widths (i + 1) n

-- ---- a row holds an abbreviation: its shape is the count of its scalars, and so many times its payload as a row has slots
unfoldable pub load_of : ℕ → ScalarOperand → Payload
load_of l element = when eqb l 0 then none else when eqb l 1 then array element else blob

unfoldable pub abbrev_of : List ℕ → List ℕ → ℕ → ℕ → Abbrev
abbrev_of kinds widths base shape =
    abbreviation (slots kinds widths base (shape % row_size)) (load_of (shape / row_size) (slot kinds widths (base + shape % row_size)))

-- the lent tables: kinds and widths of the slots, shapes of the rows, and the block numbers that the shared rows are for
pub record Tables : Type 0 where
  pub kinds : List ℕ
  pub widths : List ℕ
  pub shapes : List ℕ
  pub owners : List ℕ

abbrev pub tables : List ℕ → List ℕ → List ℕ → List ℕ → Tables
tables kinds widths shapes owners = record { kinds = kinds; widths = widths; shapes = shapes; owners = owners }

unfoldable pub row_of : Tables → ℕ → Abbrev
row_of t row = abbrev_of t.kinds t.widths (row_size * row) (get_or t.shapes row 0)

-- n rows from `row` on
unfoldable pub rows : Tables → ℕ → ℕ → List Abbrev
rows t row zero = []
rows t row (suc n) = row_of t row ∷ rows t (row + 1) n

-- n shared rows from `row` on, each with its block number
unfoldable pub shareds : Tables → ℕ → ℕ → List Shared
shareds t row zero = []
shareds t row (suc n) = shared (get_or t.owners row 0) (row_of t row) ∷ shareds t (row + 1) n

-- a block's abbreviations, by the numbers of its shared rows, and its local rows, which begin behind the 32 shared ones and one
unfoldable pub block_rows : Tables → List ℕ → ℕ → ℕ → List Abbrev
block_rows t own base local = map (row_of t) own ++ rows t (first_local + base) (local - base)

-- ---- what a call keeps of a table: all but the places from `from` up to `to`
pub record Outside (from to : ℕ) (xs ys : List ℕ) : Type 0 where
  pub many : length ys ≡ length xs
  pub same : (j : ℕ) → (from ≤ j → j < to → ⊥) → get_or ys j 0 ≡ get_or xs j 0

-- of the slots, their kinds ks and widths ws: all but the n slots from `from` on
pub record KeptBut (from n : ℕ) (ks ks' ws ws' : List ℕ) : Type 0 where
  pub kinds : Outside from (from + n) ks ks'
  pub widths : Outside from (from + n) ws ws'

-- and of all tables: the shared rows below `have` and the local rows below `local` hold what they held
pub record Kept (have local : ℕ) (t t' : Tables) : Type 0 where
  pub many_kinds : length t'.kinds ≡ length t.kinds
  pub many_widths : length t'.widths ≡ length t.widths
  pub many_shapes : length t'.shapes ≡ length t.shapes
  pub many_owners : length t'.owners ≡ length t.owners
  pub row : (i : ℕ) → i < first_local + local → (have ≤ i → i < first_local → ⊥) → row_of t' i ≡ row_of t i
  pub owner : (i : ℕ) → i < have → get_or t'.owners i 0 ≡ get_or t.owners i 0

-- tables of the state's sizes
pub record Whole (t : Tables) : Type 0 where
  pub kinds : length t.kinds ≡ slot_count
  pub widths : length t.widths ≡ slot_count
  pub shapes : length t.shapes ≡ row_count
  pub owners : length t.owners ≡ max_shared

-- numbers of shared rows that are in use
abbrev pub Below : ℕ → List ℕ → Type 0
Below have own = (i : ℕ) → i < length own → get_or own i 0 < have

-- ---- the state that the walk begins with
abbrev pub NothingHeld : Abbreviations → Type 0
NothingHeld a =
    (a.kinds ≡ replicate slot_count 0) × (a.widths ≡ replicate slot_count 0) × (a.shapes ≡ replicate row_count 0) × (a.owners ≡ replicate max_shared 0)
    × (a.shared ≡ 0) × (a.local ≡ 0)

-- ---- the answers of the small readers
-- an operand as the definition has it
abbrev pub operand_of : Operand → D.Operand
operand_of (O.Scalar k) = D.scalar k
operand_of O.Array = D.is_array
operand_of O.Blob = D.is_blob

abbrev pub of_operand : Result (Operand × Cursor) Reason → Told No D.Operand
of_operand (Ok (o, d)) = told (operand_of o) d
of_operand (Err r) = refuses (no_of r)

-- the number of the block that SETBID chose
abbrev pub of_chosen : RustOption BlockNumber → Option ℕ
of_chosen None = nothing
of_chosen (Some b) = some b.0

abbrev pub of_named : Result (RustOption BlockNumber × Cursor) Reason → Told No (Option ℕ)
of_named (Ok (b, d)) = told (of_chosen b) d
of_named (Err r) = refuses (no_of r)

-- ---- a definition, in the slots from base on
abbrev pub Defines : Cursor → List ℕ → Reader No Abbrev → List ℕ → List ℕ → ℕ → Result (ℕ × Cursor) Reason → Type 0
Defines c s m kinds widths base (Ok (shape, d)) = At m s c.end c.at (abbrev_of kinds widths base shape) d
Defines c s m kinds widths base (Err r) = Off m s c.end c.at (no_of r)

-- an array's element, behind i scalars
abbrev pub Elements : Cursor → List ℕ → List ℕ → List ℕ → ℕ → ℕ → Result (ℕ × Cursor) Reason → Type 0
Elements c s kinds widths base i (Ok (shape, d)) =
    At (D.operand 0 >>= D.element) s c.end c.at (abbreviation [] (array (slot kinds widths (base + i)))) d × (shape ≡ i + row_size)
Elements c s kinds widths base i (Err r) = Off (D.operand 0 >>= D.element) s c.end c.at (no_of r)

-- tables of so many kinds and widths hold the row; else there is no room
unfoldable pub define_row : ℕ → ℕ → ℕ → Reader No Abbrev
define_row row kinds widths = do
  require (ltb row row_count && leb (row_size * row + row_size) kinds && leb (row_size * row + row_size) widths) no_abbreviation_room
  D.define

-- ---- BLOCKINFO
abbrev pub InfoDoes : Cursor → List ℕ → Reader No I.InfoItem → List ℕ → List ℕ → ℕ → Result (InfoItem × Cursor) Reason → Type 0
InfoDoes c s m kinds widths have (Ok (S.End, d)) = At m s c.end c.at info_end d
InfoDoes c s m kinds widths have (Ok (S.Adds b shape, d)) =
    At m s c.end c.at (info_adds (shared b.0 (abbrev_of kinds widths (row_size * have) shape))) d × (have < max_shared)
InfoDoes c s m kinds widths have (Ok (S.Now b, d)) = At m s c.end c.at (info_now (of_chosen b)) d
InfoDoes c s m kinds widths have (Err r) = Off m s c.end c.at (no_of r)

unfoldable pub info_all : ℕ → ℕ → Reader Refusal (List Shared)
info_all w have = turns (λ k. I.info k w nothing have)

-- tables that have all shared rows, and no more of them in use; else there is no room
unfoldable pub shared_fit : ℕ → Tables → Bool
shared_fit have t =
    leb have max_shared && leb shared_slots (length t.kinds) && leb shared_slots (length t.widths) && leb max_shared (length t.shapes) && leb max_shared (length t.owners)

unfoldable pub info_block : ℕ → ℕ → Tables → Reader Refusal (List Shared)
info_block w have t = do
  from ← here
  require (shared_fit have t) (at_bit from no_abbreviation_room)
  info_all w have

-- what a BLOCKINFO adds stands behind the shared abbreviations that there were
pub record Adds (c : Cursor) (s : List ℕ) (m : Reader Refusal (List Shared)) (have have' : ℕ) (t t' : Tables) : Type 0 where
  pub added : List Shared
  pub to : ℕ
  pub gives : m s c.end c.at ≡ got added to
  pub holds : shareds t' 0 have' ≡ shareds t 0 have ++ added
  pub more : have ≤ have'
  pub most : have' ≤ max_shared

abbrev pub InfoIs : Cursor → List ℕ → Reader Refusal (List Shared) → ℕ → Tables → Tables → Result ℕ Refused → Type 0
InfoIs c s m have t t' (Ok have') = Adds c s m have have' t t'
InfoIs c s m have t t' (Err r) = m s c.end c.at ≡ refused (refusal_of r)

-- ---- lookup
-- of n shared rows from j on, those that are for the block b
unfoldable pub positions : ℕ → List ℕ → ℕ → ℕ → List ℕ
positions b owners j zero = []
positions b owners j (suc n) = when eqb (get_or owners j 0) b then j ∷ positions b owners (j + 1) n else positions b owners (j + 1) n

-- as many of them as there is room for
unfoldable pub picked : ℕ → List ℕ → ℕ → ℕ → List ℕ
picked b owners have room = take room (positions b owners 0 (min (min have max_shared) (length owners)))

-- the row that the number n stands for
unfoldable pub row_at : List ℕ → ℕ → ℕ → ℕ → Option ℕ
row_at own base local n =
    when ltb n 4 then nothing else
    when ltb (n - 4) (length own) then some (get_or own (n - 4) 0) else
    when leb local max_local && ltb (n - 4 - length own) (local - base) then some (first_local + base + (n - 4 - length own)) else nothing

abbrev pub of_row : ℕ → ℕ → Option ℕ → Result ℕ Reason
of_row block number (some row) = Ok row
of_row block number nothing = Err (NoSuchAbbrev number block)
