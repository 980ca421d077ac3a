-- What an answer of the code tells, and that it tells what a reader of the definition gives. Assumes nothing.
use Rattle.std.specs.Prelude.{◌≡◌, List, ℕ, Result, Ok, Err}
use Rattle.terms.specs.Refusals.{No, no_of}
use Rattle.terms.specs.declared.Reason.{Reason}
use Rattle.bits.specs.Reader.{got, refused, Reader}
use Rattle.bits.specs.Bits.{part}
use Rattle.bits.specs.declared.Cursor.{Cursor}

-- an answer tells a value and the cursor behind it, or a refusal
pub data Told (R A : Type 0) : Type 0 where
  told : A → Cursor → Told R A
  refuses : R → Told R A

-- m, over s up to the end e from the place p on, gives a and comes to the cursor d, whose end is e still
pub record At {R A : Type 0} (m : Reader R A) (s : List ℕ) (e p : ℕ) (a : A) (d : Cursor) : Type 0 where
  pub gives : m s e p ≡ got a d.at
  pub ends : d.end ≡ e

-- m, over s up to the end e from the place p on, refuses with r
pub record Off {R A : Type 0} (m : Reader R A) (s : List ℕ) (e p : ℕ) (r : R) : Type 0 where
  pub why : m s e p ≡ refused r

-- what t tells is what m gives, over s from the cursor c on
abbrev pub Gives : {R A : Type 0} → Cursor → List ℕ → Reader R A → Told R A → Type 0
Gives c s m (told a d) = At m s c.end c.at a d
Gives c s m (refuses r) = Off m s c.end c.at r

-- ---- the answers of the cursor's calls
abbrev pub of_read : {A : Type 0} → Result (A × Cursor) Reason → Told No A
of_read (Ok (v, d)) = told v d
of_read (Err r) = refuses (no_of r)

-- a peek hands no cursor back: the caller has the one that it began with
abbrev pub of_peek : Cursor → Result ℕ Reason → Told No ℕ
of_peek c (Ok v) = told v c
of_peek c (Err r) = refuses (no_of r)

abbrev pub of_move : Result Cursor Reason → Told No (Unit {0})
of_move (Ok d) = told tt d
of_move (Err r) = refuses (no_of r)

-- `part` gives the end of the part's cursor, which begins where the whole's stood
abbrev pub Parts : Cursor → List ℕ → ℕ → Result (Cursor × Cursor) Reason → Type 0
Parts c s n (Ok (i, d)) = At (part n) s c.end c.at i.end d × (i.at ≡ c.at)
Parts c s n (Err r) = Off (part n) s c.end c.at (no_of r)
