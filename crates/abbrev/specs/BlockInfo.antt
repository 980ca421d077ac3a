-- BLOCKINFO (01, "Walk"): what it adds to the shared abbreviations, and all its refusals. Assumes nothing.
use Rattle.std.specs.Prelude.{Bool, true, List, [], ◌∷◌, ℕ, zero, suc, ◌+◌, ◌-◌, ◌^◌, ltb, leb, eqb}
use Rattle.std.proofs.Math.Option.{Option, none as nothing, some}
use Rattle.terms.specs.Limits.{max_shared}
use Rattle.terms.specs.Refusals.{No, no, Refusal, at_bit, buffer_overflow, no_such_abbrev, missing_set_bid, nested_block_in_block_info, invalid_block_info_record, value_overflow, no_abbreviation_room}
use Rattle.bits.specs.Reader.{Reader, Answer, got, refused, ◌>>=◌, ◌>>◌, give, stop, require, when◌then◌else◌, here, placed}
use Rattle.bits.specs.Bits.{align, vbr}
use Rattle.abbrev.specs.Abbrev.{Abbrev, define, number_of}

-- a shared abbreviation, and the block number that it is for
pub data Shared : Type 0 where
  shared : ℕ → Abbrev → Shared

-- "the shared ones for this block number", as they stand in a list
unfoldable pub shared_for : ℕ → List Shared → List Abbrev
shared_for b [] = []
shared_for b (shared c a ∷ xs) = when eqb c b then a ∷ shared_for b xs else shared_for b xs

-- ---- "readable": where the number can't be read, the refusal is r. `hides` says of which refusal numbers this holds: of all, `every`.
-- (A reader that gets a log in pieces can't hide a 2 while more bytes may come.)
abbrev pub Hides : Type 0
Hides = ℕ → Bool

unfoldable pub every : Hides
every n = true

unfoldable pub or_else : {A : Type 0} → Hides → No → Answer No A → Answer No A
or_else hides r (got a q) = got a q
or_else hides r (refused (no n x y)) = when hides n then refused r else refused (no n x y)

unfoldable pub readable : {A : Type 0} → Hides → No → Reader No A → Reader No A
readable hides r m = λ s e p. or_else hides r (m s e p)

-- ---- its items; `now` is the block number that SETBID chose in this BLOCKINFO
-- "a definition or code 2, 3 before this BLOCKINFO's SETBID gives 10"
unfoldable pub chosen : Option ℕ → Reader No ℕ
chosen nothing = stop missing_set_bid
chosen (some b) = give b

-- "Room is tested after the whole definition (17)"; `have` counts the shared abbreviations so far
unfoldable pub info_definition : Option ℕ → ℕ → Reader No Shared
info_definition now have = do
  b ← chosen now
  a ← define
  require (ltb have max_shared) no_abbreviation_room
  give (shared b a)

-- "SETBID must have exactly one readable operand below 2^32, else 12"
unfoldable pub set_bid : Hides → ℕ → Reader No (Option ℕ)
set_bid hides n = do
  require (eqb n 1) (invalid_block_info_record 1)
  b ← readable hides (invalid_block_info_record 1) (vbr 6)
  require (ltb b (2 ^ 32)) (invalid_block_info_record 1)
  give (some b)

-- "Name letters above 255: 13"
unfoldable pub letters : ℕ → Reader No (Unit {0})
letters zero = give tt
letters (suc n) = do
  v ← vbr 6
  require (leb v 255) value_overflow
  letters n

unfoldable pub block_name : Option ℕ → ℕ → Reader No (Option ℕ)
block_name now n = do
  b ← chosen now
  letters n
  give now

-- "Code 3 needs a readable first operand (else 12)": the record code that the name is for
unfoldable pub record_name : Hides → Option ℕ → ℕ → Reader No (Option ℕ)
record_name hides now n = do
  b ← chosen now
  require (ltb 0 n) (invalid_block_info_record 3)
  code ← readable hides (invalid_block_info_record 3) (vbr 6)
  letters (n - 1)
  give now

-- "Once the count is read, a code outside 1..3: 12"
unfoldable pub info_record : Hides → Option ℕ → Reader No (Option ℕ)
info_record hides now = do
  code ← vbr 6
  n ← vbr 6
  when eqb code 1 then set_bid hides n else
      when eqb code 2 then block_name now n else
      when eqb code 3 then record_name hides now n else
      stop (invalid_block_info_record code)

-- an item: the end, one shared abbreviation more, or the block number that is chosen behind a record
pub data InfoItem : Type 0 where
  info_end : InfoItem
  info_adds : Shared → InfoItem
  info_now : Option ℕ → InfoItem

-- "number 0 aligns and ends; 1 gives 11; 4 and up gives 8 with block 0"
unfoldable pub info_numbered : Hides → Option ℕ → ℕ → ℕ → Reader No InfoItem
info_numbered hides now have n =
    when eqb n 0 then (do align; give info_end) else
    when eqb n 1 then stop nested_block_in_block_info else
    when eqb n 2 then (do x ← info_definition now have; give (info_adds x)) else
    when eqb n 3 then (do b ← info_record hides now; give (info_now b)) else
    stop (no_such_abbrev n 0)

-- "BLOCKINFO has no test for the end of its bits (a number that can't be read gives 2, a width outside 1..32 3)"
unfoldable pub info_item : Hides → ℕ → Option ℕ → ℕ → Reader No InfoItem
info_item hides w now have = do
  n ← number_of w
  info_numbered hides now have n

-- ---- all of it: the shared abbreviations that it adds; `more` reads the items behind one
unfoldable pub info_on : InfoItem → Option ℕ → ℕ → (Option ℕ → ℕ → Reader Refusal (List Shared)) → Reader Refusal (List Shared)
info_on info_end now have more = give []
info_on (info_adds x) now have more = do
  xs ← more now (have + 1)
  give (x ∷ xs)
info_on (info_now b) now have more = more b have

unfoldable pub info : ℕ → ℕ → Option ℕ → ℕ → Reader Refusal (List Shared)
info zero w now have = stop (at_bit 0 buffer_overflow)
info (suc k) w now have = do
  from ← here
  x ← placed from (info_item every w now have)
  info_on x now have (info k w)
