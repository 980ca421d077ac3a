-- What the contracts of `text` cite: text as a list of ASCII codes, and what putting it into a buffer does. Assumes nothing.
use Rattle.std.specs.Prelude.{List, [], ◌∷◌, ◌++◌, ◌≡◌, Bool, true, cond, ℕ, zero, suc, ◌+◌, ◌-◌, ◌/◌, ◌%◌, min, max, length, ltb, ℤ, pos, negsuc}
use Rattle.std.proofs.lemmas.List.Edits.{sets}
use Rattle.io.specs.Digits.{last_digits, hex_digit_ascii}

-- text into a buffer of which `fill` bytes are in use: it stands from there on, as far as there is room (`sets` past the end changes nothing), and
-- so many are in use then
pub record Puts (buffer after : List ℕ) (fill filled : ℕ) (text : List ℕ) : Type 0 where
  pub bytes : after ≡ sets buffer fill text
  pub mark : filled ≡ fill + min (length text) (length buffer - fill)

-- how many digits a number has in a base; a number of 64 bits has 20 at most
unfoldable pub places : ℕ → ℕ → ℕ → ℕ
places base zero n = 1
places base (suc most) n = cond (ltb n base) 1 (suc (places base most (n / base)))

-- a number in decimal
unfoldable pub decimal : ℕ → List ℕ
decimal n = last_digits 10 (places 10 20 n) n

-- the same of a signed one: 45 is `-`
unfoldable pub signed : ℤ → List ℕ
signed (pos n) = decimal n
signed (negsuc n) = (45 ∷ []) ++ decimal (suc n)

-- a number in hex, of eight digits at least
unfoldable pub word : ℕ → List ℕ
word n = last_digits 16 (max 8 (places 16 20 n)) n

-- bytes in hex, two digits a byte
unfoldable pub pair : ℕ → List ℕ
pair b = hex_digit_ascii (b / 16) ∷ (hex_digit_ascii (b % 16) ∷ [])

unfoldable pub pairs : List ℕ → List ℕ
pairs [] = []
pairs (b ∷ bs) = pair b ++ pairs bs

-- and `-` for none
unfoldable pub hex : List ℕ → List ℕ
hex [] = 45 ∷ []
hex (b ∷ bs) = pairs (b ∷ bs)

-- numbers in decimal with commas between them: 44 is `,`. Item i has one before it unless it is the first
unfoldable pub item : ℕ → ℕ → List ℕ
item zero v = decimal v
item (suc i) v = (44 ∷ []) ++ decimal v

unfoldable pub items : ℕ → List ℕ → List ℕ
items i [] = []
items i (v ∷ vs) = item i v ++ items (suc i) vs

-- whether two texts are the same is told as it is
pub record Tells (told : Bool) (a b : List ℕ) : Type 0 where
  pub if_told : told ≡ true → a ≡ b
  pub if_same : a ≡ b → told ≡ true
