-- No second outcome: the contract of every call that puts text fixes the buffer and the number that is handed back, and that of the comparison of two
-- texts fixes what it tells. Assumes nothing.
use mathlib.Core.Bool.{Bool, true, false}
use mathlib.Core.List.{List}
use mathlib.Core.Path.{◌≡◌, refl, sym, ◌∙◌}
use Prim.Native.Nat.{ℕ}
use Rattle.text.specs.declared.page.Page.{Page}
use Rattle.text.specs.Text.{Puts, Tells}
use Rattle.text.specs.Page.{Writes}

pub puts_once : {l a b : List ℕ} {fill f g : ℕ} {text : List ℕ} → Puts l a fill f text → Puts l b fill g text → (a ≡ b) × (f ≡ g)
puts_once x y = (x.bytes ∙ sym y.bytes, x.mark ∙ sym y.mark)

pub writes_once : {p a b : Page} {text : List ℕ} → Writes p a text → Writes p b text → (a.bytes.now ≡ b.bytes.now) × (a.fill ≡ b.fill)
writes_once x y = puts_once x.puts y.puts

pub tells_once : {a b : List ℕ} (r r' : Bool) → Tells r a b → Tells r' a b → r ≡ r'
tells_once true r' x y = sym (y.if_same (x.if_told refl))
tells_once false true x y = x.if_same (y.if_told refl)
tells_once false false x y = refl
