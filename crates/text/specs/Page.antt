-- What a page is of a lent buffer, and what writing onto it does. Assumes nothing.
use Rattle.std.specs.Prelude.{List, ◌≡◌, ℕ}
use Rattle.std.specs.Borrow.{MutBor}
use Rattle.text.specs.declared.page.Page.{Page}
use Rattle.text.specs.Text.{Puts}

-- the page is this buffer, with so many of its bytes in use
pub record Opens (page : Page) (buffer : MutBor (List ℕ)) (used : ℕ) : Type 0 where
  pub same_buffer : page.bytes.ghost_name ≡ buffer.ghost_name
  pub bytes : page.bytes.now ≡ buffer.now
  pub fill : page.fill ≡ used

-- the text is put into the page's buffer behind what is in use of it, and the page still is of that buffer
pub record Writes (before after : Page) (text : List ℕ) : Type 0 where
  pub same_buffer : after.bytes.ghost_name ≡ before.bytes.ghost_name
  pub puts : Puts before.bytes.now after.bytes.now before.fill after.fill text

-- the page is of that buffer still, which holds what it held
pub record Keeps (before after : Page) : Type 0 where
  pub same_buffer : after.bytes.ghost_name ≡ before.bytes.ghost_name
  pub bytes : after.bytes.now ≡ before.bytes.now
