-- What a work set ends as when it lends an image.
use Rattle.std.specs.Prelude.{ℕ, List}
use Rattle.std.specs.Borrow.{Lends, MutBor, Fml}
use Rattle.ib_page.specs.Work.{WorkPage, with_changed, with_read}
use Rattle.ib_page.specs.contracts.image.Image.{the_row as image_row}
use Rattle.ib_page.specs.contracts.work.WorkSet.{the_row}

-- what is left behind the reference is the changed image of this page, and nothing else changes
abbrev pub LendsChanged : MutBor (List WorkPage) → ℕ → MutBor (List ℕ) → Fml
LendsChanged w page r = Lends the_row image_row w r (λ image. with_changed page image w.now)

-- what is left behind the reference is the image of this page, as read and as changed
abbrev pub LendsRead : MutBor (List WorkPage) → ℕ → MutBor (List ℕ) → Fml
LendsRead w page r = Lends the_row image_row w r (λ image. with_read page image w.now)
