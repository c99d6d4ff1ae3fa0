-- A page of a mini-transaction that is not changed yet.
use Rattle.std.proofs.Common.{ℕ, List, [], refl}
use Rattle.ib_page.specs.Work.{with_read}
use Rattle.ib_mtr.specs.Mtr.{IsUnchangedOn}

-- a page that was read and not changed yet
pub read_unchanged : (l page : ℕ) (image : List ℕ) → IsUnchangedOn l (with_read page image [])
read_unchanged l page image n is = refl
