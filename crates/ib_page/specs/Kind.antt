-- What a page is used for.
use Rattle.std.specs.Prelude.{◌==◌, if◌then◌else◌}
use Rattle.ib_page.specs.declared.image.Kind.{Kind}
use Rattle.ib_page.specs.declared.image.Kind.TheVariants.{Free as FreeKind, Leaf, Node}
use Rattle.ib_heap.specs.Page.{PageValue}
use Rattle.ib_heap.specs.Page.PageValue.{Malformed, Free, Tree}

-- a page of the tree is a leaf where its level is 0, else a node
abbrev pub kind_of : PageValue → Kind
kind_of (Tree p) = if p.level == 0 then Leaf else Node
kind_of (Free clock) = FreeKind
kind_of Malformed = FreeKind
