-- A page over a source of its words: what a read asks of the source, and what it leaves of it.
use Rattle.std.specs.Prelude.{◌≡◌}
use Rattle.ib_heap.specs.declared.words.PageWords.{Ghosts}
use Rattle.ib_heap.specs.Image.{IsTreePage}

-- the source may be read, and its words are a page of the tree
pub record IsTreeSource {T : Type 0} (source : Ghosts T) (page : T) : Type 0 where
  pub can : source.can_read page
  pub tree : IsTreePage (source.words page)

-- the source was read, and has the words that it had
pub record IsStillSource {T : Type 0} (source : Ghosts T) (old new : T) : Type 0 where
  pub same : source.words new ≡ source.words old
  pub can : source.can_read new
  pub read : source.has_read old new
