-- What can be read is sound, and what is sound can be read.
use Rattle.std.proofs.Common.{◌≡◌, ℕ, List, refl, arith}
use Rattle.ib_heap.specs.declared.TheConstants.{MOST_RECORDS}
use Rattle.ib_page.specs.Page.{Page, IsPage, PageValue, HoldsPage}
use Rattle.ib_page.specs.Page.PageValue.{Malformed as MalformedValue, Free as FreeValue, Tree as TreeValue}
use Rattle.ib_page.specs.Form.{page_of}
use Rattle.ib_page.specs.Image.{IsFormed}
use Rattle.ib_heap.proofs.FormLaws.{tree_fits}
use Rattle.ib_walk.specs.Pages.{IsSound}
use Rattle.ib_walk.specs.Words.{state_of}

of_page : (p : Page) → IsPage p → IsSound MOST_RECORDS (state_of (TreeValue p))
of_page p h = record {
  formed = λ e. cc;
  ascends = h.ascends;
  short = h.few;
  low = h.level;
  prev = h.prev;
  next = h.next;
  node = λ lt. (h.no_prev lt, h.no_next lt);
}

of_free : (clock : ℕ) → IsSound MOST_RECORDS (state_of (FreeValue clock))
of_free clock = record {
  formed = λ e. cc;
  ascends = omega arith;
  short = omega arith;
  low = omega arith;
  prev = omega arith;
  next = omega arith;
  node = λ lt. (refl, refl);
}

by_value : (v : PageValue) → ((p : Page) → v ≡ TreeValue p → IsPage p) → HoldsPage v → IsSound MOST_RECORDS (state_of v)
by_value (TreeValue p) fits h = of_page p (fits p refl)
by_value (FreeValue clock) fits h = of_free clock
by_value MalformedValue fits h = absurd h

pub sound-formed : (ws : List ℕ) → IsFormed ws → IsSound MOST_RECORDS (state_of (page_of ws))
sound-formed ws formed = by_value (page_of ws) (λ p e. tree_fits ws p e) formed

read_of : (v : PageValue) → IsSound MOST_RECORDS (state_of v) → HoldsPage v
read_of (TreeValue p) h = tt
read_of (FreeValue clock) h = tt
read_of MalformedValue h = h.formed refl

pub formed-sound : (ws : List ℕ) → IsSound MOST_RECORDS (state_of (page_of ws)) → IsFormed ws
formed-sound ws h = read_of (page_of ws) h
