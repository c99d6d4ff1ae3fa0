-- A look at the log's end, a page that is loaded, and a page that is changed: each leaves a mini-transaction.
use Rattle.std.proofs.Common.{◌≡◌, ℕ, ◌+◌, ◌<◌, true, List, [], ◌∷◌, ◌++◌, sym, subst}
use Rattle.std.proofs.lemmas.List.Elements.{All-weaker}
use Rattle.ib_map.specs.declared.TheConstants.{PAGE_WORDS}
use Rattle.ib_core.specs.Sessions.{holdings}
use Rattle.ib_page.specs.Work.{WorkPage, with_changed, with_read}
use Rattle.ib_logrec.specs.declared.entry.Entry.{Entry}
use Rattle.ib_rule.specs.Pass.{PassState, with_view}
use Rattle.ib_rule.specs.Space.{SpaceState}
use Rattle.ib_rule.specs.Views.{loading, reaching}
use Rattle.ib_frames.specs.Reads.{IsLoadedImage, loads_below, with_page_loaded}
use Rattle.ib_mtr.specs.Mtr.{IsMtr, with_work}
use Rattle.ib_mtr.proofs.Images.{All-with_changed, All-with_page, image_behind, image_loaded}

-- a look
pub looked_mtr : (space : SpaceState) (p q : PassState) (log : List Entry) → IsMtr space p → q ≡ with_view p (reaching log p.view) → IsMtr space q
looked_mtr space p q log mtr is = subst (IsMtr space) (sym is) (record {
  own = record { table = mtr.own.table; sizes = mtr.own.sizes; closed = mtr.own.closed };
  works = mtr.works;
  free = mtr.free;
  proper = mtr.proper;
  exact = mtr.exact;
  known = mtr.known;
  held = mtr.held;
  read = mtr.read;
})

-- a page more, whose latch is held
pub loaded_mtr : (space : SpaceState) (p q : PassState) (log : List Entry) (page : ℕ) (image : List ℕ) → IsMtr space p → 0 < holdings (page + 2) p.view.session
    → q ≡ with_work (with_read page image p.work) (with_view p (reaching log (with_page_loaded page image p.view))) → IsMtr space q
loaded_mtr space p q log page image mtr held is =
    let new : WorkPage = record { page = page; before = image; changed = image } in
    subst (IsMtr space) (sym is) (record {
      own = record { table = mtr.own.table; sizes = mtr.own.sizes; closed = mtr.own.closed };
      works = mtr.works;
      free = mtr.free;
      proper = mtr.proper;
      exact = mtr.exact;
      known = mtr.known;
      held = All-with_page (λ w. 0 < holdings (w.page + 2) p.view.session) (record { page = page; before = image; changed = image }) p.work held mtr.held;
      read = All-with_page (λ w. IsLoadedImage (loads_below page image PAGE_WORDS ++ p.view.memory.loaded) w.page w.before) (record { page = page; before = image; changed = image }) p.work
          (image_loaded page image p.view.memory.loaded)
          (All-weaker (λ w. IsLoadedImage p.view.memory.loaded w.page w.before) (λ w. IsLoadedImage (loads_below page image PAGE_WORDS ++ p.view.memory.loaded) w.page w.before)
          (λ w read. image_behind (loads_below page image PAGE_WORDS) p.view.memory.loaded w.page w.before read) p.work mtr.read);
    })

-- a word more, of a page that is held
pub worded_mtr : (space : SpaceState) (p q : PassState) (place value : ℕ) → IsMtr space p → q ≡ with_view p (loading place value p.view) → IsMtr space q
worded_mtr space p q place value mtr is = subst (IsMtr space) (sym is) (record {
  own = record { table = mtr.own.table; sizes = mtr.own.sizes; closed = mtr.own.closed };
  works = mtr.works;
  free = mtr.free;
  proper = mtr.proper;
  exact = mtr.exact;
  known = mtr.known;
  held = mtr.held;
  read = All-weaker (λ w. IsLoadedImage p.view.memory.loaded w.page w.before) (λ w. IsLoadedImage (record { place = place; value = value; is_fresh = true } ∷ p.view.memory.loaded) w.page w.before)
      (λ w read. image_behind (record { place = place; value = value; is_fresh = true } ∷ []) p.view.memory.loaded w.page w.before read) p.work mtr.read;
})

-- a page with another changed image
pub edited_mtr : (space : SpaceState) (p : PassState) (page : ℕ) (image : List ℕ) → IsMtr space p → IsMtr space (with_work (with_changed page image p.work) p)
edited_mtr space p page image mtr = record {
  own = record { table = mtr.own.table; sizes = mtr.own.sizes; closed = mtr.own.closed };
  works = mtr.works;
  free = mtr.free;
  proper = mtr.proper;
  exact = mtr.exact;
  known = mtr.known;
  held = All-with_changed (λ n _. 0 < holdings (n + 2) p.view.session) page image p.work mtr.held;
  read = All-with_changed (λ n before. IsLoadedImage p.view.memory.loaded n before) page image p.work mtr.read;
}
