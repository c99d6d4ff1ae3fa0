-- An entry's test over the pages of a replay is its test behind the log, and leaves the pages of the log with it.
use Rattle.std.proofs.Common.{◌≡◌, ℕ, ◌*◌, ◌<◌, true, ◌||◌, List, [], ◌∷◌, ◌++◌, length, map, slice_index, sym, ap, subst, ◌∙◌, arith}
use Rattle.std.specs.List.{range_with_len}
use Rattle.std.proofs.lemmas.List.FromFn.{get_or-map-range_with_len, length-map-range_with_len}
use Rattle.ib_map.specs.Keys.{end_rank}
use Rattle.ib_map.specs.Map.{key_of}
use Rattle.ib_map.specs.Pairs.{Pairs}
use Rattle.ib_map.specs.Space.{has_pages}
use Rattle.ib_map.specs.Writes.{page_at, index_at, stored, touches}
use Rattle.ib_map.specs.declared.TheConstants.{PAGE_WORDS}
use Rattle.ib_page.specs.Memory.{image_at, word_at}
use Rattle.ib_page.specs.Opening.{opening_words}
use Rattle.ib_page.specs.Space.{IsSpacePage}
use Rattle.ib_logrec.specs.declared.entry.Entry.{Entry}
use Rattle.ib_logrec.specs.Grammar.{IsInGrammar}
use Rattle.ib_logrec.specs.Law.{AreInGrammar}
use Rattle.ib_logrec.specs.Log.{memory_after}
use Rattle.ib_logrec.proofs.LogLaws.{memory_after-push}
use Rattle.ib_walk.specs.Opening.{opening_word}
use Rattle.ib_walk.specs.Pages.{PageMemory}
use Rattle.ib_walk.specs.Words.{image_of, pages_of, bits_of, memory_of}
use Rattle.ib_walk.proofs.SpaceLaws.{IsLawfulMemory-opening, content_of-opening}
use Rattle.ib_validate.specs.Patch.{IsSliced}
use Rattle.ib_validate.specs.PatchTest.{Positions, PassesTest, IsListed, IsKeptBeside, fresh_of}
use Rattle.ib_validate.specs.Positions.{is_good_at, marks_of, positions_of}
use Rattle.ib_validate.specs.TreeMemory.{TreeMemory, IsTreeMemory, IsTreePatch, IsSettled, opening_positions}
use Rattle.ib_validate.proofs.GoodLaws.{good-at, at-good}
use Rattle.ib_tree.specs.Logs.{IsLawfulLog, IsTreeEntry, pages_after}
use Rattle.ib_tree.specs.TreeLog.{IsTreeLog}
use Rattle.ib_tree.specs.Tests.{writes_page, TellsGood, IsEntryGiven, PassesEntry}
use Rattle.ib_tree.proofs.EntryLaws.{IsTreeEntry-passes, passes-IsTreeEntry}
use Rattle.ib_tree.proofs.LogLaws.{IsLawfulLog-push}
use Rattle.ib_tree.proofs.MemoryLaws.{memory_of-after, PassesEntry-images, images-PassesEntry}
use Rattle.ib_tree.proofs.OpeningLaws.{by_place-opening, opens-kept}
use Rattle.ib_replay.specs.Replays.{IsMemory}
use Rattle.ib_replay.specs.TreeSteps.{AreTreePages, IsNext}

-- the law of a tree is that over the words of a new space
pub IsTreeLog-words : (pages : ℕ) (log : List Entry) → IsTreeLog pages log → IsLawfulLog pages 1 (opening_word 1) log
IsTreeLog-words pages log lawful = subst (λ (start : ℕ → ℕ). IsLawfulLog pages 1 start log) (by_place-opening pages) lawful

pub words-IsTreeLog : (pages : ℕ) (log : List Entry) → IsLawfulLog pages 1 (opening_word 1) log → IsTreeLog pages log
words-IsTreeLog pages log lawful = subst (λ (start : ℕ → ℕ). IsLawfulLog pages 1 start log) (sym (by_place-opening pages)) lawful

pub AreInGrammar-push : (pages : ℕ) (log : List Entry) (e : Entry) → AreInGrammar pages log → IsInGrammar pages e → AreInGrammar pages (log ++ e ∷ [])
AreInGrammar-push pages [] e is one = (one, tt)
AreInGrammar-push pages (f ∷ log) e is one = (is.0, AreInGrammar-push pages log e is.1 one)

-- a tree's entry behind a lawful log makes a lawful log
pub IsTreeLog-push : (pages : ℕ) (log : List Entry) (e : Entry) (tree : TreeMemory) (map : Pairs) → IsNext pages log e tree map → IsTreeEntry pages 1 (opening_word 1) log e → IsTreeLog pages (log ++ e ∷ [])
IsTreeLog-push pages log e tree map next entry = words-IsTreeLog pages (log ++ e ∷ [])
    (IsLawfulLog-push pages 1 (opening_word 1) log e (IsTreeLog-words pages log next.lawful) next.grammar next.legal entry)

-- the image of a page of a new space
image_at-opening : (pages page : ℕ) → page < pages → image_at (map (opening_words 1) (range_with_len 0 pages)) page ≡ opening_words 1 page
image_at-opening pages page lt = get_or-map-range_with_len (opening_words 1) 0 pages page page [] lt (omega arith)

IsMemory-opening : (pages : ℕ) → IsMemory pages [] (map (opening_words 1) (range_with_len 0 pages))
unfolding opening_word
IsMemory-opening pages = record {
  size = length-map-range_with_len (opening_words 1) 0 pages;
  words = λ place lt. ap (λ (image : List ℕ). slice_index image (index_at place)) (image_at-opening pages (page_at place) (omega arith));
}

-- the pages of a new space
pub AreTreePages-opening : (pages : ℕ) (tree : TreeMemory) → has_pages pages ≡ true → IsSettled tree → tree.before ≡ map (opening_words 1) (range_with_len 0 pages)
    → positions_of tree.met_before ≡ opening_positions → AreTreePages pages [] tree
AreTreePages-opening pages tree space settled images positions = record {
  settled = settled;
  memory = subst (IsMemory pages []) (sym images) (IsMemory-opening pages);
  kept = subst (IsKeptBeside (pages_after (opening_word 1) []) 1 pages) (sym positions)
      (subst (λ (start : ℕ → ℕ). IsKeptBeside (pages_of start) 1 pages opening_positions) (by_place-opening pages) (opens-kept pages space));
}

-- `old` are the pages of the log, and `t` those with an entry stored that is the next one
module _ (pages : ℕ) (log : List Entry) (e : Entry) (old t : TreeMemory) (target : Pairs) (next : IsNext pages log e old target)
    (same : t ≡ record old { after = t.after; written = t.written; pages = t.pages })
    (words : (place : ℕ) → place < length old.before * PAGE_WORDS → word_at t.after place ≡ stored e.writes place (word_at old.after place))
    (marks : (page : ℕ) → marks_of t.written page ≡ (marks_of old.written page || touches page e.writes))
    (memory : IsTreeMemory t) where
  before-is : t.before ≡ old.before
  before-is = ap (λ (x : TreeMemory). x.before) same

  met-is : t.met_before ≡ old.met_before
  met-is = ap (λ (x : TreeMemory). x.met_before) same

  size-before : length t.before ≡ pages
  size-before = ap length before-is ∙ next.pages_are.memory.size

  size-after : length t.after ≡ pages
  size-after = memory.after ∙ size-before

  marks-are : marks_of t.written ≡ writes_page e
  marks-are = λ i page. each page i
    where
      each : (page : ℕ) → marks_of t.written page ≡ touches page e.writes
      each page = marks page ∙ ap (λ b. b || touches page e.writes) (next.pages_are.settled.unwritten page)

  are : AreInGrammar pages (log ++ e ∷ [])
  are = AreInGrammar-push pages log e next.lawful.grammar next.grammar

  words-before : (place : ℕ) → place < pages * PAGE_WORDS → word_at t.before place ≡ memory_after (opening_word 1) log place
  words-before place lt = ap (λ (m : List (List ℕ)). word_at m place) before-is ∙ next.pages_are.memory.words place lt

  words-after : (place : ℕ) → place < pages * PAGE_WORDS → word_at t.after place ≡ memory_after (opening_word 1) (log ++ e ∷ []) place
  words-after place lt =
      words place (subst (λ n. place < n * PAGE_WORDS) (sym next.pages_are.memory.size) lt)
      ∙ ap (λ (m : List (List ℕ)). stored e.writes place (word_at m place)) next.pages_are.settled.images
      ∙ ap (stored e.writes place) (next.pages_are.memory.words place lt) ∙ sym (memory_after-push (opening_word 1) log e place)

  abbrev new : PageMemory
  new = memory_of t.after

  given : IsEntryGiven pages 1 (opening_word 1) log e (is_good_at new) t.pages (positions_of t.met_before)
  given = record {
    lawful = IsTreeLog-words pages log next.lawful;
    kept = subst (λ met. IsKeptBeside (pages_after (opening_word 1) log) 1 pages (positions_of met)) (sym met-is) next.pages_are.kept;
    grammar = next.grammar;
    legal = next.legal;
    listed = subst (λ n. IsListed (writes_page e) t.pages n) size-before (subst (λ w. IsListed w t.pages (length t.before)) marks-are memory.listed);
    tells = subst (TellsGood (is_good_at new)) (memory_of-after pages (log ++ e ∷ []) next.space are t.after size-after words-after) (λ h v. (good-at new h v, at-good new h v));
  }

  -- the test of the images is that of the entry
  passes-entry : (table : Positions) → IsTreePatch t table (key_of e.change) target → PassesEntry pages 1 (opening_word 1) log e (is_good_at new) t.pages (positions_of t.met_before) table
  passes-entry table patch =
      PassesEntry-images pages next.space log e are t.before t.after size-before size-after words-before words-after (is_good_at new) t.pages (positions_of t.met_before) table
      (λ w. subst (λ n. IsSpacePage n (image_of (word_at t.after) 0)) size-after (patch.space (ap (λ f. f 0) marks-are ∙ w)))
      (subst (λ (T : Type 0). T) (λ i. PassesTest (marks-are i) (memory_of t.before) new (is_good_at new) (bits_of (size-before i) (word_at t.before)) (bits_of (size-after i) (word_at t.after)) 1 end_rank t.pages
      (positions_of t.met_before) table) patch.passes)
      (subst (λ m. IsSliced new (fresh_of t.pages table 1) m (key_of e.change)) next.map_is patch.sliced)

  entry-passes : (table : Positions) → PassesEntry pages 1 (opening_word 1) log e (is_good_at new) t.pages (positions_of t.met_before) table → IsTreePatch t table (key_of e.change) target
  entry-passes table passes =
      let over = images-PassesEntry pages next.space log e are t.before t.after size-before size-after words-before words-after (is_good_at new) t.pages (positions_of t.met_before) table passes in
      record {
        passes = subst (λ (T : Type 0). T) (sym (λ i. PassesTest (marks-are i) (memory_of t.before) new (is_good_at new) (bits_of (size-before i) (word_at t.before)) (bits_of (size-after i) (word_at t.after)) 1 end_rank t.pages
            (positions_of t.met_before) table)) over.1;
        sliced = subst (λ m. IsSliced new (fresh_of t.pages table 1) m (key_of e.change)) (sym next.map_is) over.2;
        space = λ w. subst (λ n. IsSpacePage n (image_of (word_at t.after) 0)) (sym size-after) (over.0 (sym (ap (λ f. f 0) marks-are) ∙ w));
      }

  -- what passes is a tree's entry, and once it is settled the pages are those of the log with it
  pub entry-patch : (table : Positions) (now : TreeMemory) → IsTreePatch t table (key_of e.change) target → IsSettled now → now.after ≡ t.after → positions_of now.met_after ≡ table
      → IsTreeEntry pages 1 (opening_word 1) log e × AreTreePages pages (log ++ e ∷ []) now
  entry-patch table now patch settled images positions =
      let found = IsTreeEntry-passes pages 1 (omega arith) (opening_word 1) (IsLawfulMemory-opening 1 (omega arith) (omega arith) pages next.space) (content_of-opening 1 (omega arith) (omega arith) 1 (omega arith) (omega arith)) log e (is_good_at new) t.pages (positions_of t.met_before) given table
      (passes-entry table patch) in
      let before : now.before ≡ t.after = sym settled.images ∙ images in (
        found.0,
        record {
          settled = settled;
          memory = subst (IsMemory pages (log ++ e ∷ [])) (sym before) (record { size = size-after; words = words-after });
          kept = subst (IsKeptBeside (pages_after (opening_word 1) (log ++ e ∷ [])) 1 pages) (sym positions ∙ settled.positions) found.1;
        },
      )

  -- a tree's entry passes
  pub patch-entry : IsTreeEntry pages 1 (opening_word 1) log e → (table : Positions) × IsTreePatch t table (key_of e.change) target
  patch-entry entry =
      let found = passes-IsTreeEntry pages 1 (omega arith) (opening_word 1) (IsLawfulMemory-opening 1 (omega arith) (omega arith) pages next.space) (content_of-opening 1 (omega arith) (omega arith) 1 (omega arith) (omega arith)) log e (is_good_at new) t.pages (positions_of t.met_before) given entry in
      (found.0, entry-passes found.0 found.1)
