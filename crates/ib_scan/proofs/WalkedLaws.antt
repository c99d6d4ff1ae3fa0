-- What a scan keeps stays while the log grows, and says where it stands in each log.
use Rattle.std.specs.List.{AllByRecursion}
use Rattle.std.proofs.Common.{◌≡◌, ℕ, ◌<◌, ◌≤◌, false, List, [], ◌∷◌, ◌++◌, length, sym, ap, subst, ◌∙◌, arith}
use Rattle.ib_map.specs.Keys.{MapKey, rank, end_rank}
use Rattle.ib_map.specs.Pairs.{cut}
use Rattle.ib_map.specs.Writes.{touches}
use Rattle.ib_page.specs.Image.{IsTreePage, next_of, records_of}
use Rattle.ib_logrec.specs.declared.entry.Entry.{Entry}
use Rattle.ib_logrec.specs.Log.{memory_after}
use Rattle.ib_walk.specs.Pages.{Tree, PageMemory}
use Rattle.ib_walk.specs.Walk.{counts_visit}
use Rattle.ib_walk.specs.Trees.{content_of, height_of, weight_of, IsTreeOf}
use Rattle.ib_walk.specs.Search.{leaf_for}
use Rattle.ib_walk.specs.Words.{image_of, bits_of}
use Rattle.ib_walk.specs.Chunk.{IsLastKey, IsChunk}
use Rattle.ib_tree.specs.Logs.{pages_after}
use Rattle.ib_tree.proofs.PatchLaws.{counts_visit-own}
use Rattle.ib_cursor.specs.OnPath.{IsOnPath}
use Rattle.ib_cursor.specs.Laws.{Laws}
use Rattle.ib_cursor.proofs.LogLaws.{tree_of-log, range_stays, bit_inside}
use Rattle.ib_cursor.proofs.NextLaws.{leaf-counts}
use Rattle.ib_cursor.proofs.PageLaws.{tree_image}
use Rattle.ib_cursor.proofs.StepLaws.{image_stays}
use Rattle.ib_cursor.proofs.OnPathLaws.{met_on-path}
use Rattle.ib_scan.specs.Leaves.{IsBehind}
use Rattle.ib_scan.specs.Walked.{ReadLeaf, first_read, EndsBy, IsReadOf, IsWalked}
use Rattle.ib_scan.proofs.ChunkLaws.{chunk_leaf, chunk_read, some_chunk}
use Rattle.ib_scan.proofs.KeyLaws.{last_between}
use Rattle.ib_scan.proofs.LatchingLaws.{AreMetOnce, met_once, Stands, IsSameLeaf, stands_at, stands_behind, stands_kind, stands_leaf}
use Rattle.ib_walk.proofs.CountLaws.{weight-met, met-weight}

-- entries write no word of the page
abbrev pub AreCalm : List Entry → ℕ → Type 0
AreCalm es page = AllByRecursion (λ e. touches page e.writes ≡ false) es

read-stays : (opening : ℕ → ℕ) (log es : List Entry) (p : ReadLeaf) → AreCalm es p.page → IsReadOf opening log p → IsReadOf opening (log ++ es) p
read-stays opening log es p calm is = is ∙ sym (image_stays opening log es p.page calm)

each-stays : (opening : ℕ → ℕ) (log es : List Entry) (ps : List ReadLeaf) → AllByRecursion (λ p. AreCalm es p.page) ps → AllByRecursion (IsReadOf opening log) ps → AllByRecursion (IsReadOf opening (log ++ es)) ps
each-stays opening log es [] calm is = tt
each-stays opening log es (p ∷ ps) calm is = (read-stays opening log es p calm.0 is.0, each-stays opening log es ps calm.1 is.1)

first-of : (P : ReadLeaf → Type 0) (ps : List ReadLeaf) (last : ReadLeaf) → AllByRecursion P ps → P last → P (first_read ps last)
first-of P [] last all one = one
first-of P (p ∷ ps) last all one = all.0

module _ (pages roots : ℕ) (lawful : List Entry → Type 0) (opening : ℕ → ℕ) (laws : Laws pages roots lawful opening) (root : ℕ) where
  pub walked_stays : (log es : List Entry) (start : MapKey) (ps : List ReadLeaf) (last : ReadLeaf) → lawful (log ++ es) → AllByRecursion (λ p. AreCalm es p.page) ps → AreCalm es last.page
      → IsWalked roots opening log root start ps last → IsWalked roots opening (log ++ es) root start ps last
  walked_stays log es start ps last legal calm one w = record {
    images = each-stays opening log es ps calm w.images;
    image = read-stays opening log es last one w.image;
    passed = w.passed;
    low = w.low;
    high = w.high;
    met = range_stays pages roots lawful opening laws root w.met.0 w.met.1 log es (first_read ps last).page (record { root = root; low = w.low; end = w.high; level = 0 }) legal (first-of (λ p. AreCalm es p.page) ps last calm one) w.met;
    le = w.le;
  }

  module _ (log : List Entry) (legal : lawful log) where
    abbrev pub tree_at_log : PageMemory
    tree_at_log = pages_after opening log

    pub tree_is : 0 < root → root ≤ roots → IsTreeOf tree_at_log (height_of tree_at_log root) root
    tree_is some le = tree_of-log pages roots lawful opening laws root some le log legal

    pub leaves_met : 0 < root → root ≤ roots → AreMetOnce pages tree_at_log root
    leaves_met some le = met_once pages tree_at_log (bits_of pages (memory_after opening log)) roots root (laws.memory log legal).law some le (bit_inside pages (memory_after opening log))

    same-leaf : (p : ReadLeaf) → (tree_at_log p.page).kind ≡ Tree → IsReadOf opening log p → IsSameLeaf tree_at_log p
    same-leaf p kind is = let l = tree_image (memory_after opening log) p.page kind in record { next = l.next ∙ ap next_of (sym is); records = l.records ∙ ap records_of (sym is) }

    module _ (start : MapKey) (ps : List ReadLeaf) (last : ReadLeaf) (w : IsWalked roots opening log root start ps last) where
      pub walked_stands : Stands tree_at_log root start ps last.page
      walked_stands = stands_at tree_at_log root (tree_is w.met.0 w.met.1) start (IsReadOf opening log) same-leaf ps last w.low w.high (weight-met w.met.2) w.le w.passed w.images

      walked-kind : (tree_at_log last.page).kind ≡ Tree
      walked-kind = stands_kind tree_at_log root (tree_is w.met.0 w.met.1) start ps last.page walked_stands

      pub walked_same : IsSameLeaf tree_at_log last
      walked_same = same-leaf last walked-kind w.image

      -- the image is that of a page of the tree
      pub walked_tree : IsTreePage last.image
      walked_tree = subst IsTreePage (sym w.image) (tree_image (memory_after opening log) last.page walked-kind).tree

      -- the chunk that begins at the start, read off the leaf
      pub walked_chunk : (high end : MapKey) → EndsBy start high end last.image → IsChunk tree_at_log root start high end (cut (records_of last.image) start end)
      walked_chunk high end e = chunk_read pages tree_at_log root (tree_is w.met.0 w.met.1) (leaves_met w.met.0 w.met.1) start high end ps last walked_stands walked_same e

      pub walked_leaf : (high end : MapKey) (e : EndsBy start high end last.image) → (walked_chunk high end e).leaf.page ≡ last.page
      unfolding walked_chunk
      walked_leaf high end e = chunk_leaf pages tree_at_log root (tree_is w.met.0 w.met.1) (leaves_met w.met.0 w.met.1) start high end ps last walked_stands walked_same e

      -- a chunk begins at the start, in some leaf
      pub walked_some : (high : MapKey) → (end : MapKey) × IsChunk tree_at_log root start high end (cut (content_of tree_at_log root) start end)
      walked_some high = some_chunk tree_at_log root (tree_is w.met.0 w.met.1) start high (walked_stands.before ++ walked_stands.passed) walked_stands.visit walked_stands.behind walked_stands.is walked_stands.below

      -- the leaf on which the scan stands is so many leaves behind the first one that is held
      pub walked_behind : IsBehind tree_at_log root (first_read ps last).page last.page (length ps)
      walked_behind = stands_behind tree_at_log root start ps last walked_stands

      -- the first of the leaves is as it was read
      pub walked_begins : IsReadOf opening log (first_read ps last)
      walked_begins = first-of (IsReadOf opening log) ps last w.images w.image

      -- another chunk begins behind the leaf's last key: the scan stands on the leaf alone
      pub walked_on : (key next : MapKey) → IsLastKey (records_of last.image) key → rank key < rank next → IsWalked roots opening log root next [] last
      walked_on key next is lt =
          let s = walked_stands in
          let leaf = stands_leaf tree_at_log root (tree_is w.met.0 w.met.1) start ps last.page s in
          let records : (tree_at_log s.visit.page).records ≡ records_of last.image = ap (λ k. (tree_at_log k).records) s.here ∙ walked_same.records in
          let low = (last_between s.visit.low (tree_at_log s.visit.page).records s.visit.high key leaf.within (subst (λ rs. IsLastKey rs key) (sym records) is)).0 in
          let counts = leaf-counts tree_at_log root s.visit (record { before = s.before ++ s.passed; behind = s.behind; is = s.is }) (counts_visit 0 s.visit) (let own = counts_visit-own 0 s.visit in omega arith) in
          record {
            images = tt;
            image = w.image;
            passed = tt;
            low = s.visit.low;
            high = s.visit.high;
            met = (
              w.met.0,
              w.met.1,
              met-weight tree_at_log root 0 (record { page = last.page; low = s.visit.low; high = s.visit.high })
                  (subst (λ k. 0 < weight_of (counts_visit 0 (record { page = k; low = s.visit.low; high = s.visit.high })) tree_at_log root) s.here (let c = counts in omega arith)),
            );
            le = omega arith;
          }

    -- a scan begins on the key's leaf
    pub walked_first : (key : MapKey) (leaf : ℕ) (image : List ℕ) → 0 < root → root ≤ roots → rank key < end_rank → leaf ≡ leaf_for tree_at_log key root → image ≡ image_of (memory_after opening log) leaf
        → IsWalked roots opening log root key [] (record { page = leaf; image = image })
    walked_first key leaf image some le lt is read =
        let on : IsOnPath tree_at_log root key leaf 0 = record { depth = height_of tree_at_log root; height = omega arith; below = sym is } in
        let met = met_on-path tree_at_log root (tree_is some le) key lt leaf 0 on in
        record {
          images = tt;
          image = read;
          passed = tt;
          low = met.visit.low;
          high = met.visit.high;
          met = (
            some,
            le,
            met-weight tree_at_log root 0 (record { page = leaf; low = met.visit.low; high = met.visit.high })
                (subst (λ k. 0 < weight_of (counts_visit 0 (record { page = k; low = met.visit.low; high = met.visit.high })) tree_at_log root) met.here met.met),
          );
          le = met.low;
        }
