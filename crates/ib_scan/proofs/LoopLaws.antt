-- From leaf to leaf, and from chunk to chunk.
use Rattle.std.specs.List.{AllByRecursion}
use Rattle.std.specs.Prelude.{is_some}
use Rattle.std.proofs.Common.{Option, None, true, ◌≡◌, ◌⊎◌, inl, inr, ℕ, ◌+◌, ◌<◌, ◌≤◌, ◌^◌, List, [], ◌∷◌, ◌++◌, take, Some, length, refl, sym, ap, subst, ◌∙◌, arith, append-nil, length-append}
use Rattle.std.proofs.Math.Seq.{take-length}
use Rattle.std.proofs.lemmas.List.{length-map, take-append-le}
use Rattle.ib_map.specs.Keys.{MapKey, rank, end_rank, key_after}
use Rattle.ib_map.specs.Pairs.{cut}
use Rattle.ib_heap.proofs.CopyLaws.{length-cut}
use Rattle.ib_map.specs.Chunks.{HeldChunks}
use Rattle.ib_map.specs.Replies.{Span}
use Rattle.ib_map.proofs.KeyLaws.{after-least_above, after-above, after-none}
use Rattle.ib_levels.specs.declared.level.Mode.TheVariants.{S}
use Rattle.ib_layout.specs.Geometry.{Sizes}
use Rattle.ib_page.specs.Image.{IsTreePage, next_of, records_of}
use Rattle.ib_page.specs.Work.{WorkPage, changed_of}
use Rattle.ib_heap.specs.declared.TheConstants.{MOST_RECORDS}
use Rattle.ib_page.specs.Page.{page_in}
use Rattle.ib_heap.proofs.FormLaws.{tree_in}
use Rattle.ib_logrec.specs.declared.entry.Entry.{Entry}
use Rattle.ib_logrec.specs.Log.{memory_after}
use Rattle.ib_walk.specs.Trees.{content_of}
use Rattle.ib_walk.specs.Words.{image_of}
use Rattle.ib_rule.specs.declared.looks.Grants.{Grants}
use Rattle.ib_rule.specs.Pass.{PassState}
use Rattle.ib_rule.specs.Views.{total}
use Rattle.ib_walk.specs.Chunk.{IsChunk, IsLastKey}
use Rattle.ib_walk.proofs.WalkLaws.{AllByRecursion-append}
use Rattle.ib_tree.specs.Logs.{pages_after}
use Rattle.ib_tree.specs.Scans.{IsReadAt, AreFront, AreWhole}
use Rattle.ib_cursor.specs.Grants.{Grant, page_grant, HasGrants}
use Rattle.ib_cursor.specs.Going.{IsKnown, WentOn}
use Rattle.ib_cursor.proofs.LatchingLaws.{went_beside, went_both, went_none, known_beside, seen_longer}
use Rattle.ib_cursor.specs.Laws.{Laws}
use Rattle.ib_cursor.specs.declared.position.Position.{Position}
use Rattle.ib_scan.specs.declared.walk.Found.{Found}
use Rattle.ib_scan.specs.Leaves.{IsBehind, GoesTo, GoesOver, GoesToNext}
use Rattle.ib_scan.specs.Stored.{IsKept, GaveLast}
use Rattle.ib_scan.specs.Walked.{ReadLeaf, first_read, leaf_grants, IsSkipped, EndsBy, IsWalked}
use Rattle.ib_scan.specs.Scanning.{Appends, AreHeld, IsGivenBy}
use Rattle.ib_scan.specs.Steps.{MayPass, HasPassed, IsOnLeaf, IsAlong, HasReachedEnd, HasFront, HasSomeFront, IsAside, HasLast, IsScannedTo, HasRun, HasRunToEnd, HasRunToStop, loaded_as}
use Rattle.ib_scan.proofs.FrontLaws.{front_longer, front_push, appends_more}
use Rattle.ib_scan.proofs.HoldLaws.{held_on, held_push}
use Rattle.ib_scan.proofs.GoesLaws.{over_longer, over_push}
use Rattle.ib_scan.proofs.KeptLaws.{kept_longer}
use Rattle.ib_scan.proofs.LeaveLaws.{beside_aside}
use Rattle.ib_scan.proofs.PassLaws.{first_push, loaded_there}
use Rattle.ib_scan.proofs.LatchingLaws.{held_apart}
use Rattle.ib_scan.proofs.WalkedLaws.{tree_at_log, tree_is, leaves_met, walked_stands, walked_tree, walked_chunk, walked_leaf, walked_some, walked_behind, walked_begins, walked_on}

-- the first leaf of a work set
abbrev leaf-in : List WorkPage → ReadLeaf
leaf-in [] = record { page = 0; image = [] }
leaf-in (w ∷ ws) = record { page = w.page; image = w.before }

-- the image of a page of the tree, loaded
pub record IsLoaded (leaf : ℕ) (image : List ℕ) (p : PassState) : Type 0 where
  pub is : changed_of leaf p.work ≡ Some image
  pub tree : IsTreePage image

module _ (sizes : Sizes) (roots : ℕ) (lawful : List Entry → Type 0) (opening : ℕ → ℕ) (laws : Laws sizes.pages roots lawful opening) where
  -- a scan stands on its first leaf
  pub along_none : (leaf : ℕ) (start : MapKey) (p : PassState) (h : IsOnLeaf sizes lawful opening roots leaf start p) → IsAlong sizes lawful opening roots h.root start leaf 0 p p
  along_none leaf start p h = record {
    ps = [];
    last = record { page = leaf; image = h.image };
    here = refl;
    count = refl;
    few = omega arith;
    begins = h.scans.work;
    scans = h.scans;
    went = went_none p;
    s = omega arith;
    sx = refl;
    x = refl;
  }

  module _ (root : ℕ) (start : MapKey) (leaf passed : ℕ) (p q : PassState) (a : IsAlong sizes lawful opening roots root start leaf passed p q) where
    pub along_loaded : IsLoaded leaf a.last.image q
    along_loaded = record {
      is = loaded_there a.last.page leaf a.last.image q.work a.here a.scans.work;
      tree = walked_tree sizes.pages roots lawful opening laws root q.view.memory.seen a.scans.known.legal start a.ps a.last a.scans.walked;
    }

    abbrev pub along_may : (next : ℕ) → next ≡ next_of a.last.image → IsSkipped start a.last.image → total p.view.grants + 4096 ≤ 2 ^ 52 → MayPass sizes lawful opening roots leaf next q
    along_may next link skipped room = record {
      root = root;
      start = start;
      ps = a.ps;
      last = a.last;
      scans = a.scans;
      here = a.here;
      link = link;
      skipped = skipped;
      room = let s = a.s in let sx = a.sx in let x = a.x in let f = a.few in omega arith;
    }

    pub along_passed : (next : ℕ) (r : PassState) → next ≡ next_of a.last.image → sizes.pages ≤ 4096 → HasPassed sizes lawful opening roots root start a.ps a.last q r → IsAlong sizes lawful opening roots root start next (passed + 1) p r
    along_passed next r link most h =
        let s : r.view.grants.s ≡ q.view.grants.s + 1 = ap (λ (g : Grants). g.s) h.grants in
        let sx : r.view.grants.sx ≡ q.view.grants.sx = ap (λ (g : Grants). g.sx) h.grants in
        let x : r.view.grants.x ≡ q.view.grants.x = ap (λ (g : Grants). g.x) h.grants in
        let cs = a.s in let csx = a.sx in let cx = a.x in
        let long = length-append a.ps (a.last ∷ []) in let count = a.count in let few = h.few in
        record {
          ps = a.ps ++ a.last ∷ [];
          last = record { page = next_of a.last.image; image = h.out };
          here = sym link;
          count = omega arith;
          few = omega arith;
          begins = subst (λ (f : ReadLeaf). p.work ≡ loaded_as f ∷ []) (sym (first_push a.ps a.last (record { page = next_of a.last.image; image = h.out }))) a.begins;
          scans = h.scans;
          went = went_both p q r a.went h.went;
          s = omega arith;
          sx = omega arith;
          x = omega arith;
        }

    -- the leaves in front
    pub front_at : HasFront passed a.last.page a.last.image q
    front_at = record {
      front = leaf_grants a.ps;
      size = length-map a.ps (λ (l : ReadLeaf). page_grant l.page S) ∙ a.count;
      grants = a.scans.grants;
      apart = held_apart (tree_at_log sizes.pages roots lawful opening laws root q.view.memory.seen a.scans.known.legal) root (tree_is sizes.pages roots lawful opening laws root q.view.memory.seen a.scans.known.legal a.scans.walked.met.0 a.scans.walked.met.1) start
          sizes.pages (leaves_met sizes.pages roots lawful opening laws root q.view.memory.seen a.scans.known.legal a.scans.walked.met.0 a.scans.walked.met.1) a.ps a.last.page
          (walked_stands sizes.pages roots lawful opening laws root q.view.memory.seen a.scans.known.legal start a.ps a.last a.scans.walked);
      watched = a.scans.here;
      work = a.scans.work;
    }

    abbrev pub some_front : HasSomeFront passed q
    some_front = record { leaf = leaf; image = a.last.image; front = subst (λ k. HasFront passed k a.last.image q) a.here front_at }

  module _ (root begun leaf : ℕ) (low start high : MapKey) (out0 out : HeldChunks) (p0 p : PassState) (i : IsScannedTo sizes lawful opening roots root begun leaf low start high out0 out p0 p) where
    abbrev pub on_leaf : IsOnLeaf sizes lawful opening roots leaf start p
    on_leaf = record { root = root; image = i.image; scans = i.scans; room = let r = i.room in omega arith }

    -- the leaf that is kept gave the last chunk, or it is the first one
    kept-of : (more : List Entry) (kept : Position) → kept.page ≡ leaf → kept.place ≡ length p.view.memory.seen
        → ((i.up_to.spans ≡ []) × (kept.page ≡ begun) × (kept.place ≡ length p0.view.memory.seen)) ⊎ GaveLast opening (p.view.memory.seen ++ more) root kept high i.up_to.spans
    kept-of more kept page place = elim i.on [
      | inr l ↦ inr (record {
        before = l.before;
        last = l.last;
        are = l.are;
        placed = place ∙ sym l.placed;
        given = subst (λ es. IsGivenBy opening es root kept.page high l.last) (sym (take-append-le l.last.place p.view.memory.seen more (let e = l.placed in omega arith)))
            (subst (λ n. IsGivenBy opening (take l.last.place p.view.memory.seen) root n high l.last) (sym page) l.given);
      })
      | inl none ↦ elim i.up_to.first [
        | inl same ↦
            let o = subst (λ xs. GoesOver opening p.view.memory.seen root high begun xs leaf i.up_to.count) none i.up_to.over in
            inl (none, page ∙ o.0, place ∙ ap length same.3)
        | inr lt ↦
            let f = subst (λ xs. AreFront opening p.view.memory.seen root low high (length p0.view.memory.seen) xs start i.up_to.last) none i.up_to.chunks in
            absurd (let e = ap rank f.0 in omega arith)
      ]
    ]

    -- no chunk place is spare
    pub full : out.chunk_room ≡ 0 → (kept : Position) → IsKept lawful opening roots root start p.view.memory.seen kept → kept.page ≡ leaf → kept.place ≡ length p.view.memory.seen
        → HasRunToStop sizes lawful opening roots root begun low high (record { next = start; kept = kept }) out0 out p0 p
    full none kept keeps page place =
        let some = walked_some sizes.pages roots lawful opening laws root p.view.memory.seen i.scans.known.legal start [] (record { page = leaf; image = i.image }) i.scans.walked high in
        let same = append-nil p.view.memory.seen in
        let appends = i.up_to.appends.chunk_room in
        let s = i.up_to.s in
        record {
          spans = i.up_to.spans;
          run = record {
            appends = i.up_to.appends;
            short = i.up_to.short;
            went = i.up_to.went;
            known = i.up_to.known;
            least = let a = i.up_to.taken in omega arith;
            s = omega arith;
            sx = i.up_to.sx;
            x = i.up_to.x;
            leaf = leaf;
            image = i.image;
            front = record { front = []; size = refl; grants = i.scans.grants; apart = (tt, tt); watched = i.scans.here; work = i.scans.work };
          };
          last = i.up_to.last;
          chunks = i.up_to.chunks;
          held = subst (λ es. AreHeld opening es root high i.up_to.spans (length es)) same
              (held_on opening root high p.view.memory.seen [] leaf i.image i.up_to.spans i.on (subst (λ es. i.image ≡ image_of (memory_after opening es) leaf) (sym same) i.scans.walked.image));
          within = i.up_to.within;
          from = elim i.up_to.first [ inl at ↦ let e = ap rank at.1 in omega arith | inr lt ↦ omega arith ];
          to = i.up_to.to;
          none = λ e. elim i.up_to.first [ inl at ↦ at.0 | inr lt ↦ absurd (let z = ap rank e in omega arith) ];
          tight = record { end = some.0; pairs = cut (content_of (pages_after opening p.view.memory.seen) root) start some.0; chunk = some.1; none = inl none };
          ahead = λ a b. elim i.up_to.first [ inl at ↦ absurd (let c = ap (λ (o : HeldChunks). o.chunk_room) at.2 in omega arith) | inr lt ↦ lt ];
          count = i.up_to.count;
          over = inl (none, record { last = leaf; over = i.up_to.over });
          taken = i.up_to.taken;
          keeps = keeps;
          of = subst (λ es. ((i.up_to.spans ≡ []) × (kept.page ≡ begun) × (kept.place ≡ length p0.view.memory.seen)) ⊎ GaveLast opening es root kept high i.up_to.spans) same (kept-of [] kept page place);
        }

    module _ (found : Found) (q : PassState) (reached : HasReachedEnd sizes lawful opening roots root start high found p q) where
      abbrev image : List ℕ
      image = reached.along.last.image

      abbrev pub span_read : Span
      span_read = record { low = start; high = found.end; place = length q.view.memory.seen; pairs = cut (records_of image) start found.end }

      legal : lawful q.view.memory.seen
      legal = reached.along.scans.known.legal

      chunk : IsChunk (pages_after opening q.view.memory.seen) root start high found.end (cut (records_of image) start found.end)
      chunk = walked_chunk sizes.pages roots lawful opening laws root q.view.memory.seen legal start reached.along.ps reached.along.last reached.along.scans.walked high found.end reached.ends

      -- the leaf that gave the chunk before is as it was
      first-is : first_read reached.along.ps reached.along.last ≡ record { page = leaf; image = i.image }
      first-is = ap (λ ws. leaf-in ws) (sym reached.along.begins ∙ i.scans.work)

      still : i.image ≡ image_of (memory_after opening q.view.memory.seen) leaf
      still = subst (λ (f : ReadLeaf). f.image ≡ image_of (memory_after opening q.view.memory.seen) f.page) first-is
          (walked_begins sizes.pages roots lawful opening laws root q.view.memory.seen legal start reached.along.ps reached.along.last reached.along.scans.walked)

      held : AreHeld opening q.view.memory.seen root high i.up_to.spans (length q.view.memory.seen)
      held = subst (λ es. AreHeld opening es root high i.up_to.spans (length es)) (sym reached.along.went.seen)
          (held_on opening root high p.view.memory.seen reached.along.went.more leaf i.image i.up_to.spans i.on (subst (λ es. i.image ≡ image_of (memory_after opening es) leaf) reached.along.went.seen still))

      given : IsGivenBy opening (take (length q.view.memory.seen) q.view.memory.seen) root found.leaf high span_read
      unfolding chunk
      given = subst (λ es. IsGivenBy opening es root found.leaf high span_read) (sym (take-length q.view.memory.seen)) (record {
        chunk = chunk;
        page = walked_leaf sizes.pages roots lawful opening laws root q.view.memory.seen legal start reached.along.ps reached.along.last reached.along.scans.walked high found.end reached.ends ∙ reached.along.here;
      })

      read : IsReadAt opening q.view.memory.seen root start high i.up_to.last span_read
      read = record {
        begins = refl;
        placed = let a = i.up_to.within in let b = seen_longer p q reached.along.went in omega arith;
        within = omega arith;
        chunk = subst (λ es. IsChunk (pages_after opening es) root start high found.end (cut (records_of image) start found.end)) (sym (take-length q.view.memory.seen)) chunk;
      }

      -- it went over so many leaves, to the one that gives the chunk
      steps : IsBehind (pages_after opening q.view.memory.seen) root leaf found.leaf found.passed
      steps =
          let walked = walked_behind sizes.pages roots lawful opening laws root q.view.memory.seen legal start reached.along.ps reached.along.last reached.along.scans.walked in
          let counted = subst (λ n. IsBehind (pages_after opening q.view.memory.seen) root (first_read reached.along.ps reached.along.last).page reached.along.last.page n) reached.along.count walked in
          let here = subst (λ n. IsBehind (pages_after opening q.view.memory.seen) root (first_read reached.along.ps reached.along.last).page n found.passed) reached.along.here counted in
          subst (λ (f : ReadLeaf). IsBehind (pages_after opening q.view.memory.seen) root f.page found.leaf found.passed) first-is here

      over : GoesOver opening q.view.memory.seen root high begun i.up_to.spans leaf i.up_to.count
      over = subst (λ es. GoesOver opening es root high begun i.up_to.spans leaf i.up_to.count) (sym reached.along.went.seen)
          (over_longer opening root high p.view.memory.seen reached.along.went.more begun i.up_to.spans leaf i.up_to.count i.up_to.over)

      one-more : GoesTo opening q.view.memory.seen root high leaf span_read found.leaf found.passed
      one-more = record {
        within = omega arith;
        given = given;
        behind = subst (λ es. IsBehind (pages_after opening es) root leaf found.leaf found.passed) (sym (take-length q.view.memory.seen)) steps;
      }

      all-over : GoesOver opening q.view.memory.seen root high begun (i.up_to.spans ++ span_read ∷ []) found.leaf (i.up_to.count + found.passed)
      all-over = over_push opening root high q.view.memory.seen begun i.up_to.spans leaf i.up_to.count span_read found.leaf found.passed over one-more

      -- .. and where the chunk does not fit, to the leaf of the next chunk
      over-next : GoesToNext opening q.view.memory.seen root start high begun i.up_to.spans (i.up_to.count + found.passed)
      unfolding chunk
      over-next = record {
        last = leaf;
        before = i.up_to.count;
        over = over;
        behind = found.passed;
        further = record {
          end = found.end;
          pairs = cut (records_of image) start found.end;
          chunk = chunk;
          behind = subst (λ n. IsBehind (pages_after opening q.view.memory.seen) root leaf n found.passed)
              (sym (walked_leaf sizes.pages roots lawful opening laws root q.view.memory.seen legal start reached.along.ps reached.along.last reached.along.scans.walked high found.end reached.ends ∙ reached.along.here)) steps;
        };
        sum = refl;
      }

      before : AreFront opening q.view.memory.seen root low high (length p0.view.memory.seen) i.up_to.spans start i.up_to.last
      before = subst (λ es. AreFront opening es root low high (length p0.view.memory.seen) i.up_to.spans start i.up_to.last) (sym reached.along.went.seen)
          (front_longer opening root high p.view.memory.seen reached.along.went.more low (length p0.view.memory.seen) i.up_to.spans start i.up_to.last i.up_to.chunks)

      -- the leaves in front were given up
      module _ (r : PassState) (f : HasFront 0 found.leaf image r) (aside : IsAside q r) where
        went : WentOn p0 r
        went = went_both p0 p r i.up_to.went (went_both p q r reached.along.went (went_beside q r (beside_aside q r aside)))

        known : IsKnown sizes lawful r
        known = known_beside sizes lawful q r (beside_aside q r aside) reached.along.scans.known

        within : i.up_to.last ≤ length r.view.memory.seen
        within = let a = i.up_to.within in let b = seen_longer p q reached.along.went in let c = ap length aside.seen in omega arith

        run : (new : HeldChunks) (spans : List Span) → Appends out0 new spans → new.chunk_room ≤ out.chunk_room → AllByRecursion (λ span. length span.pairs ≤ MOST_RECORDS) spans → HasRun sizes lawful out0 new spans p0 r
        run new spans appends less short =
            let gs = ap (λ (g : Grants). g.s) aside.grants in let gsx = ap (λ (g : Grants). g.sx) aside.grants in let gx = ap (λ (g : Grants). g.x) aside.grants in
            let cs = reached.along.s in let csx = reached.along.sx in let cx = reached.along.x in let few = reached.along.few in
            let is = i.up_to.s in let isx = i.up_to.sx in let ix = i.up_to.x in
            let room = appends.chunk_room in
            record {
              appends = appends;
              short = short;
              went = went;
              known = known;
              least = let a = i.up_to.taken in omega arith;
              s = omega arith;
              sx = omega arith;
              x = omega arith;
              leaf = found.leaf;
              image = image;
              front = f;
            }

        -- so many grants of S were taken
        grants-are : r.view.grants.s ≡ p0.view.grants.s + (i.up_to.count + found.passed)
        grants-are = let gs = ap (λ (g : Grants). g.s) aside.grants in let cs = reached.along.s in let is = i.up_to.taken in omega arith

        log-is : r.view.memory.seen ≡ p.view.memory.seen ++ reached.along.went.more
        log-is = aside.seen ∙ reached.along.went.seen

        -- the chunk has too many pairs
        pub halted : 0 < out.chunk_room → (kept : Position) → IsKept lawful opening roots root start p.view.memory.seen kept → kept.page ≡ leaf → kept.place ≡ length p.view.memory.seen
            → (out.chunk_room ≡ 0) ⊎ (out.pair_room < length span_read.pairs) → length span_read.pairs ≤ MOST_RECORDS → HasRunToStop sizes lawful opening roots root begun low high (record { next = start; kept = kept }) out0 out p0 r
        halted some kept keeps page place none most = record {
          spans = i.up_to.spans;
          run = run out i.up_to.spans i.up_to.appends (omega arith) i.up_to.short;
          last = i.up_to.last;
          chunks = subst (λ es. AreFront opening es root low high (length p0.view.memory.seen) i.up_to.spans start i.up_to.last) (sym aside.seen) before;
          held = subst (λ es. AreHeld opening es root high i.up_to.spans (length es)) (sym aside.seen) held;
          within = within;
          from = elim i.up_to.first [ inl same ↦ let e = ap rank same.1 in omega arith | inr lt ↦ omega arith ];
          to = i.up_to.to;
          none = λ e. elim i.up_to.first [ inl same ↦ same.0 | inr lt ↦ absurd (let z = ap rank e in omega arith) ];
          tight = record {
            end = found.end;
            pairs = cut (records_of image) start found.end;
            chunk = subst (λ es. IsChunk (pages_after opening es) root start high found.end (cut (records_of image) start found.end)) (sym aside.seen) chunk;
            none = none;
          };
          ahead = λ a b. elim i.up_to.first [
            | inr lt ↦ lt
            | inl same ↦ let c = ap (λ (o : HeldChunks). o.chunk_room) same.2 in let d = ap (λ (o : HeldChunks). o.pair_room) same.2 in elim none [
              | inl z ↦ absurd (omega arith)
              | inr lt ↦ absurd (omega arith)
            ]
          ];
          count = i.up_to.count + found.passed;
          over = inr (some, subst (λ es. GoesToNext opening es root start high begun i.up_to.spans (i.up_to.count + found.passed)) (sym aside.seen) over-next);
          taken = grants-are;
          keeps = subst (λ es. IsKept lawful opening roots root start es kept) (sym log-is) (kept_longer lawful opening roots root start p.view.memory.seen reached.along.went.more kept keeps);
          of = subst (λ es. ((i.up_to.spans ≡ []) × (kept.page ≡ begun) × (kept.place ≡ length p0.view.memory.seen)) ⊎ GaveLast opening es root kept high i.up_to.spans) (sym log-is) (kept-of reached.along.went.more kept page place);
        }

        module _ (new : HeldChunks) (put : Appends out new (span_read ∷ [])) (most : length span_read.pairs ≤ MOST_RECORDS) where
          all-appends : Appends out0 new (i.up_to.spans ++ span_read ∷ [])
          all-appends = appends_more out0 out new i.up_to.spans (span_read ∷ []) i.up_to.appends put

          all-short : AllByRecursion (λ span. length span.pairs ≤ MOST_RECORDS) (i.up_to.spans ++ span_read ∷ [])
          all-short = AllByRecursion-append (λ (span : Span). length span.pairs ≤ MOST_RECORDS) i.up_to.spans (span_read ∷ []) i.up_to.short (most, tt)

          -- .. and is the last one
          pub ended : found.end ≡ high → HasRunToEnd sizes lawful opening root begun low high out0 new p0 r
          ended to = record {
            spans = i.up_to.spans ++ span_read ∷ [];
            run = run new (i.up_to.spans ++ span_read ∷ []) all-appends (let room = put.chunk_room in omega arith) all-short;
            chunks = subst (λ es. AreWhole opening es root low high (length p0.view.memory.seen) (i.up_to.spans ++ span_read ∷ []) (length es)) (sym aside.seen) (record {
              front = i.up_to.spans;
              last = span_read;
              are = refl;
              next = start;
              before_place = i.up_to.last;
              before = before;
              read = read;
              to = to;
              placed = refl;
            });
            held = subst (λ es. AreHeld opening es root high (i.up_to.spans ++ span_read ∷ []) (length es)) (sym aside.seen)
                (held_push opening root high q.view.memory.seen i.up_to.spans span_read (length q.view.memory.seen) held (record { leaf = found.leaf; given = given; from = omega arith; within = omega arith; same = refl }));
            count = i.up_to.count + found.passed;
            over = record { last = found.leaf; over = subst (λ es. GoesOver opening es root high begun (i.up_to.spans ++ span_read ∷ []) found.leaf (i.up_to.count + found.passed)) (sym aside.seen) all-over };
            taken = grants-are;
          }

          -- .. or the next one begins behind the last key of the leaf, which is that of the chunk
          record EndsOnKey : Type 0 where
            last : IsLastKey (records_of image) found.end
            from : rank start ≤ rank found.end

          on-key : rank found.end < rank high → EndsBy start high found.end image → EndsOnKey
          on-key lt (inl a) = absurd (let e = ap rank a.1 in omega arith)
          on-key lt (inr b) = elim b.2 [
            | inl c ↦ absurd (let e = ap rank c.1 in omega arith)
            | inr c ↦ record { last = subst (IsLastKey (records_of image)) (sym c.1) b.1.is_last; from = let e : rank found.end ≡ rank b.0 = ap rank c.1 in let f = b.1.from in omega arith }
          ]

          pub again : (next : MapKey) → key_after found.end ≡ Some next → rank found.end < rank high → IsScannedTo sizes lawful opening roots root begun found.leaf low next high out0 new p0 r
          again next after lt =
              let key = on-key lt reached.ends in
              let up = after-above found.end next after in
              let from = key.from in
              let gs = ap (λ (g : Grants). g.s) aside.grants in let gsx = ap (λ (g : Grants). g.sx) aside.grants in let gx = ap (λ (g : Grants). g.x) aside.grants in
              let cs = reached.along.s in let csx = reached.along.sx in let cx = reached.along.x in let few = reached.along.few in
              let is = i.up_to.s in let isx = i.up_to.sx in let ix = i.up_to.x in
              let room = put.chunk_room in let had = i.room in
              let walked = walked_on sizes.pages roots lawful opening laws root q.view.memory.seen legal start reached.along.ps reached.along.last reached.along.scans.walked found.end next key.last up in
              record {
                up_to = record {
                  spans = i.up_to.spans ++ span_read ∷ [];
                  appends = all-appends;
                  short = all-short;
                  went = went;
                  known = known;
                  count = i.up_to.count + found.passed;
                  over = subst (λ es. GoesOver opening es root high begun (i.up_to.spans ++ span_read ∷ []) found.leaf (i.up_to.count + found.passed)) (sym aside.seen) all-over;
                  taken = grants-are;
                  s = omega arith;
                  sx = omega arith;
                  x = omega arith;
                  last = length q.view.memory.seen;
                  chunks = subst (λ es. AreFront opening es root low high (length p0.view.memory.seen) (i.up_to.spans ++ span_read ∷ []) next (length q.view.memory.seen)) (sym aside.seen)
                      (front_push opening root high q.view.memory.seen low (length p0.view.memory.seen) i.up_to.spans start i.up_to.last span_read next before read lt after);
                  within = let c = ap length aside.seen in omega arith;
                  to = (after-least_above found.end next high after).0 lt;
                  first = inr (elim i.up_to.first [ inl same ↦ let e = ap rank same.1 in omega arith | inr below ↦ omega arith ]);
                };
                image = image;
                on = inr (subst (λ es. HasLast opening es root found.leaf image high (i.up_to.spans ++ span_read ∷ [])) (sym aside.seen) (record {
                  before = i.up_to.spans;
                  last = span_read;
                  are = refl;
                  held = held;
                  placed = refl;
                  given = given;
                  read = subst (λ es. image ≡ image_of (memory_after opening es) found.leaf) (sym (take-length q.view.memory.seen))
                      (reached.along.scans.walked.image ∙ ap (image_of (memory_after opening q.view.memory.seen)) reached.along.here);
                }));
                scans = record {
                  grants = alone f.front f.size f.grants;
                  watched = tt;
                  here = f.watched;
                  work = f.work;
                  known = known;
                  walked = subst (λ k. IsWalked roots opening r.view.memory.seen root next [] (record { page = k; image = image })) reached.along.here
                      (subst (λ es. IsWalked roots opening es root next [] reached.along.last) (sym aside.seen) walked);
                };
                room = omega arith;
              }
            where
              alone : (gs : List Grant) → length gs ≡ 0 → HasGrants (gs ++ page_grant found.leaf S ∷ []) r → HasGrants (page_grant found.leaf S ∷ []) r
              alone [] z has = has
              alone (g ∷ gs) z has = absurd (omega arith)

-- a chunk ends at `high` or below, and where it ends below, there is a key behind its end
pub ends_within : (start high end : MapKey) (image : List ℕ) → EndsBy start high end image → rank end ≤ rank high
ends_within start high end image (inl a) = let e = ap rank a.1 in omega arith
ends_within start high end image (inr b) = elim b.2 [
  | inl c ↦ let e = ap rank c.1 in omega arith
  | inr c ↦ let e : rank end ≡ rank b.0 = ap rank c.1 in let f = c.0 in omega arith
]

pub some_after : (end high : MapKey) (o : Option MapKey) → o ≡ key_after end → rank end < rank high → rank high < end_rank → is_some o ≡ true
some_after end high None e lt top = absurd (let f = after-none end (sym e) in omega arith)
some_after end high (Some next) e lt top = refl

-- a leaf has few records between any two keys
pub part_short : (image : List ℕ) (low high : MapKey) → IsTreePage image → length (cut (records_of image) low high) ≤ MOST_RECORDS
part_short image low high tree =
    let h = tree_in image tree in
    let few : length (records_of image) ≤ MOST_RECORDS = subst (λ p. length (page_in p).records ≤ MOST_RECORDS) (sym h.holds) h.fits.few in
    let short = length-cut (records_of image) low high in omega arith
