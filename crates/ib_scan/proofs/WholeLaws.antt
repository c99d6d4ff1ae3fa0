-- A whole scan, from its start to its end.
use Rattle.std.specs.List.{AllByRecursion}
use Rattle.std.specs.Prelude.{MatchOption, Result, Ok, Err, IfOk}
use Rattle.std.proofs.Common.{inl, inr, Option, Some, get_or, drop, ◌≡◌, ℕ, ◌+◌, ◌*◌, ◌-◌, ◌<◌, ◌≤◌, ◌^◌, false, None, List, [], ◌∷◌, ◌++◌, take, length, refl, sym, ap, subst, ◌∙◌, arith, length-append}
use Rattle.std.proofs.Math.Seq.{get_or-append_seam, take-length}
use Rattle.std.proofs.lemmas.List.{length-take-le, take-append-drop, take-append-le, drop-append-le}
use Rattle.ib_map.specs.Keys.{MapKey, rank, end_rank}
use Rattle.ib_map.specs.Chunks.{HeldChunks}
use Rattle.ib_map.specs.History.{map_after}
use Rattle.ib_map.specs.Replies.{Span, pair_count}
use Rattle.ib_map.specs.declared.call.Record.{Record}
use Rattle.ib_map.proofs.HistoryLaws.{map_after-append}
use Rattle.ib_layout.specs.Geometry.{Sizes}
use Rattle.ib_logrec.specs.declared.entry.Entry.{Entry}
use Rattle.ib_logrec.specs.Law.{PageRange}
use Rattle.ib_logrec.specs.Log.{memory_after, history_of, map_of}
use Rattle.ib_map.specs.Writes.{touches}
use Rattle.ib_logrec.proofs.LogLaws.{history_of-append, length-history_of}
use Rattle.ib_rule.specs.declared.looks.Grants.{Grants}
use Rattle.ib_rule.specs.Pass.{PassState}
use Rattle.ib_rule.specs.Views.{total}
use Rattle.ib_walk.specs.Pages.{PageState}
use Rattle.ib_walk.specs.Trees.{content_of}
use Rattle.ib_walk.proofs.WalkLaws.{AllByRecursion-left}
use Rattle.ib_walk.proofs.ImageLaws.{image_of-list}
use Rattle.ib_tree.specs.Logs.{HasRange, pages_after}
use Rattle.ib_tree.proofs.FitLaws.{FitsLog-whole}
use Rattle.ib_tree.specs.Scans.{AreFront, AreWhole}
use Rattle.ib_mtr.specs.Mtr.{started, finished}
use Rattle.ib_cursor.specs.Spaces.{space_of}
use Rattle.ib_cursor.specs.Going.{WentOn}
use Rattle.ib_cursor.specs.Descent.{HasDescended}
use Rattle.ib_cursor.specs.declared.position.Position.{Position}
use Rattle.ib_cursor.specs.Positions.{HasMoved, HasStayed}
use Rattle.ib_cursor.proofs.LatchingLaws.{IsBeside, went_beside, went_both, went_none, added_both, known_beside, looked_then, seen_longer, some_end}
use Rattle.ib_cursor.proofs.StepLaws.{image_stays}
use Rattle.ib_cursor.specs.Laws.{Laws}
use Rattle.ib_scan.specs.Scanning.{AreHeld, HasGone, HasScanned, HasStopped, HasNoRoom}
use Rattle.ib_scan.specs.Scans.{HasAll, FitsSeen, scan_answer}
use Rattle.ib_scan.specs.declared.stored.Stored.{Stored}
use Rattle.ib_scan.specs.declared.walk.Stop.{Stop}
use Rattle.ib_scan.specs.Leaves.{GoesToLast, GoesToStop}
use Rattle.ib_scan.specs.Steps.{HasBegun, HasSomeFront, IsAside, IsScannedTo, HasRun, HasRunToEnd, HasRunToStop, TookTwo}
use Rattle.ib_scan.specs.Stored.{GaveLast, HasAllOn, HasScannedOn, HasStoppedOn, IsBegunOn, IsKept, IsUnwritten, KeepsPosition, MayGoOn}
use Rattle.ib_scan.proofs.HoldLaws.{same_page}
use Rattle.ib_scan.proofs.KeptLaws.{kept_longer}
use Rattle.ib_scan.proofs.FrontLaws.{appends_none, front_lower, whole_lower}
use Rattle.ib_scan.proofs.WalkedLaws.{walked_first}

-- a scan begins where the descent ends
pub begun : (sizes : Sizes) (roots : ℕ) (lawful : List Entry → Type 0) (opening : ℕ → ℕ) (laws : Laws sizes.pages roots lawful opening) (root : ℕ) → 0 < root → root ≤ roots → (low : MapKey) → rank low < end_rank
    → (path : List ℕ) (p q : PassState) (d : HasDescended sizes lawful opening root low false path p q) → HasBegun sizes lawful opening roots root low d.reached.leaf p q
begun sizes roots lawful opening laws root some le low lt path p q d = record {
  image = d.image;
  scans = record {
    grants = d.reached.grants;
    watched = tt;
    here = d.reached.watched;
    work = d.work;
    known = d.reached.known;
    walked = walked_first sizes.pages roots lawful opening laws root q.view.memory.seen d.reached.known.legal low d.reached.leaf d.image some le lt d.reached.is_leaf
        (sym (image_of-list (memory_after opening q.view.memory.seen) d.reached.leaf d.image d.size (λ index lt. sym (d.is_page index lt))));
  };
  went = d.reached.went;
  looked = d.reached.looked;
  least = let finds = (d.reached.finds refl).0 in omega arith;
  s = let s = d.reached.s in omega arith;
  sx = d.reached.sx;
  x = (d.reached.finds refl).1;
}

-- two grants at least were taken to descend
pub descent_least : (sizes : Sizes) (lawful : List Entry → Type 0) (opening : ℕ → ℕ) (root : ℕ) (low : MapKey) (path : List ℕ) (p q : PassState) → HasDescended sizes lawful opening root low false path p q → p.view.grants.s + 2 ≤ q.view.grants.s
descent_least sizes lawful opening root low path p q d =
    let path_is = ap length d.reached.ends in let long = length-append d.reached.front (d.reached.leaf ∷ []) in let finds = (d.reached.finds refl).0 in omega arith

-- .. or where a position was restored
pub begun_same : (sizes : Sizes) (roots : ℕ) (lawful : List Entry → Type 0) (opening : ℕ → ℕ) (root : ℕ) (next : MapKey) (at : Position) (p q : PassState) (k : IsKept lawful opening roots root next p.view.memory.seen at)
    → HasStayed sizes lawful opening roots at k.position.range p q → HasBegun sizes lawful opening roots root next at.page p q
begun_same sizes roots lawful opening root next at p q k h =
    let s = ap (λ (g : Grants). g.s) h.grants in
    let same : k.position.range ≡ record { root = root; low = k.position.range.low; end = k.position.range.end; level = 0 } = λ j. record { root = k.tree j; low = k.position.range.low; end = k.position.range.end; level = k.position.lowest j } in
    record {
      image = h.image;
      scans = record {
        grants = h.holds.grants;
        watched = tt;
        here = h.holds.watched;
        work = h.holds.work;
        known = h.holds.known;
        walked = record {
          images = tt;
          image = sym (image_of-list (memory_after opening q.view.memory.seen) at.page h.image h.holds.size (λ index lt. sym (h.holds.is_page index lt)));
          passed = tt;
          low = k.position.range.low;
          high = k.position.range.end;
          met = subst (λ (r : PageRange). HasRange roots (pages_after opening q.view.memory.seen) at.page r) same h.holds.met;
          le = k.low;
        };
      };
      went = h.went;
      looked = some_end h.one;
      least = omega arith;
      s = omega arith;
      sx = ap (λ (g : Grants). g.sx) h.grants;
      x = ap (λ (g : Grants). g.x) h.grants;
    }

-- .. or where it was not, and the key's leaf was descended to
pub begun_moved : (sizes : Sizes) (roots : ℕ) (lawful : List Entry → Type 0) (opening : ℕ → ℕ) (laws : Laws sizes.pages roots lawful opening) → 1 ≤ roots → (next : MapKey) → rank next < end_rank → (at : Position) (path : List ℕ) (p q : PassState)
    (h : HasMoved sizes lawful opening at next path p q) → HasBegun sizes lawful opening roots 1 next h.descended.reached.leaf p q
begun_moved sizes roots lawful opening laws le next lt at path p q h =
    let b = begun sizes roots lawful opening laws 1 (omega arith) le next lt path h.left q h.descended in
    let s = ap (λ (g : Grants). g.s) h.grants in let sx = ap (λ (g : Grants). g.sx) h.grants in let x = ap (λ (g : Grants). g.x) h.grants in
    record {
      image = b.image;
      scans = b.scans;
      went = went_both p h.left q h.went b.went;
      looked = looked_then p h.left q h.went b.went b.looked;
      least = let a = b.least in omega arith;
      s = let a = h.descended.reached.s in omega arith;
      sx = b.sx ∙ sx;
      x = b.x ∙ x;
    }

-- a leaf whose clock is another was written since
pub moved_written : (lawful : List Entry → Type 0) (opening : ℕ → ℕ) (roots root : ℕ) (next : MapKey) (at : Position) (p q : PassState) (more : List Entry) → q.view.memory.seen ≡ p.view.memory.seen ++ more
    → IsKept lawful opening roots root next p.view.memory.seen at → at.clock < (pages_after opening q.view.memory.seen at.page).clock → IsUnwritten at q.view.memory.seen → ⊥
moved_written lawful opening roots root next at p q more is k higher calm =
    let split = take-append-drop at.place q.view.memory.seen in
    let front : take at.place q.view.memory.seen ≡ take at.place p.view.memory.seen = ap (take at.place) is ∙ take-append-le at.place p.view.memory.seen more k.position.within in
    let image = image_stays opening (take at.place q.view.memory.seen) (drop at.place q.view.memory.seen) at.page calm in
    let stays = ap (λ (s : PageState). s.clock) (same_page opening (take at.place q.view.memory.seen ++ drop at.place q.view.memory.seen) (take at.place q.view.memory.seen) at.page image) in
    let now = ap (λ es. (pages_after opening es at.page).clock) split in
    let before = ap (λ es. (pages_after opening es at.page).clock) front in
    let was = k.position.clock in omega arith

-- the loop begins on that leaf
pub begins : (sizes : Sizes) (roots : ℕ) (lawful : List Entry → Type 0) (opening : ℕ → ℕ) (root : ℕ) (low high : MapKey) → rank low ≤ rank high
    → (out : HeldChunks) (leaf : ℕ) (p q : PassState) (b : HasBegun sizes lawful opening roots root low leaf p q) → total p.view.grants + 8192 * out.chunk_room + 8192 ≤ 2 ^ 52
    → IsScannedTo sizes lawful opening roots root leaf leaf low low high out out q q
begins sizes roots lawful opening root low high up out leaf p q b room =
    let sx = b.sx in let x = b.x in let s = b.s in
    record {
      up_to = record {
        spans = [];
        appends = appends_none out;
        short = tt;
        went = went_none q;
        known = b.scans.known;
        count = 0;
        over = (refl, refl);
        taken = omega arith;
        s = omega arith;
        sx = refl;
        x = refl;
        last = length q.view.memory.seen;
        chunks = (refl, refl);
        within = omega arith;
        to = up;
        first = inl (refl, refl, refl, refl);
      };
      image = b.image;
      on = inl refl;
      scans = b.scans;
      room = omega arith;
    }

-- the first of some looks
pub record HasFirstLook (added : List ℕ) (most : ℕ) : Type 0 where
  pub first : ℕ
  pub rest : List ℕ
  pub is : added ≡ first ∷ rest
  pub le : first ≤ most

pub first_look : (added : List ℕ) (least most : ℕ) → 0 < length added → AllByRecursion (λ n. (least ≤ n) × (n ≤ most)) added → HasFirstLook added most
first_look [] least most some bounds = absurd (omega arith)
first_look (n ∷ ns) least most some bounds = record { first = n; rest = ns; is = refl; le = bounds.0.1 }

-- from the start to the end: the pass as the caller sees it, as it was when the scan had its first leaf, as the loop left it, and once the last leaf was given up
module _ (sizes : Sizes) (lawful : List Entry → Type 0) (opening : ℕ → ℕ) (roots root : ℕ) (low high : MapKey) (leaf : ℕ) (out new : HeldChunks) (p q r s : PassState) (b : HasBegun sizes lawful opening roots root low leaf (started p) q)
    (aside : IsAside r s) where
  look : HasFirstLook b.went.added (length q.view.memory.seen)
  look = first_look b.went.added (length p.view.memory.seen) (length q.view.memory.seen) b.looked b.went.bounds

  abbrev end : PassState
  end = finished s

  beside : IsBeside r end
  beside = record { table = aside.table; sizes = aside.sizes; number = aside.number; own = aside.own; seen = aside.seen; ends = aside.ends }

  abbrev later : WentOn q r → WentOn q end
  later w = went_both q r end w (went_beside r end beside)

  abbrev went : WentOn q r → WentOn p end
  went w =
      let on = went_both (started p) q end b.went (later w) in
      record { table = on.table; sizes = on.sizes; number = on.number; own = on.own; more = on.more; seen = on.seen; added = on.added; ends = on.ends; bounds = on.bounds }

  gone : (spans : List Span) → HasRun sizes lawful out new spans q r → HasGone sizes lawful out new p end
  gone spans h =
      let gs = ap (λ (g : Grants). g.s) aside.grants in
      let gsx = ap (λ (g : Grants). g.sx) aside.grants in
      let gx = ap (λ (g : Grants). g.x) aside.grants in
      let bs = b.s in let bsx = b.sx in let bx = b.x in let hs = h.s in let hsx = h.sx in let hx = h.x in
      record {
        spans = spans;
        appends = h.appends;
        short = h.short;
        went = went h.went;
        first = look.first;
        rest = look.rest ++ (later h.went).added;
        looks = added_both (started p) q end b.went (later h.went) ∙ ap (λ ns. ns ++ (later h.went).added) look.is;
        known = known_beside sizes lawful r end beside h.known;
        least = let bl = b.least in let hl = h.least in omega arith;
        s = omega arith;
        sx = omega arith;
        x = omega arith;
      }

  pub gone_all : HasRunToEnd sizes lawful opening root leaf low high out new q r → HasAll sizes lawful opening root low high out new p end
  unfolding gone
  gone_all h = record {
    gone = gone h.spans h.run;
    chunks = subst (λ es. AreWhole opening es root low high look.first h.spans (length es)) (sym aside.seen)
        (whole_lower opening root high r.view.memory.seen low (length q.view.memory.seen) look.first h.spans (length r.view.memory.seen) look.le h.chunks);
    held = subst (λ es. AreHeld opening es root high h.spans (length es)) (sym aside.seen) h.held;
  }

  pub gone_part : (stop : Stop) → HasRunToStop sizes lawful opening roots root leaf low high stop out new q r → HasStopped sizes lawful opening root low high stop.next out new p end
  unfolding gone
  gone_part stop h =
      let f = front_lower opening root high r.view.memory.seen low (length q.view.memory.seen) look.first h.spans stop.next h.last look.le h.chunks in
      record {
        gone = gone h.spans h.run;
        last = f.last;
        chunks = subst (λ es. AreFront opening es root low high look.first h.spans stop.next f.last) (sym aside.seen) f.front;
        held = subst (λ es. AreHeld opening es root high h.spans (length es)) (sym aside.seen) h.held;
        within = let a = f.le in let b = h.within in let c = ap length aside.seen in omega arith;
        from = h.from;
        to = h.to;
        none = h.none;
        tight = subst (λ es. HasNoRoom opening es root stop.next high new) (sym aside.seen) h.tight;
        ahead = h.ahead;
      }

  pub gone-first : (stop : Stop) (h : HasRunToStop sizes lawful opening roots root leaf low high stop out new q r) → (gone_part stop h).gone.first ≤ length q.view.memory.seen
  unfolding gone_part gone
  gone-first stop h = look.le

-- a scan that went on: how it began, beside the leaf
pub record HasBegunOn (opening : ℕ → ℕ) (stored : Stored) (leaf : ℕ) (p q : PassState) : Type 0 where
  pub on : IsBegunOn opening q.view.memory.seen stored.next stored.position leaf
  pub once : (at : Position) → stored.position ≡ Some at → IsUnwritten at q.view.memory.seen → (leaf ≡ at.page) × (q.view.grants.s ≡ p.view.grants.s + 1)

-- a page that was not written up to later is not written up to now
unwritten-before : (at : Position) (seen more : List Entry) → at.place ≤ length seen → IsUnwritten at (seen ++ more) → IsUnwritten at seen
unwritten-before at seen more le calm =
    AllByRecursion-left (λ e. touches at.page e.writes ≡ false) (drop at.place seen) more (subst (AllByRecursion (λ e. touches at.page e.writes ≡ false)) (drop-append-le at.place seen more le) calm)

module _ (sizes : Sizes) (lawful : List Entry → Type 0) (opening : ℕ → ℕ) (roots : ℕ) (stored : Stored) (leaf : ℕ) (out new : HeldChunks) (p q r s : PassState) (b : HasBegun sizes lawful opening roots 1 stored.next leaf (started p) q)
    (aside : IsAside r s) (may : MayGoOn sizes lawful opening roots stored p) (on : HasBegunOn opening stored leaf (started p) q) where
  abbrev ended : PassState
  ended = finished s

  -- where the kept leaf was not written, it was begun on it with one grant
  one-taken : WentOn q r → (at : Position) → stored.position ≡ Some at → IsUnwritten at ended.view.memory.seen → (leaf ≡ at.page) × (q.view.grants.s ≡ p.view.grants.s + 1)
  one-taken w at is calm =
      let long : at.place ≤ length q.view.memory.seen = (let a = (may.keeps at is).position.within in let l = seen_longer (started p) q b.went in omega arith) in
      let log : ended.view.memory.seen ≡ q.view.memory.seen ++ w.more = aside.seen ∙ w.seen in
      on.once at is (unwritten-before at q.view.memory.seen w.more long (subst (IsUnwritten at) log calm))

  pub all_on : HasRunToEnd sizes lawful opening 1 leaf stored.next stored.high out new q r → HasAllOn sizes lawful opening stored out new p ended
  unfolding gone_all gone
  all_on h = record {
    all = gone_all sizes lawful opening roots 1 stored.next stored.high leaf out new p q r s b aside h;
    grants = λ at is calm.
        let one = one-taken h.run.went at is calm in
        let over = subst (λ es. GoesToLast opening es 1 stored.high leaf h.spans h.count) (sym aside.seen) h.over in (
          h.count,
          subst (λ n. GoesToLast opening ended.view.memory.seen 1 stored.high n h.spans h.count) one.0 over,
          (let gs = ap (λ (g : Grants). g.s) aside.grants in let taken = h.taken in let first = one.1 in omega arith),
        );
  }

  pub stopped_on : (stop : Stop) → HasRunToStop sizes lawful opening roots 1 leaf stored.next stored.high stop out new q r → HasStoppedOn sizes lawful opening roots stored stop.next stop.kept out new p ended
  unfolding gone_part gone
  stopped_on stop h = record {
    stopped = gone_part sizes lawful opening roots 1 stored.next stored.high leaf out new p q r s b aside stop h;
    keeps = subst (λ es. IsKept lawful opening roots 1 stop.next es stop.kept) (sym aside.seen) h.keeps;
    of = elim h.of [
      | inr gave ↦ inr (subst (λ es. GaveLast opening es 1 stop.kept stored.high h.spans) (sym aside.seen) gave)
      | inl none ↦ inl (
        none.0,
        (let f = gone-first sizes lawful opening roots 1 stored.next stored.high leaf out new p q r s b aside stop h in let a = none.2 in omega arith),
        let log : take stop.kept.place ended.view.memory.seen ≡ q.view.memory.seen =
            ap (λ n. take n ended.view.memory.seen) none.2 ∙ (ap (take (length q.view.memory.seen)) (aside.seen ∙ h.run.went.seen)
            ∙ (take-append-le (length q.view.memory.seen) q.view.memory.seen h.run.went.more (omega arith) ∙ take-length q.view.memory.seen)) in
            subst (λ n. IsBegunOn opening (take stop.kept.place ended.view.memory.seen) stored.next stored.position n) (sym none.1)
            (subst (λ es. IsBegunOn opening es stored.next stored.position leaf) (sym log) on.on),
      )
    ];
    grants = λ at is calm.
        let one = one-taken h.run.went at is calm in
        let over = subst (λ es. GoesToStop opening es 1 stop.next stored.high leaf h.spans new h.count) (sym aside.seen) h.over in (
          h.count,
          subst (λ n. GoesToStop opening ended.view.memory.seen 1 stop.next stored.high n h.spans new h.count) one.0 over,
          (let gs = ap (λ (g : Grants). g.s) aside.grants in let taken = h.taken in let first = one.1 in omega arith),
        );
  }

-- the loop came to the end of the keys, or it found no room
abbrev pub HasRunBy : Sizes → (List Entry → Type 0) → (ℕ → ℕ) → ℕ → ℕ → ℕ → MapKey → MapKey → HeldChunks → HeldChunks → PassState → PassState → Option Stop → Type 0
HasRunBy sizes lawful opening roots root leaf low high out new p q stop =
    MatchOption stop (HasRunToEnd sizes lawful opening root leaf low high out new p q) (λ s. HasRunToStop sizes lawful opening roots root leaf low high s out new p q)

-- .. and a leaf was held at its end, and no grants were lost
pub record HasEnded (p q : PassState) : Type 0 where
  pub front : HasSomeFront 0 q
  pub least : p.view.grants.s ≤ q.view.grants.s

pub leaf_left : (sizes : Sizes) (lawful : List Entry → Type 0) (opening : ℕ → ℕ) (roots root leaf : ℕ) (low high : MapKey) (out new : HeldChunks) (p q : PassState) (stop : Option Stop)
    → HasRunBy sizes lawful opening roots root leaf low high out new p q stop → HasEnded p q
leaf_left sizes lawful opening roots root leaf low high out new p q None h = record { front = record { leaf = h.run.leaf; image = h.run.image; front = h.run.front }; least = h.run.least }
leaf_left sizes lawful opening roots root leaf low high out new p q (Some stop) h = record { front = record { leaf = h.run.leaf; image = h.run.image; front = h.run.front }; least = h.run.least }

pub scanned_by : (sizes : Sizes) (lawful : List Entry → Type 0) (opening : ℕ → ℕ) (roots root : ℕ) (low high : MapKey) (leaf : ℕ) (out new : HeldChunks) (p q r s t : PassState) → HasBegun sizes lawful opening roots root low leaf (started p) q → IsAside r s
    → t ≡ finished s → (stop : Option Stop) → HasRunBy sizes lawful opening roots root leaf low high out new q r stop
    → MatchOption stop (HasAll sizes lawful opening root low high out new p t) (λ o. HasStopped sizes lawful opening root low high o.next out new p t)
scanned_by sizes lawful opening roots root low high leaf out new p q r s t b aside is None h =
    subst (HasAll sizes lawful opening root low high out new p) (sym is) (gone_all sizes lawful opening roots root low high leaf out new p q r s b aside h)
scanned_by sizes lawful opening roots root low high leaf out new p q r s t b aside is (Some stop) h =
    subst (HasStopped sizes lawful opening root low high stop.next out new p) (sym is) (gone_part sizes lawful opening roots root low high leaf out new p q r s b aside stop h)

pub scanned_on : (sizes : Sizes) (lawful : List Entry → Type 0) (opening : ℕ → ℕ) (roots : ℕ) (stored : Stored) (leaf : ℕ) (out new : HeldChunks) (p q r s t : PassState) → HasBegun sizes lawful opening roots 1 stored.next leaf (started p) q → IsAside r s
    → MayGoOn sizes lawful opening roots stored p → IsBegunOn opening q.view.memory.seen stored.next stored.position leaf
    → ((at : Position) → stored.position ≡ Some at → IsUnwritten at q.view.memory.seen → (leaf ≡ at.page) × (q.view.grants.s ≡ p.view.grants.s + 1))
    → t ≡ finished s → (stop : Option Stop) → HasRunBy sizes lawful opening roots 1 leaf stored.next stored.high out new q r stop
    → MatchOption stop (HasAllOn sizes lawful opening stored out new p t) (λ o. HasStoppedOn sizes lawful opening roots stored o.next o.kept out new p t)
scanned_on sizes lawful opening roots stored leaf out new p q r s t b aside may on once is None h =
    subst (HasAllOn sizes lawful opening stored out new p) (sym is) (all_on sizes lawful opening roots stored leaf out new p q r s b aside may (record { on = on; once = once }) h)
scanned_on sizes lawful opening roots stored leaf out new p q r s t b aside may on once is (Some stop) h =
    subst (HasStoppedOn sizes lawful opening roots stored stop.next stop.kept out new p) (sym is) (stopped_on sizes lawful opening roots stored leaf out new p q r s b aside may (record { on = on; once = once }) stop h)

-- what was taken at least before the loop was taken at least at the end
pub took_two : (p q r s t : PassState) → p.view.grants.s + 2 ≤ q.view.grants.s → q.view.grants.s ≤ r.view.grants.s → IsAside r s → t ≡ finished s → TookTwo p t
took_two p q r s t two more aside is =
    let gs = ap (λ (g : Grants). g.s) aside.grants in
    subst (TookTwo p) (sym is) (record { s = omega arith })

-- the last page of a path
pub path_last : (path front : List ℕ) (leaf n : ℕ) → path ≡ front ++ leaf ∷ [] → n ≡ length path → get_or path (n - 1) 0 ≡ leaf
path_last path front leaf n is len =
    let l = length-append front (leaf ∷ []) in
    let e : n - 1 ≡ length front = (let a = ap length is in omega arith) in
    ap (λ k. get_or path k 0) e ∙ (ap (λ ps. get_or ps (length front) 0) is ∙ get_or-append_seam front leaf [] 0)

-- the answer, by the room that was taken
pub scanned_with : (sizes : Sizes) (lawful : List Entry → Type 0) (opening : ℕ → ℕ) (root : ℕ) (low high : MapKey) (answer : Record) (out new : HeldChunks) (p q : PassState) (chunks pairs left_chunks left_pairs place : ℕ)
    → HasAll sizes lawful opening root low high out new p q → chunks ≡ out.chunk_room → pairs ≡ out.pair_room → left_chunks ≡ new.chunk_room → left_pairs ≡ new.pair_room → place ≡ length q.view.memory.seen
    → answer ≡ scan_answer low high (chunks - left_chunks) (pairs - left_pairs) place → HasScanned sizes lawful opening root low high answer out new p q
scanned_with sizes lawful opening root low high answer out new p q chunks pairs left_chunks left_pairs place h a b c d e is =
    let rooms = h.gone.appends.chunk_room in let places = h.gone.appends.pair_room in
    let some : chunks - left_chunks ≡ length h.gone.spans = omega arith in
    let many : pairs - left_pairs ≡ pair_count h.gone.spans = omega arith in
    record {
      gone = h.gone;
      chunks = h.chunks;
      held = h.held;
      answer_is = is ∙ (ap (λ n. scan_answer low high n (pairs - left_pairs) place) some ∙ (ap (λ n. scan_answer low high (length h.gone.spans) n place) many ∙ ap (λ n. scan_answer low high (length h.gone.spans) (pair_count h.gone.spans) n) e));
    }

-- .. where the scan went on
pub scanned_on_with : (sizes : Sizes) (lawful : List Entry → Type 0) (opening : ℕ → ℕ) (stored : Stored) (answer : Record) (out new : HeldChunks) (p q : PassState) (chunks pairs left_chunks left_pairs place : ℕ)
    → HasAllOn sizes lawful opening stored out new p q → chunks ≡ out.chunk_room → pairs ≡ out.pair_room → left_chunks ≡ new.chunk_room → left_pairs ≡ new.pair_room → place ≡ length q.view.memory.seen
    → answer ≡ scan_answer stored.next stored.high (chunks - left_chunks) (pairs - left_pairs) place → HasScannedOn sizes lawful opening stored answer out new p q
unfolding scanned_with
scanned_on_with sizes lawful opening stored answer out new p q chunks pairs left_chunks left_pairs place h a b c d e is = record {
  scanned = scanned_with sizes lawful opening 1 stored.next stored.high answer out new p q chunks pairs left_chunks left_pairs place h.all a b c d e is;
  grants = h.grants;
}

-- the map at a place of the log is that of the entries before it
pub map-taken : (log : List Entry) (n : ℕ) → n ≤ length log → map_of (take n log) ≡ map_after (history_of log) n
map-taken log n le =
    let len : length (take n log) ≡ n = length-take-le n log le in
    let same : history_of (take n log) ++ history_of (drop n log) ≡ history_of log = sym (history_of-append (take n log) (drop n log)) ∙ ap history_of (take-append-drop n log) in
    let long = length-history_of (take n log) in
    ap (map_after (history_of (take n log))) len ∙ (sym (map_after-append (history_of (take n log)) (history_of (drop n log)) n (omega arith)) ∙ ap (λ h. map_after h n) same)

-- the record of a whole scan of the first tree fits what is seen
pub scan_fits : (sizes : Sizes) (lawful : List Entry → Type 0) (opening : ℕ → ℕ) → ((xs ys : List Entry) → lawful (xs ++ ys) → lawful xs) → ((log : List Entry) → lawful log → content_of (pages_after opening log) 1 ≡ map_of log)
    → (low high : MapKey) → rank low ≤ rank high → (answer : Record) (out new : HeldChunks) (p q : PassState) (h : HasScanned sizes lawful opening 1 low high answer out new p q) → FitsSeen sizes opening answer h.gone.spans p q
scan_fits sizes lawful opening begin content low high le answer out new p q h =
    let log = q.view.memory.seen in
    let content_at : (n : ℕ) → n ≤ length q.view.memory.seen → content_of (pages_after opening (take n q.view.memory.seen)) 1 ≡ map_after (history_of q.view.memory.seen) n = λ n some.
    content (take n q.view.memory.seen) (begin (take n q.view.memory.seen) (drop n q.view.memory.seen) (subst lawful (sym (take-append-drop n q.view.memory.seen)) h.gone.known.legal)) ∙ map-taken q.view.memory.seen n some in
    let fits = FitsLog-whole (space_of sizes opening) q.view.memory.seen content_at high q.number (length p.view.memory.seen) low h.gone.first h.gone.spans (length q.view.memory.seen) le h.chunks in
    subst (λ (r : Record). FitsSeen sizes opening r h.gone.spans p q) (sym h.answer_is) fits

-- what holds of each value
pub if_any : {A B : Type 0} (P : A → Type 0) (r : Result A B) → ((x : A) → P x) → IfOk r P
if_any P (Ok x) f = f x
if_any P (Err e) f = tt

-- what a scan keeps it keeps while more is seen
pub keeps_longer : (sizes : Sizes) (lawful : List Entry → Type 0) (opening : ℕ → ℕ) (roots : ℕ) (stored : Stored) (p q : PassState) → WentOn p q → KeepsPosition sizes lawful opening roots stored p → KeepsPosition sizes lawful opening roots stored q
keeps_longer sizes lawful opening roots stored p q w keeps at is =
    subst (λ es. IsKept lawful opening roots 1 stored.next es at) (sym w.seen) (kept_longer lawful opening roots 1 stored.next p.view.memory.seen w.more at (keeps at is))

-- .. and what it has kept when it stopped
pub keeps_stop : (sizes : Sizes) (lawful : List Entry → Type 0) (opening : ℕ → ℕ) (roots : ℕ) (stored : Stored) (next : MapKey) (kept : Position) (out new : HeldChunks) (p q : PassState) → HasStoppedOn sizes lawful opening roots stored next kept out new p q
    → KeepsPosition sizes lawful opening roots (record stored { next = next; position = Some kept }) q
keeps_stop sizes lawful opening roots stored next kept out new p q h at is =
    let e : Some kept ≡ Some at = is in let same : kept ≡ at = cc in subst (IsKept lawful opening roots 1 next q.view.memory.seen) same h.keeps
