-- A scan by several calls: the chunks of each stand behind those before, and it takes few grants.
use Rattle.std.specs.List.{AllByRecursion}
use Rattle.std.proofs.Common.{◌≡◌, true, false, is_ok, IfOk, OnErr, Result, Ok, Err, inl, inr, ℕ, ◌+◌, ◌*◌, ◌≤◌, ◌^◌, List, [], ◌∷◌, ◌++◌, length, max, refl, sym, ap, subst, ◌∙◌, arith, append_assoc, length-append}
use Rattle.std.proofs.lemmas.List.Sums.{sum_by-cons}
use Rattle.ib_map.specs.Keys.{MapKey, rank}
use Rattle.ib_map.specs.Chunks.{HeldChunks, spans_of}
use Rattle.ib_map.specs.Replies.{Span, pair_count}
use Rattle.ib_map.specs.declared.call.Record.{Record}
use Rattle.ib_heap.specs.declared.TheConstants.{MOST_RECORDS}
use Rattle.ib_layout.specs.Geometry.{Sizes}
use Rattle.ib_logrec.specs.declared.entry.Entry.{Entry}
use Rattle.ib_logrec.specs.Log.{memory_after}
use Rattle.ib_logrec.proofs.LogLaws.{used-least}
use Rattle.ib_tree.specs.Logs.{pages_after}
use Rattle.ib_tree.specs.Scans.{AreFront, AreWhole}
use Rattle.ib_rule.specs.Pass.{PassState}
use Rattle.ib_rule.specs.Views.{total}
use Rattle.ib_cursor.specs.Going.{IsKnown, WentOn}
use Rattle.ib_cursor.proofs.LatchingLaws.{went_both, added_both}
use Rattle.ib_scan.specs.Scanning.{HasGone, HasScanned, HasStopped}
use Rattle.ib_scan.proofs.FrontLaws.{front_longer, front_lower, whole_lower}
use Rattle.ib_runs.specs.Sessions.{most_scan_grants}
use Rattle.ib_leaf.specs.Calls.{CallLaw}
use Rattle.ib_runs.specs.Shared.{LogLaws}
use Rattle.ib_runs.specs.Steps.{KnownLaws, HasReadChunks, HasReadTo, HasReadAll, IsSoFar}
use Rattle.ib_runs.proofs.ChunkLaws.{pages_short, chunk_short}
use Rattle.ib_runs.proofs.EndLaws.{front_few}

-- what is said of the value of a result
pub ok_value : {A B : Type 0} (P : A → Type 0) (r : Result A B) → is_ok r ≡ true → IfOk r P → (x : A) × P x
ok_value P (Ok x) is h = (x, h)
ok_value P (Err e) is h = absurd cc

-- what is said where there is an error
pub on_err : {A B : Type 0} (P : Type 0) (r : Result A B) → is_ok r ≡ false → OnErr r P → P
on_err P (Ok x) is h = absurd cc
on_err P (Err e) is h = h

-- chunks in front of others
front-join : (opening : ℕ → ℕ) (root : ℕ) (log : List Entry) (high low mid : MapKey) (floor between : ℕ) (xs ys : List Span) (next : MapKey) (last : ℕ) → AreFront opening log root low high floor xs mid between
    → AreFront opening log root mid high between ys next last → AreFront opening log root low high floor (xs ++ ys) next last
front-join opening root log high low mid floor between [] ys next last are more =
    subst (λ k. AreFront opening log root k high floor ys next last) are.0 (subst (λ n. AreFront opening log root mid high n ys next last) are.1 more)
front-join opening root log high low mid floor between (x ∷ xs) ys next last are more =
    (are.0, are.1, (are.2.0, are.2.1, front-join opening root log high are.2.0 mid x.place between xs ys next last are.2.2 more))

whole-join : (opening : ℕ → ℕ) (root : ℕ) (log : List Entry) (high low mid : MapKey) (floor between : ℕ) (xs ys : List Span) (end : ℕ) → AreFront opening log root low high floor xs mid between
    → AreWhole opening log root mid high between ys end → AreWhole opening log root low high floor (xs ++ ys) end
whole-join opening root log high low mid floor between xs ys end are w = record {
  front = xs ++ w.front;
  last = w.last;
  are = ap (λ zs. xs ++ zs) w.are ∙ sym (append_assoc xs w.front (w.last ∷ []));
  next = w.next;
  before_place = w.before_place;
  before = front-join opening root log high low mid floor between xs w.front w.next w.before_place are w.before;
  read = w.read;
  to = w.to;
  placed = w.placed;
}

-- the room of a call of a scan
pub record IsReserved (cur now : HeldChunks) : Type 0 where
  pub list : now.list ≡ cur.list
  pub pairs : now.pairs ≡ cur.pairs
  pub chunk_room : now.chunk_room ≡ 64
  pub pair_room : 4096 ≤ now.pair_room

pub reserved_by : (cur now : HeldChunks) → cur.chunk_room ≤ 64 → now ≡ record cur { chunk_room = max cur.chunk_room 64; pair_room = max cur.pair_room 4096 } → IsReserved cur now
reserved_by cur now few is =
    let a = ap (λ (h : HeldChunks). h.chunk_room) is in
    let b = ap (λ (h : HeldChunks). h.pair_room) is in
    record { list = ap (λ (h : HeldChunks). h.list) is; pairs = ap (λ (h : HeldChunks). h.pairs) is; chunk_room = omega arith; pair_room = omega arith }

-- short chunks have few pairs
pairs-few : (spans : List Span) → AllByRecursion (λ span. length span.pairs ≤ MOST_RECORDS) spans → pair_count spans ≤ MOST_RECORDS * length spans
pairs-few [] short = omega arith
pairs-few (span ∷ spans) short =
    let rest = pairs-few spans short.1 in
    let one = short.0 in
    let all = sum_by-cons (λ (s : Span). length s.pairs) span spans in omega arith

module _ (law : CallLaw) (root : ℕ) (sizes : Sizes) (known : KnownLaws law root sizes) where
  abbrev logs : LogLaws law root sizes.pages
  logs = known.logs

  -- a log has few entries
  pub few_seen : (q : PassState) → IsKnown sizes law.lawful q → length q.view.memory.seen ≤ 4194304
  few_seen q is = let a = used-least q.view.memory.seen in let b = is.room in let c = known.few in omega arith

  module _ (low high : MapKey) (le : rank low ≤ rank high) where
    -- where there was no room for more, all places were used
    all-used : (from next : MapKey) (now new : HeldChunks) (q r : PassState) → now.chunk_room ≡ 64 → 4096 ≤ now.pair_room
        → (h : HasStopped sizes law.lawful law.start root from high next now new q r) → length h.gone.spans ≡ 64
    all-used from next now new q r room pairs h =
        let a = h.gone.appends.chunk_room in
        let b = h.gone.appends.pair_room in
        let few = pairs-few h.gone.spans h.gone.short in
        elim h.tight.none [
          | inl none ↦ omega arith
          | inr lt ↦
              let c = h.tight.chunk in
              let memory = logs.memory r.view.memory.seen h.gone.known.legal in
              let tree = (memory.law.trees root logs.some logs.within).0 in
              let short = chunk_short (pages_after law.start r.view.memory.seen) root next high h.tight.end h.tight.pairs c tree (pages_short (memory_after law.start r.view.memory.seen) c.leaf.page) in
              absurd (omega arith)
        ]

    -- a call takes few grants
    call-grants : (now new : HeldChunks) (q r : PassState) → now.chunk_room ≡ 64 → HasGone sizes law.lawful now new q r → total r.view.grants ≤ total q.view.grants + 532480
    call-grants now new q r room h = let a = h.s in let b = h.sx in let c = h.x in let d = h.appends.chunk_room in omega arith

    module _ (old : HeldChunks) (p : PassState) where
      -- the first call of a scan
      read-first : (next : MapKey) (now new : HeldChunks) (r : PassState) → p.view.grants.s + 2 ≤ r.view.grants.s → spans_of now.list now.pairs ≡ spans_of old.list old.pairs → now.chunk_room ≡ 64 → 4096 ≤ now.pair_room
          → HasStopped sizes law.lawful law.start root low high next now new p r → HasReadTo law root sizes low high next old new p r
      read-first next now new r two none room pairs h = record {
        read = record {
          spans = h.gone.spans;
          more = h.gone.appends.spans_are ∙ ap (λ xs. xs ++ h.gone.spans) none;
          went = h.gone.went;
          known = h.gone.known;
          first = h.gone.first;
          rest = h.gone.rest;
          looks = h.gone.looks;
        };
        last = h.last;
        chunks = h.chunks;
        within = h.within;
        least = let b = h.gone.sx in let c = h.gone.x in omega arith;
        grants = let a = all-used low next now new p r room pairs h in let b = call-grants now new p r room h.gone in omega arith;
      }

      all-first : (answer : Record) (now new : HeldChunks) (r : PassState) → p.view.grants.s + 2 ≤ r.view.grants.s → spans_of now.list now.pairs ≡ spans_of old.list old.pairs → now.chunk_room ≡ 64
          → HasScanned sizes law.lawful law.start root low high answer now new p r → HasReadAll law root sizes low high old new p r
      all-first answer now new r two none room h = record {
        read = record {
          spans = h.gone.spans;
          more = h.gone.appends.spans_are ∙ ap (λ xs. xs ++ h.gone.spans) none;
          went = h.gone.went;
          known = h.gone.known;
          first = h.gone.first;
          rest = h.gone.rest;
          looks = h.gone.looks;
        };
        ascends = le;
        chunks = h.chunks;
        least = let b = h.gone.sx in let c = h.gone.x in omega arith;
        grants = let b = call-grants now new p r room h.gone in omega arith;
      }

      -- one more call
      module _ (mid : MapKey) (cur now new : HeldChunks) (q r : PassState) (a : HasReadTo law root sizes low high mid old cur p q) (same : spans_of now.list now.pairs ≡ spans_of cur.list cur.pairs) (room : now.chunk_room ≡ 64)
          (g : HasGone sizes law.lawful now new q r) where
        abbrev both : WentOn p r
        both = went_both p q r a.read.went g.went

        joined : HasReadChunks law sizes old new p r
        joined = record {
          spans = a.read.spans ++ g.spans;
          more = g.appends.spans_are ∙ (ap (λ xs. xs ++ g.spans) (same ∙ a.read.more) ∙ append_assoc (spans_of old.list old.pairs) a.read.spans g.spans);
          went = both;
          known = g.known;
          first = a.read.first;
          rest = a.read.rest ++ g.went.added;
          looks = added_both p q r a.read.went g.went ∙ ap (λ ns. ns ++ g.went.added) a.read.looks;
        }

        -- the chunks so far, in the log that is seen now
        before : AreFront law.start r.view.memory.seen root low high a.read.first a.read.spans mid a.last
        before = subst (λ log. AreFront law.start log root low high a.read.first a.read.spans mid a.last) (sym g.went.seen)
            (front_longer law.start root high q.view.memory.seen g.went.more low a.read.first a.read.spans mid a.last a.chunks)

        -- no later chunk stands before what was seen then
        later : a.last ≤ g.first
        later =
            let ns : AllByRecursion (λ n. (length q.view.memory.seen ≤ n) × (n ≤ length r.view.memory.seen)) (g.first ∷ g.rest) =
            subst (AllByRecursion (λ n. (length q.view.memory.seen ≤ n) × (n ≤ length r.view.memory.seen))) g.looks g.went.bounds in
            let b = ns.0.0 in let c = a.within in omega arith

        few : length a.read.spans ≤ 4194304
        few =
            let b = front_few law.start root q.view.memory.seen (logs.scanned q.view.memory.seen a.read.known.legal) high low a.read.first a.read.spans mid a.last le a.chunks in
            let c = few_seen q a.read.known in omega arith

      read-more : (mid next : MapKey) (cur now new : HeldChunks) (q r : PassState) (a : HasReadTo law root sizes low high mid old cur p q) → spans_of now.list now.pairs ≡ spans_of cur.list cur.pairs → now.chunk_room ≡ 64 → 4096 ≤ now.pair_room
          → HasStopped sizes law.lawful law.start root mid high next now new q r → HasReadTo law root sizes low high next old new p r
      unfolding joined
      read-more mid next cur now new q r a same room pairs h =
          let f = front_lower law.start root high r.view.memory.seen mid h.gone.first a.last h.gone.spans next h.last (later mid cur now new q r a same room h.gone) h.chunks in
          record {
            read = joined mid cur now new q r a same room h.gone;
            last = f.last;
            chunks = front-join law.start root r.view.memory.seen high low mid a.read.first a.last a.read.spans h.gone.spans next f.last (before mid cur now new q r a same room h.gone) f.front;
            within = let b = f.le in let c = h.within in omega arith;
            least = let d = a.least in let e = h.gone.least in let b = h.gone.sx in let c = h.gone.x in omega arith;
            grants =
                let b = all-used mid next now new q r room pairs h in
                let c = call-grants now new q r room h.gone in
                let d = a.grants in
                let e = length-append a.read.spans h.gone.spans in omega arith;
          }

      all-more : (mid : MapKey) (answer : Record) (cur now new : HeldChunks) (q r : PassState) (a : HasReadTo law root sizes low high mid old cur p q) → spans_of now.list now.pairs ≡ spans_of cur.list cur.pairs → now.chunk_room ≡ 64
          → HasScanned sizes law.lawful law.start root mid high answer now new q r → HasReadAll law root sizes low high old new p r
      unfolding joined
      all-more mid answer cur now new q r a same room h = record {
        read = joined mid cur now new q r a same room h.gone;
        ascends = le;
        chunks = whole-join law.start root r.view.memory.seen high low mid a.read.first a.last a.read.spans h.gone.spans (length r.view.memory.seen) (before mid cur now new q r a same room h.gone)
            (whole_lower law.start root high r.view.memory.seen mid h.gone.first a.last h.gone.spans (length r.view.memory.seen) (later mid cur now new q r a same room h.gone) h.chunks);
        least = let d = a.least in let e = h.gone.least in let b = h.gone.sx in let c = h.gone.x in omega arith;
        grants =
            let b = call-grants now new q r room h.gone in
            let c = a.grants in
            let d = few mid cur now new q r a same room h.gone in omega arith;
      }

      -- one more call that had no room for all
      pub so_far_more : (begun : Type 0) (from next : MapKey) (cur now new : HeldChunks) (q r : PassState) → IsSoFar law root sizes begun low high from old cur p q → IsReserved cur now → (begun → q.view.grants.s + 2 ≤ r.view.grants.s)
          → HasStopped sizes law.lawful law.start root from high next now new q r → HasReadTo law root sizes low high next old new p r
      so_far_more begun from next cur now new q r (inl a) reserved two h =
          read-first next now new r (subst (λ (s : PassState). s.view.grants.s + 2 ≤ r.view.grants.s) a.same (two a.unkept)) (rw (reserved.list, reserved.pairs) a.none) reserved.chunk_room reserved.pair_room
          (subst (λ (s : PassState). HasStopped sizes law.lawful law.start root low high next now new s r) a.same (subst (λ k. HasStopped sizes law.lawful law.start root k high next now new q r) a.at h))
      so_far_more begun from next cur now new q r (inr a) reserved two h =
          read-more from next cur now new q r a (rw (reserved.list, reserved.pairs) refl) reserved.chunk_room reserved.pair_room h

      -- .. or that read all that was left
      pub so_far_all : (begun : Type 0) (from : MapKey) (answer : Record) (cur now new : HeldChunks) (q r : PassState) → IsSoFar law root sizes begun low high from old cur p q → IsReserved cur now → (begun → q.view.grants.s + 2 ≤ r.view.grants.s)
          → HasScanned sizes law.lawful law.start root from high answer now new q r → HasReadAll law root sizes low high old new p r
      so_far_all begun from answer cur now new q r (inl a) reserved two h =
          all-first answer now new r (subst (λ (s : PassState). s.view.grants.s + 2 ≤ r.view.grants.s) a.same (two a.unkept)) (rw (reserved.list, reserved.pairs) a.none) reserved.chunk_room
          (subst (λ (s : PassState). HasScanned sizes law.lawful law.start root low high answer now new s r) a.same (subst (λ k. HasScanned sizes law.lawful law.start root k high answer now new q r) a.at h))
      so_far_all begun from answer cur now new q r (inr a) reserved two h = all-more from answer cur now new q r a (rw (reserved.list, reserved.pairs) refl) reserved.chunk_room h

      -- the next call may take its grants
      pub so_far_room : (begun : Type 0) (from : MapKey) (cur now : HeldChunks) (q : PassState) → IsSoFar law root sizes begun low high from old cur p q → now.chunk_room ≡ 64 → total p.view.grants + most_scan_grants ≤ 2 ^ 52 → total q.view.grants + 8192 * now.chunk_room + 8192 ≤ 2 ^ 52
      so_far_room begun from cur now q (inl a) room most = let e = ap (λ (s : PassState). total s.view.grants) a.same in omega arith
      so_far_room begun from cur now q (inr a) room most =
          let b = front_few law.start root q.view.memory.seen (logs.scanned q.view.memory.seen a.read.known.legal) high low a.read.first a.read.spans from a.last le a.chunks in
          let c = few_seen q a.read.known in
          let d = a.grants in omega arith
