-- The chunks of a scan as they become more, in a log that becomes longer.
use Rattle.std.proofs.Common.{◌≡◌, ℕ, ◌<◌, ◌≤◌, List, [], ◌∷◌, ◌++◌, Some, length, refl, sym, ap, subst, ◌∙◌, arith, append-nil, append_assoc, length-append}
use Rattle.std.proofs.lemmas.List.{take-append-le}
use Rattle.std.proofs.lemmas.List.Sums.{sum_by-append}
use Rattle.ib_map.specs.Keys.{MapKey, rank, key_after}
use Rattle.ib_map.specs.Chunks.{HeldChunks, spans_of}
use Rattle.ib_map.specs.Replies.{Span}
use Rattle.ib_logrec.specs.declared.entry.Entry.{Entry}
use Rattle.ib_walk.specs.Chunk.{IsChunk}
use Rattle.ib_tree.specs.Logs.{pages_after}
use Rattle.ib_tree.specs.Scans.{IsReadAt, AreFront, AreWhole}
use Rattle.ib_scan.specs.Scanning.{Appends}

module _ (opening : ℕ → ℕ) (root : ℕ) (high : MapKey) where
  read-longer : (log more : List Entry) (low : MapKey) (floor : ℕ) (span : Span) → IsReadAt opening log root low high floor span → IsReadAt opening (log ++ more) root low high floor span
  read-longer log more low floor span r = record {
    begins = r.begins;
    placed = r.placed;
    within = let a = r.within in let l = length-append log more in omega arith;
    chunk = subst (λ es. IsChunk (pages_after opening es) root low high span.high span.pairs) (sym (take-append-le span.place log more r.within)) r.chunk;
  }

  pub front_longer : (log more : List Entry) (low : MapKey) (floor : ℕ) (spans : List Span) (next : MapKey) (last : ℕ) → AreFront opening log root low high floor spans next last → AreFront opening (log ++ more) root low high floor spans next last
  front_longer log more low floor [] next last f = f
  front_longer log more low floor (span ∷ spans) next last f =
      (read-longer log more low floor span f.0, f.1, (f.2.0, f.2.1, front_longer log more f.2.0 span.place spans next last f.2.2))

  module _ (log : List Entry) where
    read_lower : (low : MapKey) (floor under : ℕ) (span : Span) → under ≤ floor → IsReadAt opening log root low high floor span → IsReadAt opening log root low high under span
    read_lower low floor under span le r = record { begins = r.begins; placed = let a = r.placed in omega arith; within = r.within; chunk = r.chunk }

    -- one chunk more
    pub front_push : (low : MapKey) (floor : ℕ) (spans : List Span) (start : MapKey) (last : ℕ) (span : Span) (after : MapKey) → AreFront opening log root low high floor spans start last → IsReadAt opening log root start high last span
        → rank span.high < rank high → key_after span.high ≡ Some after → AreFront opening log root low high floor (spans ++ span ∷ []) after span.place
    front_push low floor [] start last span after f r lt next =
        (subst (λ k. IsReadAt opening log root k high floor span) f.0 (subst (λ n. IsReadAt opening log root start high n span) f.1 r), lt, (after, next, (refl, refl)))
    front_push low floor (x ∷ xs) start last span after f r lt next = (f.0, f.1, (f.2.0, f.2.1, front_push f.2.0 x.place xs start last span after f.2.2 r lt next))

    -- a lower floor
    pub record HasFloor (low : MapKey) (floor : ℕ) (spans : List Span) (next : MapKey) (most : ℕ) : Type 0 where
      pub last : ℕ
      pub le : last ≤ most
      pub front : AreFront opening log root low high floor spans next last

    pub front_lower : (low : MapKey) (floor under : ℕ) (spans : List Span) (next : MapKey) (last : ℕ) → under ≤ floor → AreFront opening log root low high floor spans next last → HasFloor low under spans next last
    front_lower low floor under [] next last le f = record { last = under; le = (let e = f.1 in omega arith); front = (f.0, refl) }
    front_lower low floor under (span ∷ spans) next last le f = record { last = last; le = omega arith; front = (read_lower low floor under span le f.0, f.1, f.2) }

    pub whole_lower : (low : MapKey) (floor under : ℕ) (spans : List Span) (end : ℕ) → under ≤ floor → AreWhole opening log root low high floor spans end → AreWhole opening log root low high under spans end
    whole_lower low floor under spans end le w =
        let f = front_lower low floor under w.front w.next w.before_place le w.before in
        record {
          front = w.front;
          last = w.last;
          are = w.are;
          next = w.next;
          before_place = f.last;
          before = f.front;
          read = read_lower w.next w.before_place f.last w.last f.le w.read;
          to = w.to;
          placed = w.placed;
        }

-- what was appended
pub appends_none : (out : HeldChunks) → Appends out out []
appends_none out = record {
  chunks = [];
  list = sym (append-nil out.list);
  behind = [];
  pairs = sym (append-nil out.pairs);
  spans_are = sym (append-nil (spans_of out.list out.pairs));
  chunk_room = omega arith;
  pair_room = omega arith;
}

pub appends_more : (a b c : HeldChunks) (xs ys : List Span) → Appends a b xs → Appends b c ys → Appends a c (xs ++ ys)
appends_more a b c xs ys f g = record {
  chunks = f.chunks ++ g.chunks;
  list = g.list ∙ (ap (λ zs. zs ++ g.chunks) f.list ∙ append_assoc a.list f.chunks g.chunks);
  behind = f.behind ++ g.behind;
  pairs = g.pairs ∙ (ap (λ zs. zs ++ g.behind) f.pairs ∙ append_assoc a.pairs f.behind g.behind);
  spans_are = g.spans_are ∙ (ap (λ zs. zs ++ ys) f.spans_are ∙ append_assoc (spans_of a.list a.pairs) xs ys);
  chunk_room = let l = length-append xs ys in let p = f.chunk_room in let q = g.chunk_room in omega arith;
  pair_room = let l = sum_by-append (λ (s : Span). length s.pairs) xs ys in let p = f.pair_room in let q = g.pair_room in omega arith;
}
