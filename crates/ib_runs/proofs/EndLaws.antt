-- The ends of a scan's chunks rise, and each but the last is a key that a change has inserted: they are no more than the log's entries.
use Rattle.std.proofs.Common.{◌≡◌, ◌≢◌, inl, inr, ℕ, ◌+◌, ◌<◌, ◌≤◌, List, [], ◌∷◌, ◌++◌, take, drop, true, false, None, length, cond, leb, refl, sym, ap, subst, ◌∙◌, arith, take-append-drop}
use Rattle.std.specs.Prelude.{nat_le, is_some, if◌then◌else◌}
use Rattle.std.proofs.lemmas.Bool.{cases_eq, cases_lt, le-leb, lt-leb}
use Rattle.ib_map.specs.Keys.{MapKey, rank}
use Rattle.ib_map.specs.Pairs.{Pairs, value_at, put}
use Rattle.ib_map.specs.Map.{effect_of, key_of}
use Rattle.ib_map.specs.History.{History, map_with, map_after}
use Rattle.ib_map.specs.Replies.{Span}
use Rattle.ib_map.specs.declared.call.Change.{Change}
use Rattle.ib_map.specs.declared.call.Change.TheVariants.{Insert, Delete}
use Rattle.ib_map.proofs.KeyLaws.{after-least_above, rank-lt_end}
use Rattle.ib_map.proofs.PairLaws.{value_at-put_other, value_at-without_other}
use Rattle.ib_logrec.specs.declared.entry.Entry.{Entry}
use Rattle.ib_tree.specs.Logs.{pages_after}
use Rattle.ib_tree.specs.Scans.{AreFront}
use Rattle.ib_tree.proofs.FitLaws.{IsChunk-bounds}
use Rattle.ib_runs.specs.Shared.{HasHistory}
use Rattle.ib_runs.proofs.ChunkLaws.{chunk_end}

-- how many changes are about keys from this rank on
abbrev pub about_from : ℕ → History → ℕ
about_from n [] = 0
about_from n (entry ∷ h) = (if nat_le n (rank (key_of entry.change)) then 1 else 0) + about_from n h

one-le : (a b k : ℕ) → a ≤ b → cond {A = ℕ} (leb b k) 1 0 ≤ cond {A = ℕ} (leb a k) 1 0
one-le a b k le = elim (cases_lt k b) [
  | inl lt ↦ rw (lt-leb b k lt) (omega arith)
  | inr ge ↦ rw (le-leb b k ge, le-leb a k (omega arith)) (omega arith)
]

pub about_from-le : (a b : ℕ) (h : History) → a ≤ b → about_from b h ≤ about_from a h
about_from-le a b [] le = omega arith
about_from-le a b (entry ∷ h) le = let one = one-le a b (rank (key_of entry.change)) le in let rest = about_from-le a b h le in omega arith

about_from-length : (n : ℕ) (h : History) → about_from n h ≤ length h
about_from-length n [] = omega arith
about_from-length n (entry ∷ h) = let rest = about_from-length n h in elim (leb n (rank (key_of entry.change))) as (λ b. cond {A = ℕ} b 1 0 + about_from n h ≤ length (entry ∷ h)) [ true ↦ omega arith | false ↦ omega arith ]

about_from-append : (n : ℕ) (xs ys : History) → about_from n (xs ++ ys) ≡ about_from n xs + about_from n ys
about_from-append n [] ys = omega arith
about_from-append n (entry ∷ xs) ys = let rest = about_from-append n xs ys in omega arith

-- a change of another key leaves what stands at a key
effect-other : (m : Pairs) (change : Change) (key : MapKey) → rank (key_of change) ≢ rank key → value_at key (effect_of m change) ≡ value_at key m
effect-other m (Insert k value) key ne =
    elim (is_some (value_at k m)) as (λ b. value_at key (cond b m (put k value m)) ≡ value_at key m) [ true ↦ refl | false ↦ value_at-put_other k key value m ne ]
effect-other m (Delete k) key ne = value_at-without_other k key m ne

-- a key that was not there and is there is one that a change is about
about-key : (key : MapKey) (n : ℕ) (m : Pairs) (h : History) → rank key < n → value_at key m ≡ None → value_at key (map_with m h) ≢ None → about_from n h + 1 ≤ about_from (rank key) h
about-key key n m [] lt none some = absurd (some none)
about-key key n m (entry ∷ h) lt none some = elim (cases_eq (rank (key_of entry.change)) (rank key)) [
  | inl e ↦
      let k : ℕ = rank (key_of entry.change) in
      let no : leb n k ≡ false = lt-leb n k (omega arith) in
      let is : leb (rank key) k ≡ true = le-leb (rank key) k (omega arith) in
      let rest = about_from-le (rank key) n h (omega arith) in
      rw (no, is) (omega arith)
  | inr ne ↦
      let one = one-le (rank key) n (rank (key_of entry.change)) (omega arith) in
      let rest = about-key key n (effect_of m entry.change) h lt (effect-other m entry.change key ne ∙ none) some in
      omega arith
]

-- .. of a map that was reached on the way
about-reached : (key : MapKey) (n place : ℕ) (h : History) → rank key < n → value_at key (map_after h place) ≢ None → about_from n h + 1 ≤ about_from (rank key) h
about-reached key n place h lt some =
    let front = about-key key n [] (take place h) lt refl some in
    let back = about_from-le (rank key) n (drop place h) (omega arith) in
    let all = take-append-drop place h in
    let a : about_from n h ≡ about_from n (take place h) + about_from n (drop place h) = ap (about_from n) (sym all) ∙ about_from-append n (take place h) (drop place h) in
    let b : about_from (rank key) h ≡ about_from (rank key) (take place h) + about_from (rank key) (drop place h) = ap (about_from (rank key)) (sym all) ∙ about_from-append (rank key) (take place h) (drop place h) in
    omega arith

-- over a log of which a tree has, at each place, what as many changes leave
module _ (opening : ℕ → ℕ) (root : ℕ) (log : List Entry) (known : HasHistory opening root log) (high : MapKey) where
  ends-rise : (low : MapKey) (floor : ℕ) (spans : List Span) (next : MapKey) (last : ℕ) → rank low ≤ rank high → AreFront opening log root low high floor spans next last
      → length spans + about_from (rank next) known.changes ≤ about_from (rank low) known.changes
  ends-rise low floor [] next last le are = let e : rank next ≡ rank low = ap rank are.0 in rw e (omega arith)
  ends-rise low floor (span ∷ spans) next last le are =
      let h : History = known.changes in
      let after = are.2.0 in
      let read = are.0 in
      let from = (IsChunk-bounds (pages_after opening (take span.place log)) root low high span.high span.pairs le read.chunk).0 in
      let there = subst (λ m. value_at span.high m ≢ None) (known.content span.place read.within) (chunk_end (pages_after opening (take span.place log)) root low high span.high span.pairs read.chunk are.1) in
      let up = (after-least_above span.high after high are.2.1).0 are.1 in
      let top = rank-lt_end high in
      let gt = (after-least_above span.high after after are.2.1).1 (omega arith) in
      let one = about-reached span.high (rank after) span.place h gt there in
      let below = about_from-le (rank low) (rank span.high) h from in
      let rest = ends-rise after span.place spans next last up are.2.2 in
      omega arith

  -- the chunks that end below the scan's last key are no more than the entries
  pub front_few : (low : MapKey) (floor : ℕ) (spans : List Span) (next : MapKey) (last : ℕ) → rank low ≤ rank high → AreFront opening log root low high floor spans next last → length spans ≤ length log
  front_few low floor spans next last le are =
      let a = ends-rise low floor spans next last le are in
      let b = about_from-length (rank low) known.changes in
      let c = known.count in omega arith
