-- What a call of a pair had seen that ended after the claim of the index: nothing of others comes to the log meanwhile, so at the end it is what had been seen.
use Rattle.std.proofs.Common.{◌≡◌, ◌∙◌, ℕ, ◌<◌, true, List, ◌++◌, length, sym, ap, subst, arith, append-nil}
use Rattle.ib_map.specs.Keys.{MapKey}
use Rattle.ib_map.specs.History.{map_after}
use Rattle.ib_map.specs.Pairs.{value_at}
use Rattle.ib_map.specs.Space.{has_pages}
use Rattle.ib_map.specs.declared.call.Change.{Change}
use Rattle.ib_map.proofs.KeyLaws.{rank-lt_end}
use Rattle.ib_page.specs.Work.{WorkPage}
use Rattle.ib_layout.specs.Geometry.{Sizes}
use Rattle.ib_logrec.specs.declared.entry.Entry.{Entry}
use Rattle.ib_logrec.specs.Log.{by_place, history_of, map_of}
use Rattle.ib_walk.proofs.TreeLaws.{value_at-content_of}
use Rattle.ib_frames.specs.declared.appends.LogFull.{LogFull}
use Rattle.ib_rule.specs.Pass.{PassState}
use Rattle.ib_rule.specs.Roles.{session_number_of}
use Rattle.ib_rule.specs.Stores.{IsLook}
use Rattle.ib_mtr.specs.Commits.{HasCommitted, HasRead, IsFull}
use Rattle.ib_mtr.specs.Mtr.{with_work}
use Rattle.ib_cursor.specs.Going.{IsKnown, WentOn}
use Rattle.ib_cursor.specs.OnPath.{IsOnPath}
use Rattle.ib_cursor.specs.Shapes.{is_claimed}
use Rattle.ib_cursor.proofs.ClaimLaws.{singles}
use Rattle.ib_cursor.proofs.OnPathLaws.{leaf_on-path}
use Rattle.ib_leaf.specs.Leaf.{IsSeated}
use Rattle.ib_leaf.proofs.CallEnds.{log-f, log-r, looked-c, looked-f, map-c, map-r}
use Rattle.ib_pair_law.specs.Opening.{pair_opening}
use Rattle.ib_pair_law.specs.PairKept.{IsPairLog}
use Rattle.ib_pair_law.proofs.PushLaws.{first-before, lawful-before}
use Rattle.ib_pair_change.proofs.SpanLaws.{alone}
use Rattle.ib_second.specs.Calls.{pair_calls}
use Rattle.ib_second.specs.PairReady.{pages_seen}

-- the map of all seen has of a key what its leaf in the first tree has
pub value-on_leaf : (sizes : Sizes) → has_pages sizes.pages ≡ true → (key : MapKey) (leaf : ℕ) (q : PassState) → IsPairLog sizes.pages q.view.memory.seen → IsOnPath (pages_seen sizes q) 1 key leaf 0
    → value_at key (map_of q.view.memory.seen) ≡ value_at key (pages_seen sizes q leaf).records
value-on_leaf sizes fits key leaf q legal on =
    ap (value_at key) (sym (first-before sizes.pages fits q.view.memory.seen legal))
    ∙ (value_at-content_of (pages_seen sizes q) key 1 (rank-lt_end key) ((lawful-before sizes.pages fits q.view.memory.seen legal).law.trees 1 (omega arith) (omega arith)).0
    ∙ ap (λ n. value_at key (pages_seen sizes q n).records) (sym (leaf_on-path (pages_seen sizes q) 1 key leaf on)))

module _ (sizes : Sizes) (key : MapKey) (p q : PassState) (went : WentOn p q) (looked : 0 < length went.added) (claimed : is_claimed q.view.memory.since ≡ true) (known : IsKnown sizes (IsPairLog sizes.pages) q) (seated : IsSeated sizes q) where
  abbrev lawful : List Entry → Type 0
  lawful = IsPairLog sizes.pages

  abbrev seen : List Entry
  seen = q.view.memory.seen

  -- nothing of others is seen
  pub log-seen : (log : List Entry) → IsLook sizes lawful q.view log → log ≡ seen
  log-seen log look =
      let none = alone sizes.pages seated.fits seen look.others (subst lawful (sym look.longer) look.legal) (singles (session_number_of q.view.role) q.view.memory.since look.others claimed look.harmless) in
      sym look.longer ∙ (ap (λ es. seen ++ es) none ∙ append-nil seen)

  -- so at the end of a call that made no change the map has what it had of the key,
  pub value-read : (place : ℕ) (r : PassState) → HasRead sizes lawful q place r → value_at key (map_after (history_of r.view.memory.seen) place) ≡ value_at key (map_of seen)
  value-read place r read =
      ap (value_at key) (map-r sizes (pair_calls sizes) p q went looked seated.role place r read)
      ∙ ap (λ (log : List Entry). value_at key (map_of log)) (log-r sizes (pair_calls sizes) p q went looked seated.role place r read ∙ log-seen read.log read.looked)

  -- .. where the log was full too,
  pub value-full : (work : List WorkPage) (full : LogFull) (r : PassState) → IsFull sizes lawful (with_work work q) full r → value_at key (map_of r.view.memory.seen) ≡ value_at key (map_of seen)
  value-full work full r f =
      ap (λ (log : List Entry). value_at key (map_of log))
      (log-f sizes (pair_calls sizes) p q went looked seated.role work full r f ∙ log-seen f.log (looked-f sizes (pair_calls sizes) p q went looked seated.role work full r f))

  -- and in front of the entry of a change that was committed
  pub value-committed : (work : List WorkPage) (change : Change) (place : ℕ) (r : PassState) → HasCommitted sizes lawful (by_place pair_opening sizes.pages) change (with_work work q) place r
      → value_at key (map_after (history_of r.view.memory.seen) place) ≡ value_at key (map_of seen)
  value-committed work change place r c =
      ap (value_at key) (map-c sizes (pair_calls sizes) p q went looked seated.role work change place r c)
      ∙ ap (λ (log : List Entry). value_at key (map_of log)) (log-seen c.log (looked-c sizes (pair_calls sizes) p q went looked seated.role work change place r c))
