-- What an insert into both trees holds, or why it is refused, since the state that it began in.
use Rattle.std.specs.Prelude.{Result}
use Rattle.std.proofs.Common.{◌≡◌, ◌≢◌, inr, ℕ, ◌+◌, ◌≤◌, true, false, List, [], ◌++◌, length, refl, ap, subst, ◌∙◌, arith}
use Rattle.ib_map.specs.Keys.{MapKey}
use Rattle.ib_map.specs.Space.{has_pages}
use Rattle.ib_map.specs.declared.call.Call.{Call}
use Rattle.ib_map.specs.declared.call.Change.{Change}
use Rattle.ib_map.specs.declared.call.Record.{Record}
use Rattle.ib_map.specs.declared.call.Reply.{Reply}
use Rattle.ib_map.specs.declared.call.Reply.TheVariants.{SpaceFull}
use Rattle.ib_layout.specs.Geometry.{Sizes}
use Rattle.ib_logrec.specs.declared.entry.Entry.{Entry}
use Rattle.ib_page.specs.Work.{WorkPage}
use Rattle.ib_page.specs.declared.path.TheConstants.{MOST_PATH}
use Rattle.ib_walk.specs.Full.{is_too_high, need_of}
use Rattle.ib_split.proofs.OnPathLaws.{path-length}
use Rattle.ib_frames.specs.declared.appends.LogFull.{LogFull}
use Rattle.ib_rule.specs.declared.looks.Grants.{Grants}
use Rattle.ib_rule.specs.Pass.{PassState}
use Rattle.ib_rule.specs.Views.{total}
use Rattle.ib_mtr.specs.Commits.{HasRead}
use Rattle.ib_mtr.specs.Mtr.{started, with_work}
use Rattle.ib_cursor.specs.Going.{WentOn}
use Rattle.ib_cursor.proofs.LatchingLaws.{looked_first, went_both}
use Rattle.ib_leaf.specs.Calls.{CallLaw}
use Rattle.ib_leaf.proofs.CommitLaws.{CommitAnswered, ended-grants}
use Rattle.ib_index.specs.Grows.{tree_pages}
use Rattle.ib_second_key.specs.SecondKeys.{second_key_of}
use Rattle.ib_second.specs.Calls.{HasCalledPair, TakesForChange}
use Rattle.ib_second.specs.PairComes.{HasComeToPair, HasFoundTooFew, HasRefused, HasTakenAll, HasTakenFresh, IsRefusal}
use Rattle.ib_second.specs.PairReady.{bits_seen, pages_seen}
use Rattle.ib_second.proofs.StandLaws.{agrees-first}

-- what both inserts need, after all seen
abbrev pub AreNeeds : Sizes → MapKey → MapKey → ℕ → ℕ → PassState → Type 0
AreNeeds sizes key key2 first second q =
    (is_too_high 2 (pages_seen sizes q) key 1 ≡ false) × (is_too_high 2 (pages_seen sizes q) key2 2 ≡ false) × (first ≡ need_of (pages_seen sizes q) key 1) × (second ≡ need_of (pages_seen sizes q) key2 2) × (first + second ≤ MOST_PATH)

-- what is said of the sizes and the state of a step holds of what these are
pub restated : (P : Sizes → PassState → Type 0) (sizes old : Sizes) (q u : PassState) → old ≡ sizes → u ≡ q → P old u → P sizes q
restated P sizes old q u size state holds = subst (λ (v : PassState). P sizes v) state (subst (λ (s : Sizes). P s u) size holds)

-- a mini-transaction that has started goes on from where its pass was
went-started : (p q : PassState) → WentOn (started p) q → WentOn p q
went-started p q w = record { table = w.table; sizes = w.sizes; number = w.number; own = w.own; more = w.more; seen = w.seen; added = w.added; ends = w.ends; bounds = w.bounds }

pub refused-started : (sizes : Sizes) (key : MapKey) (value : ℕ) (reply : Reply) (p q : PassState) → HasRefused sizes key value reply (started p) q → HasRefused sizes key value reply p q
unfolding went-started
refused-started sizes key value reply p q h = record {
  path = h.path;
  other_path = h.other_path;
  held = h.held;
  stands = h.stands;
  trees = h.trees;
  why = h.why;
  went = went-started p q h.went;
  looked = h.looked;
  claims = h.claims;
  grants = h.grants;
}

pub taken-started : (sizes : Sizes) (key : MapKey) (value : ℕ) (path path2 fresh fresh2 : List ℕ) (p q : PassState) → HasTakenAll sizes key value path path2 fresh fresh2 (started p) q → HasTakenAll sizes key value path path2 fresh fresh2 p q
unfolding went-started
taken-started sizes key value path path2 fresh fresh2 p q h = record {
  before = h.before;
  taken = h.taken;
  went = went-started p q h.went;
  looked = h.looked;
  claims = h.claims;
  grants = h.grants;
}

-- the path of the key has pages
pub path-some : (sizes : Sizes) (key key2 : MapKey) (path path2 : List ℕ) (p q : PassState) → HasComeToPair sizes key path key2 path2 p q → has_pages sizes.pages ≡ true → path ≢ []
path-some sizes key key2 path path2 p q come fits is =
    let a = agrees-first sizes fits key path key2 path2 (tree_pages (come.held ++ come.other_held)) q come.stands in
    let l = path-length sizes.pages 2 1 key path q.work (pages_seen sizes q) (bits_seen sizes q) a in let z = ap length is in absurd (omega arith)

-- from where both paths are held
module _ (sizes : Sizes) (key : MapKey) (value : ℕ) (path path2 : List ℕ) (p q : PassState) (come : HasComeToPair sizes key path (second_key_of key value) path2 p q) where
  -- the key is there, or one of the trees would grow too high
  pub refused-here : (reply : Reply) → IsRefusal sizes key value path q reply → HasRefused sizes key value reply p q
  refused-here reply why = record {
    path = path;
    other_path = path2;
    held = tree_pages (come.held ++ come.other_held);
    stands = come.stands;
    trees = come.images.trees;
    why = why;
    went = come.went;
    looked = come.looked;
    claims = come.claims;
    grants = let g = come.grants in omega arith;
  }

  -- too few pages are free
  pub refused-short : (free need : ℕ) (t : PassState) → HasFoundTooFew sizes key value path path2 free need q t → HasRefused sizes key value (SpaceFull free need) p t
  refused-short free need t few = record {
    path = path;
    other_path = path2;
    held = few.held;
    stands = few.stands;
    trees = few.trees;
    why = inr (inr (free, need, refl, few.missing, few.lacks));
    went = went_both p q t come.went few.went;
    looked = looked_first p q t come.went few.went come.looked;
    claims = few.claims ∙ come.claims;
    grants = let g = come.grants in let h = few.grants in omega arith;
  }

  -- the fresh pages are held too
  pub taken-all : (fresh fresh2 : List ℕ) (t : PassState) → HasTakenFresh sizes key value path path2 fresh fresh2 q t → HasTakenAll sizes key value path path2 fresh fresh2 p t
  taken-all fresh fresh2 t taken = record {
    before = q;
    taken = taken;
    went = went_both p q t come.went taken.went;
    looked = looked_first p q t come.went taken.went come.looked;
    claims = taken.claims ∙ come.claims;
    grants = let g = come.grants in let h = taken.grants in omega arith;
  }

-- the grants of a mini-transaction that ended without a change
pub few-read : (sizes : Sizes) (lawful : List Entry → Type 0) (most place : ℕ) (p q r : PassState) → HasRead sizes lawful q place r
    → q.view.grants.sx ≡ p.view.grants.sx + 1 → total q.view.grants ≤ total p.view.grants + most → TakesForChange most p r
few-read sizes lawful most place p q r read claims few = record {
  claims = ap (λ (v : Grants). v.sx) read.ended.grants ∙ claims;
  all = let same = ap total read.ended.grants in omega arith;
}

-- .. and of one that ended with a commit
pub few-ended : (sizes : Sizes) (law : CallLaw) (call : Call) (change : Change) (made : Reply) (o : Result ℕ LogFull) (answer : Record) (work : List WorkPage) (most : ℕ) (p t r : PassState)
    → CommitAnswered sizes law call change made o answer (with_work work t) r → t.view.grants.sx ≡ p.view.grants.sx + 1 → total t.view.grants + 1 ≤ total p.view.grants + most → TakesForChange most p r
few-ended sizes law call change made o answer work most p t r ends claims few =
    let took = ended-grants sizes law call change made o answer work t r ends in record {
      claims = took.1 ∙ claims;
      all = let a = took.0 in omega arith;
    }

-- the grants of a call are those of the state that it was answered in
pub few-as : (sizes : Sizes) (call : Call) (answer : Record) (most : ℕ) (p r s : PassState) → HasCalledPair sizes call answer p s → r ≡ s → TakesForChange most p r → TakesForChange most p s
few-as sizes call answer most p r s called same few = subst (λ (q : PassState). TakesForChange most p q) same few
