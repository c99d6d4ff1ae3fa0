-- A lookup in the first tree, as a lookup of the pair.
use Rattle.std.proofs.Common.{◌≡◌, ℕ, true, List, [], length, sym, subst, arith}
use Rattle.ib_map.specs.Keys.{MapKey}
use Rattle.ib_map.specs.Space.{has_pages}
use Rattle.ib_map.specs.Replies.{FitsCall, full_record}
use Rattle.ib_map.specs.declared.call.Call.{Call}
use Rattle.ib_map.specs.declared.call.Call.TheVariants.{Get}
use Rattle.ib_map.specs.declared.call.Record.{Record}
use Rattle.ib_layout.specs.Geometry.{Sizes}
use Rattle.ib_logrec.specs.declared.entry.Entry.{Entry}
use Rattle.ib_logrec.specs.Log.{history_of, by_place}
use Rattle.ib_logrec.proofs.LogLaws.{length-history_of}
use Rattle.ib_tree.specs.Fits.{FitsLog, TreeSpace}
use Rattle.ib_rule.specs.Pass.{PassState}
use Rattle.ib_leaf.specs.Calls.{HasCalled}
use Rattle.ib_index.specs.Lookups.{HasLookedUp}
use Rattle.ib_pair_law.specs.Opening.{pair_opening}
use Rattle.ib_pair_law.specs.PairFits.{FitsPairCall, FitsPairLog}
use Rattle.ib_pair_law.specs.PairKept.{IsPairLog}
use Rattle.ib_pair_law.proofs.PushLaws.{lawful-before}
use Rattle.ib_second.specs.Calls.{HasCalledPair, HasLookedUpPair}

-- a lookup's record fits the log of a pair where it fits the log by the map
fits-get : (space : TreeSpace) (log : List Entry) (session reach : ℕ) (key : MapKey) (answer : Record) → answer.call ≡ Get key → FitsLog space log session reach (full_record answer []) → FitsPairLog space log session reach (full_record answer [])
fits-get space log session reach key answer is fits =
    let long = length-history_of log in let place = fits.map.0 in
    let by-map = subst (λ (call : Call). FitsCall (history_of log) session reach call answer.reply answer.place []) is fits.map.1 in
    (omega arith, subst (λ (call : Call). FitsPairCall space log session reach call answer.reply answer.place []) (sym is) by-map)

called-get : (sizes : Sizes) (key : MapKey) (answer : Record) (p q : PassState) → HasCalled sizes (IsPairLog sizes.pages) (by_place pair_opening sizes.pages) (Get key) answer p q → HasCalledPair sizes (Get key) answer p q
called-get sizes key answer p q h = record {
  table = h.table;
  sizes_are = h.sizes_are;
  number = h.number;
  more = h.more;
  seen = h.seen;
  known = h.known;
  first = h.first;
  rest = h.rest;
  ends = h.ends;
  bounds = h.bounds;
  call_is = h.call_is;
  from = h.from;
  looked = h.looked;
  reach = h.reach;
  fits = fits-get _ q.view.memory.seen q.number (length p.view.memory.seen) key answer h.call_is h.fits;
  own = h.own;
}

-- the trees of a pair have at most four levels
pub looked-up : (sizes : Sizes) → has_pages sizes.pages ≡ true → (key : MapKey) (answer : Record) (p q : PassState) → HasLookedUp sizes (IsPairLog sizes.pages) (by_place pair_opening sizes.pages) key answer p q → HasLookedUpPair sizes key answer p q
looked-up sizes fits key answer p q h = record {
  called = called-get sizes key answer p q h.called;
  least = h.least;
  most = let low = h.low 3 (λ log legal. ((lawful-before sizes.pages fits log legal).law.trees 1 (omega arith) (omega arith)).1) in omega arith;
  sx = h.sx;
  x = h.x;
}
