-- What a lookup finds on the key's leaf is what the map of the log has.
use Rattle.std.specs.List.{AllByRecursion}
use Rattle.std.proofs.Common.{◌≡◌, ℕ, ◌<◌, ◌≤◌, false, List, [], ◌∷◌, ◌++◌, length, Option, Some, None, refl, sym, ap, subst, ◌∙◌, arith, length-append}
use Rattle.ib_map.specs.Keys.{MapKey, rank, end_rank}
use Rattle.ib_map.specs.Pairs.{value_at}
use Rattle.ib_map.specs.Map.{lookup_answer, lookup_of, is_made}
use Rattle.ib_map.specs.History.{map_after}
use Rattle.ib_map.specs.Replies.{full_record, Fits}
use Rattle.ib_map.specs.Writes.{touches}
use Rattle.ib_map.specs.declared.call.Call.TheVariants.{Get}
use Rattle.ib_map.specs.declared.call.Record.{Record}
use Rattle.ib_map.specs.declared.call.Reply.{Reply}
use Rattle.ib_page.specs.Image.{records_of}
use Rattle.ib_layout.specs.Geometry.{Sizes}
use Rattle.ib_logrec.specs.declared.entry.Entry.{Entry}
use Rattle.ib_logrec.specs.Log.{memory_after, history_of, map_of}
use Rattle.ib_logrec.proofs.LogLaws.{length-history_of}
use Rattle.ib_rule.specs.declared.memory.Knowledge.{Knowledge}
use Rattle.ib_rule.specs.declared.view.Role.TheVariants.{Session as SessionRole}
use Rattle.ib_rule.specs.declared.looks.Grants.{Grants}
use Rattle.ib_rule.specs.Pass.{PassState}
use Rattle.ib_rule.specs.Roles.{session_number_of}
use Rattle.ib_rule.proofs.Watching.{untouched}
use Rattle.ib_walk.specs.Trees.{content_of}
use Rattle.ib_walk.specs.Search.{leaf_for}
use Rattle.ib_walk.specs.Words.{image_of}
use Rattle.ib_walk.proofs.TreeLaws.{value_at-content_of}
use Rattle.ib_tree.specs.Fits.{FitsLog}
use Rattle.ib_tree.specs.Logs.{pages_after}
use Rattle.ib_mtr.specs.Commits.{HasRead}
use Rattle.ib_mtr.specs.Mtr.{started, finished}
use Rattle.ib_cursor.specs.OnPath.{IsOnPath}
use Rattle.ib_cursor.specs.Descent.{HasFound}
use Rattle.ib_cursor.specs.Contention.{IsContended}
use Rattle.ib_cursor.specs.declared.fault.NowaitFault.{NowaitFault}
use Rattle.ib_cursor.specs.Laws.{Laws}
use Rattle.ib_cursor.specs.Spaces.{space_of}
use Rattle.ib_cursor.proofs.LogLaws.{tree_of-log, path_stays, path_image}
use Rattle.ib_cursor.proofs.StepLaws.{image_stays}
use Rattle.ib_cursor.proofs.DownLaws.{leaf_path, leaf_image}
use Rattle.ib_cursor.proofs.OnPathLaws.{leaf_on-path}
use Rattle.ib_leaf.specs.Calls.{HasCalled}
use Rattle.ib_leaf.proofs.CallLaws.{called-by, read-end, read-known}
use Rattle.ib_index.specs.Lookups.{HasLookedUp}

pub lookup-made : (v : Option ℕ) → is_made (lookup_answer v) ≡ false
lookup-made (Some value) = refl
lookup-made None = refl

module _ (sizes : Sizes) (roots : ℕ) (lawful : List Entry → Type 0) (opening : ℕ → ℕ) (laws : Laws sizes.pages roots lawful opening) (one : 1 ≤ roots)
    (content : (log : List Entry) → lawful log → content_of (pages_after opening log) 1 ≡ map_of log) (key : MapKey) (lt : rank key < end_rank) where
  -- the key's leaf after a lawful log: what it has of the key, the map has
  pub leaf_has : (log : List Entry) (leaf : ℕ) → lawful log → IsOnPath (pages_after opening log) 1 key leaf 0
      → value_at key (records_of (image_of (memory_after opening log) leaf)) ≡ value_at key (map_of log)
  leaf_has log leaf legal on =
      let w = path_image sizes.pages roots lawful opening laws 1 (omega arith) one key lt log leaf 0 legal on in
      let v = value_at-content_of (pages_after opening log) key 1 lt (tree_of-log sizes.pages roots lawful opening laws 1 (omega arith) one log legal) in
      let at : leaf ≡ leaf_for (pages_after opening log) key 1 = leaf_on-path (pages_after opening log) 1 key leaf on in
      sym (ap (value_at key) w.image.records) ∙ (ap (λ n. value_at key (pages_after opening log n).records) at ∙ (sym v ∙ ap (value_at key) (content log legal)))

  module _ (value : Option ℕ) (p q : PassState) (found : HasFound sizes lawful opening 1 key value p q) where
    on_leaf : IsOnPath (pages_after opening q.view.memory.seen) 1 key found.reached.leaf 0
    on_leaf = leaf_path sizes roots lawful opening laws 1 (omega arith) one key lt false found.path p q found.reached

    -- what was found is what the words of the leaf say
    off-leaf : value ≡ value_at key (records_of (image_of (memory_after opening q.view.memory.seen) found.reached.leaf))
    off-leaf = found.is_value ∙ ap (value_at key) (leaf_image sizes roots lawful opening laws 1 (omega arith) one key lt false found.path p q found.reached).image.records

    module _ (place : ℕ) (r : PassState) (role : q.view.role ≡ SessionRole q.number) (read : HasRead sizes lawful q place r) where
      log-is : r.view.memory.seen ≡ q.view.memory.seen ++ read.looked.others
      log-is = ap (λ (m : Knowledge). m.seen) read.ended.memory ∙ sym read.looked.longer

      calm : AllByRecursion (λ e. touches found.reached.leaf e.writes ≡ false) read.looked.others
      calm = untouched (session_number_of q.view.role) found.reached.leaf q.view.memory.since read.looked.others found.reached.watched read.looked.harmless

      legal : lawful (q.view.memory.seen ++ read.looked.others)
      legal = subst lawful (sym read.looked.longer) read.looked.legal

      -- no entry first seen at the end writes the leaf: what was found there is what the map of all that is seen has
      value-is : value ≡ value_at key (map_of r.view.memory.seen)
      value-is =
          let on = path_stays sizes.pages roots lawful opening laws 1 (omega arith) one key lt q.view.memory.seen read.looked.others found.reached.leaf 0 legal calm on_leaf in
          let has = leaf_has (q.view.memory.seen ++ read.looked.others) found.reached.leaf legal on in
          let same = image_stays opening q.view.memory.seen read.looked.others found.reached.leaf calm in
          off-leaf ∙ (ap (λ ws. value_at key (records_of ws)) (sym same) ∙ (has ∙ ap (λ log. value_at key (map_of log)) (sym log-is)))

      module _ (reply : Reply) (is : reply ≡ lookup_answer value) where
        at-end : place ≡ length r.view.memory.seen
        at-end = read.place ∙ ap length (sym (ap (λ (m : Knowledge). m.seen) read.ended.memory))

        not-made : is_made reply ≡ false
        not-made = ap is_made is ∙ lookup-made value

        fits : Fits (history_of r.view.memory.seen) r.number (length p.view.memory.seen) (full_record (record { call = Get key; reply = reply; place = place }) [])
        fits =
            let long = length-history_of r.view.memory.seen in let end = at-end in
            let here : map_of r.view.memory.seen ≡ map_after (history_of r.view.memory.seen) place = ap (map_after (history_of r.view.memory.seen)) (sym end) in
            let said : reply ≡ lookup_of (map_after (history_of r.view.memory.seen) place) key = is ∙ ap lookup_answer (value-is ∙ ap (value_at key) here) in
            (omega arith, (said, refl))

        pub called : HasCalled sizes lawful opening (Get key) (record { call = Get key; reply = reply; place = place }) p r
        called =
            called-by (FitsLog (space_of sizes opening)) sizes lawful (Get key) reply place p q r found.reached.went found.reached.looked
            (read-end sizes lawful q r read.log place q.view.grants read.looked read.place read.ended)
            (read-known sizes lawful q r read.log place q.view.grants read.looked read.place role read.ended)
            (sym at-end ∙ rw not-made refl) (record { map = fits; tree = tt }) (rw not-made (ap (λ (m : Knowledge). m.own) read.ended.memory))

        pub looked_up : HasLookedUp sizes lawful opening key (record { call = Get key; reply = reply; place = place }) p r
        looked_up =
            let f = found.reached.finds refl in let f0 = f.0 in let f1 = f.1 in
            let s = ap (λ (g : Grants). g.s) read.ended.grants in let x = ap (λ (g : Grants). g.x) read.ended.grants in let sx = ap (λ (g : Grants). g.sx) read.ended.grants in
            let l = ap length found.reached.ends in let m = length-append found.reached.front (found.reached.leaf ∷ []) in let most = found.reached.s in
            record { called = called; least = omega arith; most = omega arith; low = λ most no. (let t = found.reached.low most no in omega arith); sx = sx ∙ found.reached.sx; x = x ∙ f1 }

-- a mini-transaction starts with what the session had seen and taken
pub from_start : (sizes : Sizes) (lawful : List Entry → Type 0) (opening : ℕ → ℕ) (key : MapKey) (answer : Record) (p q : PassState) → HasLookedUp sizes lawful opening key answer (started p) q → HasLookedUp sizes lawful opening key answer p q
from_start sizes lawful opening key answer p q h = record {
  called = record {
    table = h.called.table;
    sizes_are = h.called.sizes_are;
    number = h.called.number;
    more = h.called.more;
    seen = h.called.seen;
    known = h.called.known;
    first = h.called.first;
    rest = h.called.rest;
    ends = h.called.ends;
    bounds = h.called.bounds;
    call_is = h.called.call_is;
    from = h.called.from;
    looked = h.called.looked;
    reach = h.called.reach;
    fits = h.called.fits;
    own = h.called.own;
  };
  least = h.least;
  most = h.most;
  low = h.low;
  sx = h.sx;
  x = h.x;
}

pub contended_start : (sizes : Sizes) (lawful : List Entry → Type 0) (opening : ℕ → ℕ) (key : MapKey) (fault : NowaitFault) (p q : PassState)
    → IsContended sizes lawful opening 1 key fault (started p) q → IsContended sizes lawful opening 1 key fault p (finished q)
contended_start sizes lawful opening key fault p q h = record {
  went = record { table = h.went.table; sizes = h.went.sizes; number = h.went.number; own = h.went.own; more = h.went.more; seen = h.went.seen; added = h.went.added; ends = h.went.ends; bounds = h.went.bounds };
  looked = h.looked;
  known = record { legal = h.known.legal; room = h.known.room; mine = h.known.mine };
  grants = record { memo = h.grants.memo; session = h.grants.session };
  work = refl;
  on_path = h.on_path;
  refused = h.refused;
  s = h.s;
  sx = h.sx;
  x = h.x;
}
