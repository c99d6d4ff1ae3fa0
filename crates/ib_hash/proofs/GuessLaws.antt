-- A session that came to a page which was guessed: what a lookup leaves there, by where the key stands.
use Rattle.std.proofs.Common.{◌≡◌, ◌≢◌, ℕ, ◌<◌, Bool, true, false, cond, List, [], ◌∷◌, ◌++◌, length, take, Option, Some, None, refl, sym, ap, subst, ◌∙◌, arith, append_assoc}
use Rattle.std.specs.Prelude.{◌==◌, ◌||◌}
use Rattle.ib_map.specs.Keys.{MapKey}
use Rattle.ib_map.specs.Map.{lookup_answer}
use Rattle.ib_map.specs.Pairs.{index_of, value_at}
use Rattle.ib_map.specs.Space.{has_pages}
use Rattle.ib_map.specs.declared.call.Call.TheVariants.{Get}
use Rattle.ib_map.specs.declared.call.Reply.{Reply}
use Rattle.ib_map.specs.declared.call.Reply.TheVariants.{Found as FoundReply, NotFound}
use Rattle.ib_levels.specs.declared.level.Mode.{Mode}
use Rattle.ib_levels.specs.declared.level.Mode.TheVariants.{S}
use Rattle.ib_heap.specs.declared.search.KeyStanding.{KeyStanding}
use Rattle.ib_heap.specs.declared.search.KeyStanding.TheVariants.{Outside, Between, Found}
use Rattle.ib_heap.specs.Standing.{standing_at, standing_of}
use Rattle.ib_layout.specs.Geometry.{Sizes}
use Rattle.ib_logrec.specs.declared.entry.Entry.{Entry}
use Rattle.ib_logrec.specs.Log.{by_place}
use Rattle.ib_walk.specs.Pages.{PageState}
use Rattle.ib_tree.specs.TreeLog.{opening}
use Rattle.ib_planned_log.specs.Kept.{IsKeptLog}
use Rattle.ib_planned_log.specs.LeafChange.{kept_pages}
use Rattle.ib_rule.specs.declared.memory.Knowledge.{Knowledge}
use Rattle.ib_rule.specs.declared.view.Role.TheVariants.{Session}
use Rattle.ib_rule.specs.Pass.{PassState}
use Rattle.ib_mtr.specs.Commits.{HasRead}
use Rattle.ib_mtr.specs.Mtr.{started}
use Rattle.ib_cursor.specs.Guesses.{HasLatchedAlone, is_leaf, leaf_standing}
use Rattle.ib_cursor.specs.Reading.{HasReadWords}
use Rattle.ib_cursor.proofs.LatchingLaws.{seen_longer}
use Rattle.ib_leaf.specs.Calls.{HasCalled, tree_calls}
use Rattle.ib_leaf.proofs.CallEnds.{known-r}
use Rattle.ib_hash.specs.Lookups.{HasLookedByGuess, HasMissed, reply_for}
use Rattle.ib_hash.specs.Right.{IsRightAfter, is_right}
use Rattle.ib_hash.proofs.EndLaws.{end-r, front-r}
use Rattle.ib_hash.proofs.LogLaws.{guess-leaf, guess-stands}
use Rattle.ib_hash.proofs.LookupLaws.{called-get, ends-r, first-found}

-- where the mini-transaction started is where the call began
pub latched-started : (sizes : Sizes) (lawful : List Entry → Type 0) (opens : ℕ → ℕ) (page : ℕ) (mode : Mode) (p q : PassState) → HasLatchedAlone sizes lawful opens page mode (started p) q → HasLatchedAlone sizes lawful opens page mode p q
latched-started sizes lawful opens page mode p q h = record {
  held = h.held;
  watched = h.watched;
  work = h.work;
  known = h.known;
  formed = h.formed;
  went = record { table = h.went.table; sizes = h.went.sizes; number = h.went.number; own = h.went.own; more = h.went.more; seen = h.went.seen; added = h.went.added; ends = h.went.ends; bounds = h.went.bounds };
  one = h.one;
  grants = h.grants;
}

-- words that are read change nothing of that
pub latched-read : (sizes : Sizes) (lawful : List Entry → Type 0) (opens : ℕ → ℕ) (page : ℕ) (mode : Mode) (p q r : PassState) → HasLatchedAlone sizes lawful opens page mode p q → HasReadWords q r → HasLatchedAlone sizes lawful opens page mode p r
latched-read sizes lawful opens page mode p q r h read = subst (HasLatchedAlone sizes lawful opens page mode p) (sym read.same) (record {
  held = record { memo = h.held.memo; session = h.held.session };
  watched = h.watched;
  work = h.work;
  known = record { legal = h.known.legal; room = h.known.room; mine = h.known.mine };
  formed = h.formed;
  went = record { table = h.went.table; sizes = h.went.sizes; number = h.went.number; own = h.went.own; more = h.went.more; seen = h.went.seen; added = h.went.added; ends = h.went.ends; bounds = h.went.bounds };
  one = h.one;
  grants = h.grants;
})

-- the page was latched from the start of the call on, and tested where it lies
pub tested : (sizes k : Sizes) (page : ℕ) (mode : Mode) (p start held q : PassState) → k ≡ sizes → start ≡ started p → HasLatchedAlone k (IsKeptLog k.pages) (by_place opening k.pages) page mode start held → HasReadWords held q
    → HasLatchedAlone sizes (IsKeptLog sizes.pages) (by_place opening sizes.pages) page mode p q
tested sizes k page mode p start held q same from latched read =
    let there : HasLatchedAlone sizes (IsKeptLog sizes.pages) (by_place opening sizes.pages) page mode start held = subst (λ (s : Sizes). HasLatchedAlone s (IsKeptLog s.pages) (by_place opening s.pages) page mode start held) same latched in
    latched-read sizes (IsKeptLog sizes.pages) (by_place opening sizes.pages) page mode p held q
    (latched-started sizes (IsKeptLog sizes.pages) (by_place opening sizes.pages) page mode p held (subst (λ (s : PassState). HasLatchedAlone sizes (IsKeptLog sizes.pages) (by_place opening sizes.pages) page mode s held) from there)) read

pub standing-then : (sizes k : Sizes) (key : MapKey) (page : ℕ) (held q : PassState) (o : Option KeyStanding) → k ≡ sizes → o ≡ leaf_standing key (kept_pages k.pages held.view.memory.seen page) → HasReadWords held q
    → o ≡ leaf_standing key (kept_pages sizes.pages q.view.memory.seen page)
standing-then sizes k key page held q o same is read =
    is
    ∙ (ap (λ (s : Sizes). leaf_standing key (kept_pages s.pages held.view.memory.seen page)) same
    ∙ ap (λ (log : List Entry). leaf_standing key (kept_pages sizes.pages log page)) (sym (ap (λ (s : PassState). s.view.memory.seen) read.same)))

pub role-read : (held q : PassState) → held.view.role ≡ Session held.number → HasReadWords held q → q.view.role ≡ Session q.number
role-read held q role read = subst (λ (s : PassState). s.view.role ≡ Session s.number) (sym read.same) role

-- what a lookup replies by where the key stands
reply-none : (o : Option KeyStanding) → reply_for o ≡ None → is_right o ≡ false
reply-none None is = refl
reply-none (Some Outside) is = refl
reply-none (Some Between) is = absurd (let z : Some NotFound ≡ None = is in cc)
reply-none (Some (Found value)) is = absurd (let z : Some (FoundReply value) ≡ None = is in cc)

reply-some : (o : Option KeyStanding) (reply : Reply) → reply_for o ≡ Some reply → is_right o ≡ true
reply-some None reply is = absurd (let z : None ≡ Some reply = is in cc)
reply-some (Some Outside) reply is = absurd (let z : None ≡ Some reply = is in cc)
reply-some (Some Between) reply is = refl
reply-some (Some (Found value)) reply is = refl

reply-at : (o : Option ℕ) (index count : ℕ) (reply : Reply) → reply_for (Some (standing_at o index count)) ≡ Some reply → reply ≡ lookup_answer o
reply-at (Some value) index count reply is = let z : Some (FoundReply value) ≡ Some reply = is in cc
reply-at None index count reply is = go (index == 0 || index == count) is
  where
    go : (b : Bool) → reply_for (Some (cond b Outside Between)) ≡ Some reply → reply ≡ NotFound
    go true is = absurd (let z : None ≡ Some reply = is in cc)
    go false is = let z : Some NotFound ≡ Some reply = is in cc

reply-is : (key : MapKey) (s : PageState) (reply : Reply) → reply_for (leaf_standing key s) ≡ Some reply → reply ≡ lookup_answer (value_at key s.records)
reply-is key s reply is = go (is_leaf s) is
  where
    go : (b : Bool) → reply_for (cond b (Some (standing_of key s.records)) None) ≡ Some reply → reply ≡ lookup_answer (value_at key s.records)
    go true is = reply-at (value_at key s.records) (index_of key s.records) (length s.records) reply is
    go false is = absurd (let z : None ≡ Some reply = is in cc)

module _ (sizes : Sizes) (fits : has_pages sizes.pages ≡ true) (key : MapKey) (page : ℕ) (some : page ≢ 0) (p q : PassState) (at : HasLatchedAlone sizes (IsKeptLog sizes.pages) (by_place opening sizes.pages) page S p q)
    (role : q.view.role ≡ Session q.number) (place : ℕ) (r : PassState) (read : HasRead sizes (IsKeptLog sizes.pages) q place r) where
  abbrev standing : Option KeyStanding
  standing = leaf_standing key (kept_pages sizes.pages q.view.memory.seen page)

  some-look : 0 < length at.went.added
  some-look = let one = ap length at.one in omega arith

  -- the guess is wrong
  pub missed : reply_for standing ≡ None → HasMissed sizes key page p r
  missed none =
      let end = end-r sizes fits q place r read in
      let longer = seen_longer p q at.went in let low = end.low in let high = end.high in
      record {
        stopped = record {
          went = record {
            table = end.table ∙ at.went.table;
            sizes = end.sizes ∙ at.went.sizes;
            number = end.number ∙ at.went.number;
            own = ap (λ (m : Knowledge). m.own) read.ended.memory ∙ at.went.own;
            more = at.went.more ++ end.more;
            seen = end.seen ∙ (ap (λ xs. xs ++ end.more) at.went.seen ∙ append_assoc p.view.memory.seen at.went.more end.more);
            added = length q.view.memory.seen ∷ place ∷ [];
            ends = ends-r sizes fits p q at.went place r read (length q.view.memory.seen) [] at.one;
            bounds = ((omega arith, omega arith), ((omega arith, high), tt));
          };
          looked = omega arith;
          known = known-r sizes (tree_calls sizes) p q at.went some-look role place r read;
        };
        first = length q.view.memory.seen;
        rest = place ∷ [];
        added = refl;
        wrong = λ right.
            let yes = (guess-stands sizes fits q.view.memory.seen at.known.legal page key some).1 (subst (λ (log : List Entry). IsRightAfter sizes log page key) (front-r sizes fits q place r read) right) in
            let z : false ≡ true = sym (reply-none standing none) ∙ yes in cc;
        grants = read.ended.grants ∙ at.grants;
      }

  -- it is right, and the page was searched
  pub looked : (reply : Reply) → reply_for standing ≡ Some reply → HasLookedByGuess sizes (IsKeptLog sizes.pages) (by_place opening sizes.pages) key page (record { call = Get key; reply = reply; place = place }) p r
  looked reply is =
      let right : IsRightAfter sizes q.view.memory.seen page key = (guess-stands sizes fits q.view.memory.seen at.known.legal page key some).0 (reply-some standing reply is) in
      let leaf = guess-leaf sizes fits q.view.memory.seen at.known.legal page key right in
      let called : HasCalled sizes (IsKeptLog sizes.pages) (by_place opening sizes.pages) (Get key) (record { call = Get key; reply = reply; place = place }) p r =
      called-get sizes fits key page p q at.went some-look role at.watched leaf place r read (value_at key (kept_pages sizes.pages q.view.memory.seen page).records) reply
      (reply-is key (kept_pages sizes.pages q.view.memory.seen page) reply is) refl in
      let first : called.first ≡ length q.view.memory.seen =
      first-found sizes (IsKeptLog sizes.pages) (by_place opening sizes.pages) (Get key) (record { call = Get key; reply = reply; place = place }) p r called (length q.view.memory.seen) (place ∷ [])
      (ends-r sizes fits p q at.went place r read (length q.view.memory.seen) [] at.one) in
      record {
        called = called;
        right = subst (λ (log : List Entry). IsRightAfter sizes log page key) (sym (ap (λ (n : ℕ). take n r.view.memory.seen) first ∙ front-r sizes fits q place r read)) right;
        grants = read.ended.grants ∙ at.grants;
      }
