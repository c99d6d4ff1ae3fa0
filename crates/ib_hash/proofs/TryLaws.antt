-- A page that was guessed is claimed in X, and a change is made there.
use Rattle.std.proofs.Common.{◌≡◌, ◌≢◌, ℕ, ◌+◌, ◌<◌, Bool, true, false, List, [], ◌∷◌, length, take, Option, Some, None, refl, sym, ap, subst, ◌∙◌, arith}
use Rattle.ib_map.specs.Keys.{MapKey}
use Rattle.ib_map.specs.Pairs.{value_at}
use Rattle.ib_map.specs.declared.call.Call.{Call}
use Rattle.ib_map.specs.declared.call.Record.{Record}
use Rattle.ib_levels.specs.declared.level.Mode.TheVariants.{X}
use Rattle.ib_layout.specs.Geometry.{Sizes}
use Rattle.ib_page.specs.Work.{WorkPage, with_read}
use Rattle.ib_logrec.specs.declared.entry.Entry.{Entry}
use Rattle.ib_logrec.specs.Log.{by_place}
use Rattle.ib_walk.specs.Pages.{PageState}
use Rattle.ib_tree.specs.TreeLog.{opening}
use Rattle.ib_planned_log.specs.Kept.{IsKeptLog}
use Rattle.ib_planned_log.specs.LeafChange.{kept_pages}
use Rattle.ib_rule.specs.declared.memory.Knowledge.{Knowledge}
use Rattle.ib_rule.specs.Pass.{PassState}
use Rattle.ib_rule.specs.Space.{SpaceState}
use Rattle.ib_mtr.specs.Commits.{HasRead}
use Rattle.ib_mtr.specs.Mtr.{IsMtr, started}
use Rattle.ib_cursor.specs.Descent.{HasPage}
use Rattle.ib_cursor.specs.Going.{HasSeen, WentOn}
use Rattle.ib_cursor.specs.Grants.{HasGrants, page_grant}
use Rattle.ib_cursor.specs.Guesses.{HasLatchedAlone, leaf_standing}
use Rattle.ib_cursor.proofs.GrantLaws.{last_held}
use Rattle.ib_cursor.proofs.LatchingLaws.{went_both, looked_then}
use Rattle.ib_leaf.specs.Calls.{tree_calls}
use Rattle.ib_leaf.specs.Ends.{HasLeftLeaf, grants_for, reaches_log}
use Rattle.ib_leaf.specs.Leaf.{IsAtLeaf, IsSeated, WorksOnLeaf, leaf_page}
use Rattle.ib_leaf.proofs.CallEnds.{known-r}
use Rattle.ib_hash.specs.Right.{IsRightAfter, is_right}
use Rattle.ib_hash.specs.Tries.{HasClaimedGuess, HasTriedRight, HasTriedShort, HasTriedWrong}
use Rattle.ib_hash.proofs.EndLaws.{end-r, legal-r, page-r}
use Rattle.ib_hash.proofs.LogLaws.{guess-leaf, guess-same, guess-stands, page-calm}

-- where the mini-transaction started is where the call began
pub claimed-started : (sizes : Sizes) (lawful : List Entry → Type 0) (opens : ℕ → ℕ) (key : MapKey) (page : ℕ) (right : Bool) (p q : PassState)
    → HasClaimedGuess sizes lawful opens key page right (started p) q → HasClaimedGuess sizes lawful opens key page right p q
claimed-started sizes lawful opens key page right p q h = record {
  went = record { table = h.went.table; sizes = h.went.sizes; number = h.went.number; own = h.went.own; more = h.went.more; seen = h.went.seen; added = h.went.added; ends = h.went.ends; bounds = h.went.bounds };
  looked = h.looked;
  held = h.held;
  watched = h.watched;
  known = h.known;
  seated = h.seated;
  told = h.told;
  at_leaf = h.at_leaf;
  grants = h.grants;
}

module _ (sizes : Sizes) (key : MapKey) (page : ℕ) (some : page ≢ 0) (p q : PassState) (at : HasLatchedAlone sizes (IsKeptLog sizes.pages) (by_place opening sizes.pages) page X p q) where
  some-look : 0 < length at.went.added
  some-look = let one = ap length at.one in omega arith

  -- the guess is wrong
  pub claimed-wrong : IsSeated sizes q → is_right (leaf_standing key (kept_pages sizes.pages q.view.memory.seen page)) ≡ false → HasClaimedGuess sizes (IsKeptLog sizes.pages) (by_place opening sizes.pages) key page false p q
  claimed-wrong seated fails = record {
    went = at.went;
    looked = some-look;
    held = at.held;
    watched = at.watched;
    known = at.known;
    seated = seated;
    told = (
      (λ yes. absurd (let z : false ≡ true = yes in cc)),
      (λ right. let yes = (guess-stands sizes seated.fits q.view.memory.seen at.known.legal page key some).1 right in let z : false ≡ true = sym fails ∙ yes in cc),
    );
    at_leaf = λ yes. absurd (let z : false ≡ true = yes in cc);
    grants = at.grants;
  }

  -- it is right, and the page was loaded with a look
  pub claimed-right : (r : PassState) → IsSeated sizes r → is_right (leaf_standing key (kept_pages sizes.pages q.view.memory.seen page)) ≡ true
      → HasSeen sizes (IsKeptLog sizes.pages) q r → r.memo ≡ q.memo → r.view.session ≡ q.view.session → r.view.grants ≡ q.view.grants → HasPage (by_place opening sizes.pages) page q r
      → HasClaimedGuess sizes (IsKeptLog sizes.pages) (by_place opening sizes.pages) key page true p r
  claimed-right r seated holds seen memo session grants load =
      let fits = seated.fits in
      let held : HasGrants (page_grant page X ∷ []) r = record { memo = memo ∙ at.held.memo; session = session ∙ at.held.session } in
      let watched = seen.watched (page + 2) (last_held [] (page_grant page X) r held) in
      let calm = seen.steady page at.watched in
      let same : kept_pages sizes.pages r.view.memory.seen page ≡ kept_pages sizes.pages q.view.memory.seen page =
      ap (λ (log : List Entry). kept_pages sizes.pages log page) seen.went.seen ∙ page-calm sizes fits q.view.memory.seen seen.went.more page calm in
      let right : IsRightAfter sizes r.view.memory.seen page key =
      guess-same sizes fits q.view.memory.seen r.view.memory.seen at.known.legal seen.known.legal page key some same ((guess-stands sizes fits q.view.memory.seen at.known.legal page key some).0 holds) in
      record {
        went = went_both p q r at.went seen.went;
        looked = looked_then p q r at.went seen.went (let one = ap length seen.one in omega arith);
        held = held;
        watched = watched;
        known = seen.known;
        seated = seated;
        told = ((λ _. right), (λ _. refl));
        at_leaf = λ _. record {
          is_leaf = guess-leaf sizes fits r.view.memory.seen seen.known.legal page key right;
          grants = held;
          watched = watched;
          image = load.image;
          size = load.size;
          is_page = load.is_page;
          work = load.work ∙ ap (λ (ws : List WorkPage). with_read page load.image ws) at.work;
          known = seen.known;
        };
        grants = grants ∙ at.grants;
      }

-- .. by what is said of the space of the mini-transaction
pub claimed-then : (space old : SpaceState) (key : MapKey) (page : ℕ) (right : Bool) (p start q : PassState) → old ≡ space → start ≡ started p
    → HasClaimedGuess old.sizes (IsKeptLog old.sizes.pages) (by_place opening old.sizes.pages) key page right start q → HasClaimedGuess space.sizes (IsKeptLog space.sizes.pages) (by_place opening space.sizes.pages) key page right p q
claimed-then space old key page right p start q same from claimed =
    claimed-started space.sizes (IsKeptLog space.sizes.pages) (by_place opening space.sizes.pages) key page right p q
    (subst (λ (s : PassState). HasClaimedGuess space.sizes (IsKeptLog space.sizes.pages) (by_place opening space.sizes.pages) key page right s q) from
    (subst (λ (s : SpaceState). HasClaimedGuess s.sizes (IsKeptLog s.sizes.pages) (by_place opening s.sizes.pages) key page right start q) same claimed))

-- the mini-transaction works on the leaf
pub works-there : (old new : SpaceState) (key : MapKey) (page : ℕ) (right : Bool) (p q : PassState) → new ≡ old → right ≡ true → IsMtr new q
    → HasClaimedGuess old.sizes (IsKeptLog old.sizes.pages) (by_place opening old.sizes.pages) key page right p q → WorksOnLeaf new key page q
works-there old new key page right p q same holds mtr claimed = record {
  mtr = mtr;
  at = subst (λ (s : SpaceState). IsAtLeaf s.sizes key page q) (sym same) (claimed.at_leaf holds);
  seated = subst (λ (s : SpaceState). IsSeated s.sizes q) (sym same) claimed.seated;
}

-- a page that was guessed is held as the key's leaf, and it is known what it has of the key and how many records
pub record HasLookedIn (space : SpaceState) (key : MapKey) (page : ℕ) (value : Option ℕ) (count : ℕ) (p q : PassState) : Type 0 where
  pub claimed : HasClaimedGuess space.sizes (IsKeptLog space.sizes.pages) (by_place opening space.sizes.pages) key page true p q
  pub works : WorksOnLeaf space key page q
  pub value_is : value ≡ value_at key (leaf_page space.sizes key q).records
  pub count_is : count ≡ length (leaf_page space.sizes key q).records

pub looked-in : (space old new : SpaceState) (key : MapKey) (page : ℕ) (right : Bool) (value : Option ℕ) (count : ℕ) (p start q : PassState) → old ≡ space → new ≡ space → start ≡ started p → right ≡ true → IsMtr new q
    → HasClaimedGuess old.sizes (IsKeptLog old.sizes.pages) (by_place opening old.sizes.pages) key page right start q
    → value ≡ value_at key (leaf_page new.sizes key q).records → count ≡ length (leaf_page new.sizes key q).records → HasLookedIn space key page value count p q
looked-in space old new key page right value count p start q same end from holds mtr claimed value-is count-is =
    let then = claimed-then space old key page right p start q same from claimed in
    record {
      claimed = subst (λ b. HasClaimedGuess space.sizes (IsKeptLog space.sizes.pages) (by_place opening space.sizes.pages) key page b p q) holds then;
      works = works-there space space key page right p q refl holds (subst (λ (s : SpaceState). IsMtr s q) end mtr) then;
      value_is = subst (λ (s : SpaceState). value ≡ value_at key (leaf_page s.sizes key q).records) end value-is;
      count_is = subst (λ (s : SpaceState). count ≡ length (leaf_page s.sizes key q).records) end count-is;
    }

-- the guess was wrong, so the mini-transaction ended
pub tried-wrong : (sizes : Sizes) (key : MapKey) (page : ℕ) (some : page ≢ 0) (p q : PassState) → HasClaimedGuess sizes (IsKeptLog sizes.pages) (by_place opening sizes.pages) key page false p q
    → (place : ℕ) (r : PassState) → HasRead sizes (IsKeptLog sizes.pages) q place r → HasTriedWrong sizes key page page p r
tried-wrong sizes key page some p q claimed place r read =
    let fits = claimed.seated.fits in
    let end = end-r sizes fits q place r read in
    let back : WentOn q r = record {
      table = end.table;
      sizes = end.sizes;
      number = end.number;
      own = ap (λ (m : Knowledge). m.own) read.ended.memory;
      more = end.more;
      seen = end.seen;
      added = place ∷ [];
      ends = end.ends;
      bounds = ((end.low, end.high), tt);
    } in
    record {
      some = some;
      is = refl;
      stopped = record { went = went_both p q r claimed.went back; looked = looked_then p q r claimed.went back (omega arith); known = known-r sizes (tree_calls sizes) p q claimed.went claimed.looked claimed.seated.role place r read };
      wrong = λ right.
          let was = guess-same sizes fits r.view.memory.seen q.view.memory.seen (legal-r sizes fits q place r read) claimed.known.legal page key some (sym (page-r sizes fits q place r read page claimed.watched)) right in
          let z : false ≡ true = claimed.told.1 was in cc;
      grants = read.ended.grants ∙ claimed.grants;
    }

-- the guess was right, so the change was tried on the leaf
module _ (space : SpaceState) (why : ℕ → PageState → Type 0) (key : MapKey) (page : ℕ) (some : page ≢ 0) (call : Call) (p q : PassState)
    (claimed : HasClaimedGuess space.sizes (IsKeptLog space.sizes.pages) (by_place opening space.sizes.pages) key page true p q) (r : PassState) where
  abbrev sizes : Sizes
  sizes = space.sizes

  page-was : kept_pages sizes.pages q.view.memory.seen page ≡ leaf_page sizes key q
  page-was = ap (kept_pages sizes.pages q.view.memory.seen) (claimed.at_leaf refl).is_leaf

  right-still : (log : List Entry) → IsKeptLog sizes.pages log → kept_pages sizes.pages log page ≡ leaf_page sizes key q → IsRightAfter sizes log page key
  right-still log legal same = guess-same sizes claimed.seated.fits q.view.memory.seen log claimed.known.legal legal page key some (same ∙ sym page-was) (claimed.told.0 refl)

  pub tried-right : (answer : Record) → HasLeftLeaf space why key page call (Some answer) q r → HasTriedRight sizes (IsKeptLog sizes.pages) (by_place opening sizes.pages) why key call page answer p r
  tried-right answer left = record {
    some = some;
    called = left.called p claimed.went claimed.looked;
    right = right-still (take answer.place r.view.memory.seen) left.kept.legal left.kept.page;
    enough = λ short. left.needs (subst (why page) left.kept.page short);
    grants = left.grants ∙ ap (grants_for (reaches_log answer.reply)) claimed.grants;
  }

  pub tried-short : HasLeftLeaf space why key page call None q r → HasTriedShort sizes why key page page p r
  tried-short left = record {
    some = some;
    is = refl;
    stopped = left.called p claimed.went claimed.looked;
    right = right-still r.view.memory.seen left.kept.legal left.kept.page;
    needs = subst (why page) (sym left.kept.page) left.needs;
    grants = left.grants ∙ claimed.grants;
  }
