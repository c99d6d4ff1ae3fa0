-- The leaf on which a scan stands is passed over: the next one is taken and loaded.
use Rattle.std.specs.List.{AllByRecursion}
use Rattle.std.specs.Prelude.{nat_le}
use Rattle.std.proofs.Common.{◌≡◌, ◌≢◌, ℕ, ◌+◌, ◌<◌, ◌≤◌, ◌^◌, true, List, [], ◌∷◌, ◌++◌, map, Some, refl, sym, ap, subst, ◌∙◌, arith, append_assoc, length-append, eq-eqb}
use Rattle.std.proofs.lemmas.Bool.{leb-true, and_parts}
use Rattle.std.proofs.lemmas.List.{map-append, length-map}
use Rattle.ib_map.specs.Keys.{MapKey}
use Rattle.ib_map.specs.Space.{has_pages}
use Rattle.ib_map.specs.declared.TheConstants.{LEAST_PAGES, MOST_PAGES}
use Rattle.ib_levels.specs.declared.level.Level.TheVariants.{TreeNode}
use Rattle.ib_levels.specs.declared.level.Mode.TheVariants.{S}
use Rattle.ib_levels.specs.Holding.{on}
use Rattle.ib_levels.specs.Level.{may_follow}
use Rattle.ib_levels.proofs.Counts.{on-cons, part-here}
use Rattle.ib_layout.specs.Geometry.{Sizes}
use Rattle.ib_core.specs.declared.session.Session.{Session}
use Rattle.ib_core.specs.Holders.{CanWish}
use Rattle.ib_core.specs.Sessions.{holdings}
use Rattle.ib_page.specs.Image.{next_of}
use Rattle.ib_page.specs.Work.{WorkPage, changed_of, before_of, without_page, with_read}
use Rattle.ib_logrec.specs.declared.entry.Entry.{Entry}
use Rattle.ib_logrec.specs.Log.{memory_after}
use Rattle.ib_rule.specs.declared.memory.Knowledge.{Knowledge}
use Rattle.ib_rule.specs.declared.memory.Since.{Since}
use Rattle.ib_rule.specs.Conditions.{MayGrow}
use Rattle.ib_rule.specs.Pass.{PassState}
use Rattle.ib_rule.specs.Views.{is_watched, total}
use Rattle.ib_rule.proofs.Lists.{each_push}
use Rattle.ib_walk.proofs.ImageLaws.{image_of-list}
use Rattle.ib_tree.specs.Logs.{HasRange, pages_after}
use Rattle.ib_mtr.specs.Mtr.{with_work}
use Rattle.ib_cursor.specs.Grants.{Grant, hold_of, page_grant, HasGrants, HasTaken}
use Rattle.ib_cursor.specs.Going.{HasSeen}
use Rattle.ib_cursor.specs.Descent.{HasPage}
use Rattle.ib_cursor.proofs.LatchingLaws.{IsBeside, went_beside, went_both, beside_taken}
use Rattle.ib_cursor.proofs.GrantLaws.{hold-latch, can_wish, may_grow, last_held, grants_more}
use Rattle.ib_cursor.specs.Laws.{Laws}
use Rattle.ib_scan.specs.Walked.{ReadLeaf, first_read, IsSkipped, ArePassed, leaf_grants, IsReadOf, IsWalked, IsScanning}
use Rattle.ib_scan.specs.Steps.{HasPassed}
use Rattle.ib_scan.proofs.LatchingLaws.{IsFresh, behind_fresh}
use Rattle.ib_scan.proofs.WalkedLaws.{AreCalm, walked_stays, tree_at_log, tree_is, leaves_met, walked_stands, walked_same}

-- a grant's latch is held
held-among : (front : List Grant) (g : Grant) (back : List Grant) → 0 < on g.latch (λ h. 1) (map hold_of (front ++ g ∷ back))
held-among [] g back = let c = on-cons g.latch (λ h. 1) (hold_of g) (map hold_of back) in let p = part-here g.latch (λ h. 1) (hold_of g) (hold-latch g) in omega arith
held-among (x ∷ xs) g back = let c = on-cons g.latch (λ h. 1) (hold_of x) (map hold_of (xs ++ g ∷ back)) in let r = held-among xs g back in omega arith

held_among : (front : List Grant) (g : Grant) (back : List Grant) (p : PassState) → HasGrants (front ++ g ∷ back) p → 0 < holdings g.latch p.view.session
held_among front g back p has = subst (λ (a : Session). 0 < holdings g.latch a) (sym has.session) (held-among front g back)

-- what is held is watched after a look
watched-all : (front : List Grant) (ps : List ReadLeaf) (back : List Grant) (p : PassState) → HasGrants (front ++ (leaf_grants ps ++ back)) p → ((l : ℕ) → 0 < holdings l p.view.session → is_watched l p.view.memory.since ≡ true)
    → AllByRecursion (λ q. is_watched (q.page + 2) p.view.memory.since ≡ true) ps
watched-all front [] back p has look = tt
watched-all front (q ∷ qs) back p has look = (
  look (q.page + 2) (held_among front (page_grant q.page S) (leaf_grants qs ++ back) p has),
  watched-all (front ++ page_grant q.page S ∷ []) qs back p (subst (λ gs. HasGrants gs p) (sym (append_assoc front (page_grant q.page S ∷ []) (leaf_grants qs ++ back))) has) look,
)

-- entries first seen write no page that was watched
calm-all : (ps : List ReadLeaf) (since : List Since) (more : List Entry) → ((page : ℕ) → is_watched (page + 2) since ≡ true → AreCalm more page) → AllByRecursion (λ q. is_watched (q.page + 2) since ≡ true) ps
    → AllByRecursion (λ q. AreCalm more q.page) ps
calm-all [] since more steady w = tt
calm-all (q ∷ qs) since more steady w = (steady q.page w.0, calm-all qs since more steady w.1)

all-nodes : (ps : List ReadLeaf) (page : ℕ) → AllByRecursion (λ g. may_follow g.level TreeNode ≡ true) (leaf_grants ps ++ page_grant page S ∷ [])
all-nodes [] page = (refl, tt)
all-nodes (p ∷ ps) page = (refl, all-nodes ps page)

pub first_push : (ps : List ReadLeaf) (last next : ReadLeaf) → first_read (ps ++ last ∷ []) next ≡ first_read ps last
first_push [] last next = refl
first_push (p ∷ ps) last next = refl

passed-push : (start : MapKey) (ps : List ReadLeaf) (last next : ReadLeaf) → ArePassed start ps last → IsSkipped start last.image → next_of last.image ≡ next.page → ArePassed start (ps ++ last ∷ []) next
passed-push start [] last next a skipped link = (skipped, link, tt)
passed-push start (p ∷ ps) last next a skipped link = (a.0, a.1 ∙ ap (λ (q : ReadLeaf). q.page) (sym (first_push ps last next)), passed-push start ps last next a.2 skipped link)

-- a space has few pages
pub most_pages : (pages : ℕ) → has_pages pages ≡ true → pages ≤ 4096
most_pages pages has = leb-true pages MOST_PAGES (and_parts (nat_le LEAST_PAGES pages) (nat_le pages MOST_PAGES) has).1

-- the leaf is loaded, and not changed
pub loaded_there : (page leaf : ℕ) (image : List ℕ) (ws : List WorkPage) → page ≡ leaf → ws ≡ record { page = page; before = image; changed = image } ∷ [] → changed_of leaf ws ≡ Some image
loaded_there page leaf image ws e is = let yes = eq-eqb page leaf e in ap (changed_of leaf) is ∙ rw yes refl

pub loaded_unchanged : (page leaf : ℕ) (image : List ℕ) (ws : List WorkPage) → ws ≡ record { page = page; before = image; changed = image } ∷ [] → changed_of leaf ws ≡ before_of leaf ws
loaded_unchanged page leaf image ws is = ap (changed_of leaf) is ∙ sym (ap (before_of leaf) is)

without-alone : (page leaf : ℕ) (image : List ℕ) (ws : List WorkPage) → page ≡ leaf → ws ≡ record { page = page; before = image; changed = image } ∷ [] → without_page leaf ws ≡ []
without-alone page leaf image ws e is = let yes = eq-eqb page leaf e in ap (without_page leaf) is ∙ rw yes refl

module _ (sizes : Sizes) (roots : ℕ) (lawful : List Entry → Type 0) (opening : ℕ → ℕ) (laws : Laws sizes.pages roots lawful opening) (root : ℕ) (start : MapKey) (ps : List ReadLeaf) (last : ReadLeaf) (p : PassState)
    (s : IsScanning sizes lawful opening roots root start ps last p) where
  fresh : next_of last.image ≢ 0 → IsFresh (tree_at_log sizes.pages roots lawful opening laws root p.view.memory.seen s.known.legal) root (tree_is sizes.pages roots lawful opening laws root p.view.memory.seen s.known.legal s.walked.met.0 s.walked.met.1) start sizes.pages (next_of last.image) ps last.page
  fresh some = behind_fresh (tree_at_log sizes.pages roots lawful opening laws root p.view.memory.seen s.known.legal) root (tree_is sizes.pages roots lawful opening laws root p.view.memory.seen s.known.legal s.walked.met.0 s.walked.met.1) start
      sizes.pages (leaves_met sizes.pages roots lawful opening laws root p.view.memory.seen s.known.legal s.walked.met.0 s.walked.met.1) ps last.page
      (walked_stands sizes.pages roots lawful opening laws root p.view.memory.seen s.known.legal start ps last s.walked) (next_of last.image)
      (walked_same sizes.pages roots lawful opening laws root p.view.memory.seen s.known.legal start ps last s.walked).next some

  pub next_inside : next_of last.image ≢ 0 → next_of last.image < sizes.pages
  next_inside some = (fresh some).inside

  abbrev pub emptied : PassState
  emptied = with_work [] p

  pub empty_now : (leaf : ℕ) → last.page ≡ leaf → with_work (without_page leaf p.work) p ≡ emptied
  empty_now leaf here = ap (λ ws. with_work ws p) (without-alone last.page leaf last.image p.work here s.work)

  held : HasGrants (leaf_grants ps ++ page_grant last.page S ∷ []) emptied
  held = record { memo = s.grants.memo; session = s.grants.session }

  pub may_take : next_of last.image ≢ 0 → CanWish (next_of last.image + 2) TreeNode emptied.view.session
  may_take some = can_wish (leaf_grants ps ++ page_grant last.page S ∷ []) emptied held (next_of last.image + 2) TreeNode (fresh some).away (all-nodes ps last.page)

  pub may_have : next_of last.image ≢ 0 → sizes.pages ≤ 4096 → total p.view.grants < 2 ^ 52 → MayGrow emptied.view
  may_have some most room = may_grow (leaf_grants ps ++ page_grant last.page S ∷ []) emptied held room
      (let a = (fresh some).few in let l = length-append (leaf_grants ps) (page_grant last.page S ∷ []) in let k = length-map ps (λ (q : ReadLeaf). page_grant q.page S) in omega arith)

  module _ (skipped : IsSkipped start last.image) (q r : PassState) (taken : HasTaken (page_grant (next_of last.image) S) emptied q) (seen : HasSeen sizes lawful q r) (memo : r.memo ≡ q.memo) (session : r.view.session ≡ q.view.session)
      (grants : r.view.grants ≡ q.view.grants) (loaded : HasPage opening (next_of last.image) q r) where
    calm : (page : ℕ) → is_watched (page + 2) p.view.memory.since ≡ true → AreCalm seen.went.more page
    calm page w = seen.steady page (subst (λ (m : Knowledge). is_watched (page + 2) m.since ≡ true) (sym taken.taken.memory) w)

    log-is : r.view.memory.seen ≡ p.view.memory.seen ++ seen.went.more
    log-is = seen.went.seen ∙ ap (λ (m : Knowledge). m.seen ++ seen.went.more) taken.taken.memory

    stayed : IsWalked roots opening (p.view.memory.seen ++ seen.went.more) root start ps last
    stayed = walked_stays sizes.pages roots lawful opening laws root p.view.memory.seen seen.went.more start ps last (subst lawful log-is seen.known.legal)
        (calm-all ps p.view.memory.since seen.went.more calm s.watched) (calm last.page s.here) s.walked

    abbrev there : ReadLeaf
    there = record { page = next_of last.image; image = loaded.image }

    read-there : IsReadOf opening r.view.memory.seen there
    read-there = sym (image_of-list (memory_after opening r.view.memory.seen) (next_of last.image) loaded.image loaded.size (λ index lt. sym (loaded.is_page index lt)))

    walked : IsWalked roots opening r.view.memory.seen root start (ps ++ last ∷ []) there
    walked =
        let w = subst (λ l. IsWalked roots opening l root start ps last) (sym log-is) stayed in
        record {
          images = each_push (IsReadOf opening r.view.memory.seen) ps last w.images w.image;
          image = read-there;
          passed = passed-push start ps last there w.passed skipped refl;
          low = w.low;
          high = w.high;
          met = subst (λ (f : ReadLeaf). HasRange roots (pages_after opening r.view.memory.seen) f.page (record { root = root; low = w.low; end = w.high; level = 0 })) (sym (first_push ps last there)) w.met;
          le = w.le;
        }

    all-grants : HasGrants ((leaf_grants ps ++ page_grant last.page S ∷ []) ++ page_grant (next_of last.image) S ∷ []) r
    all-grants = grants_more (leaf_grants ps ++ page_grant last.page S ∷ []) (page_grant (next_of last.image) S) emptied r held (memo ∙ ap (λ (u : PassState). u.memo) taken.pass) (session ∙ taken.taken.session)

    with-last : leaf_grants (ps ++ last ∷ []) ≡ leaf_grants ps ++ page_grant last.page S ∷ []
    with-last = map-append (λ (q : ReadLeaf). page_grant q.page S) ps (last ∷ [])

    pushed : HasGrants (leaf_grants (ps ++ last ∷ []) ++ page_grant (next_of last.image) S ∷ []) r
    pushed = subst (λ gs. HasGrants (gs ++ page_grant (next_of last.image) S ∷ []) r) (sym with-last) all-grants

    beside : IsBeside p q
    beside = let b = beside_taken (page_grant (next_of last.image) S) emptied q taken in record { table = b.table; sizes = b.sizes; number = b.number; own = b.own; seen = b.seen; ends = b.ends }

    pub passed_over : HasPassed sizes lawful opening roots root start ps last p r
    passed_over = record {
      out = loaded.image;
      scans = record {
        grants = pushed;
        watched = watched-all [] (ps ++ last ∷ []) (page_grant (next_of last.image) S ∷ []) r pushed seen.watched;
        here = seen.watched (next_of last.image + 2) (last_held (leaf_grants (ps ++ last ∷ [])) (page_grant (next_of last.image) S) r pushed);
        work = loaded.work ∙ ap (with_read (next_of last.image) loaded.image) (ap (λ (u : PassState). u.work) taken.pass);
        known = seen.known;
        walked = walked;
      };
      few = (fresh skipped.some).few;
      went = went_both p q r (went_beside p q beside) seen.went;
      grants = grants ∙ taken.taken.grants;
    }
