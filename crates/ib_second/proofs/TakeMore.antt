-- A page more is taken by a change of both trees. While the index is claimed nobody else writes, so all stays as it was.
use Rattle.std.specs.List.{All, AllByRecursion}
use Rattle.std.specs.Prelude.{IsSome, ◌==◌, ◌||◌, nat_lt}
use Rattle.std.proofs.Common.{◌≡◌, ◌≢◌, inl, inr, ℕ, ◌+◌, ◌<◌, Bool, true, false, cond, List, [], ◌∷◌, ◌++◌, Some, None, length, map, refl, sym, ap, subst, ◌∙◌, arith, eq-eqb, ne_eqb, length-append, append-nil}
use Rattle.std.proofs.lemmas.Bool.{cases_eq}
use Rattle.std.proofs.lemmas.List.{map-append}
use Rattle.ib_map.specs.Keys.{MapKey}
use Rattle.ib_map.specs.Space.{has_pages}
use Rattle.ib_levels.specs.declared.level.Level.{Level}
use Rattle.ib_levels.specs.Level.{may_follow}
use Rattle.ib_layout.specs.Geometry.{Sizes}
use Rattle.ib_core.specs.Holders.{CanWish}
use Rattle.ib_core.specs.Sessions.{holdings}
use Rattle.ib_page.specs.Work.{WorkPage, changed_of, with_read}
use Rattle.ib_logrec.specs.Log.{by_place}
use Rattle.ib_plans.specs.Agreement.{IsThere, path_of}
use Rattle.ib_tree.specs.Logs.{pages_after}
use Rattle.ib_tree.specs.PageLists.{is_listed}
use Rattle.ib_rule.specs.Pass.{PassState}
use Rattle.ib_rule.proofs.Lists.{or_denies}
use Rattle.ib_mtr.proofs.Images.{All-with_page}
use Rattle.ib_cursor.specs.Claims.{claim_grant, IsAsRead}
use Rattle.ib_cursor.specs.Descent.{HasPage}
use Rattle.ib_cursor.specs.Grants.{Grant, HasGrants, HasTaken, IsAway}
use Rattle.ib_cursor.specs.Shapes.{HasLookedOn, KeepsClaim}
use Rattle.ib_cursor.specs.Takings.{IsHeldPage, is_loaded}
use Rattle.ib_cursor.proofs.ClaimLaws.{keeps_after}
use Rattle.ib_cursor.proofs.GrantLaws.{can_wish, grants_more}
use Rattle.ib_cursor.proofs.LatchingLaws.{beside_taken, went_beside, went_both}
use Rattle.ib_cursor.proofs.TakeLaws.{absent_loaded, all-both, among-more, loaded-more, long-more}
use Rattle.ib_pair_law.specs.Opening.{pair_opening}
use Rattle.ib_pair_law.specs.PairKept.{IsPairLog}
use Rattle.ib_index.specs.Grows.{held_grant, pages_held}
use Rattle.ib_second.specs.Stands.{HasTakenAt, StandsOnPair}
use Rattle.ib_pair_change.proofs.SpanLaws.{alone}

-- the image of a page, with one more that was not there
pub changed-more : (n page : ℕ) (image : List ℕ) (ps : List WorkPage) → changed_of page ps ≡ None → changed_of n (with_read page image ps) ≡ cond (page == n) (Some image) (changed_of n ps)
changed-more n page image [] none = refl
changed-more n page image (p ∷ ps) none = elim (cases_eq p.page page) [
  | inl e ↦ let bad : Some p.changed ≡ None = sym (ap (λ b. cond b (Some p.changed) (changed_of page ps)) (eq-eqb p.page page e)) ∙ none in cc
  | inr ne ↦
      let rest = changed-more n page image ps (sym (ap (λ b. cond b (Some p.changed) (changed_of page ps)) (ne_eqb p.page page ne)) ∙ none) in
      by_test rest (nat_lt p.page page) ne
]
  where
    turned : (p.page ≢ page) → (cond (p.page == n) (Some p.changed) (cond (page == n) (Some image) (changed_of n ps))) ≡ cond (page == n) (Some image) (cond (p.page == n) (Some p.changed) (changed_of n ps))
    turned ne = elim (cases_eq page n) [
      | inl e ↦ let yes = eq-eqb page n e in let other = ne_eqb p.page n (λ q. ne (q ∙ sym e)) in rw (yes, other) refl
      | inr away ↦ let other = ne_eqb page n away in rw other refl
    ]

    by_test : changed_of n (with_read page image ps) ≡ cond (page == n) (Some image) (changed_of n ps) → (b : Bool) → p.page ≢ page
        → changed_of n (cond b (p ∷ with_read page image ps) (record { page = page; before = image; changed = image } ∷ p ∷ ps)) ≡ cond (page == n) (Some image) (changed_of n (p ∷ ps))
    by_test r true ne = ap (λ o. cond (p.page == n) (Some p.changed) o) r ∙ turned ne
    by_test r false ne = refl

pub changed-kept : (n page : ℕ) (image : List ℕ) (ps : List WorkPage) → changed_of page ps ≡ None → IsThere ps n → changed_of n (with_read page image ps) ≡ changed_of n ps
changed-kept n page image ps none there = elim (cases_eq page n) [
  | inl e ↦ let bad : IsSome (changed_of page ps) = subst (IsThere ps) (sym e) there in let worse = subst IsSome none bad in cc
  | inr ne ↦ changed-more n page image ps none ∙ ap (λ b. cond b (Some image) (changed_of n ps)) (ne_eqb page n ne)
]

-- no grant is on the latch of a page that is none of these
away-held : (held : List (ℕ × Level)) (page : ℕ) → is_listed (pages_held held) page ≡ false → IsAway (page + 2) (map held_grant held)
away-held [] page none = tt
away-held (h ∷ hs) page none =
    let n = or_denies (h.0 == page) (is_listed (pages_held hs) page) none in
    ((λ e. let y : (h.0 == page) ≡ true = eq-eqb h.0 page (omega (arith, e)) in let z : true ≡ false = sym y ∙ n.0 in cc), away-held hs page n.1)

module _ (sizes : Sizes) (key : MapKey) (path : List ℕ) (key2 : MapKey) (path2 : List ℕ) (held : List (ℕ × Level)) (page : ℕ) (level : Level) (p : PassState)
    (can : StandsOnPair sizes key path key2 path2 held p) (other : is_listed (pages_held held) page ≡ false) where
  abbrev start : ℕ → ℕ
  start = by_place pair_opening sizes.pages

  pub take-may : AllByRecursion (λ (g : Grant). may_follow g.level level ≡ true) (claim_grant ∷ map held_grant held) → CanWish (page + 2) level p.view.session
  take-may follow = can_wish (claim_grant ∷ map held_grant held) p can.grants (page + 2) level ((λ e. absurd (omega arith)), away-held held page other) follow

  pub take-absent : changed_of page p.work ≡ None
  take-absent = absent_loaded page p.work (can.loaded page ∙ other)

  module _ (fits : has_pages sizes.pages ≡ true) (q r : PassState) (inside : page < sizes.pages) (was : All (λ w. 0 < holdings (w.page + 2) p.view.session) p.work) (taken : HasTaken (held_grant (page, level)) p q)
      (looked_on : HasLookedOn sizes (IsPairLog sizes.pages) q r) (memo : r.memo ≡ q.memo) (session : r.view.session ≡ q.view.session) (grants : r.view.grants ≡ q.view.grants) (load : HasPage start page q r)
      (now : All (λ w. 0 < holdings (w.page + 2) r.view.session) r.work) where
    all-grants : HasGrants (claim_grant ∷ map held_grant (held ++ (page, level) ∷ [])) r
    all-grants = subst (λ gs. HasGrants gs r) (ap (λ gs. claim_grant ∷ gs) (sym (map-append held_grant held ((page, level) ∷ []))))
        (grants_more (claim_grant ∷ map held_grant held) (held_grant (page, level)) p r can.grants (memo ∙ ap (λ (u : PassState). u.memo) taken.pass) (session ∙ taken.taken.session))

    work-is : r.work ≡ with_read page load.image p.work
    work-is = load.work ∙ ap (λ (u : PassState). with_read page load.image u.work) taken.pass

    keeps : KeepsClaim p r
    keeps = keeps_after p q r taken.taken.memory looked_on.keeps can.claimed

    -- nothing of others was seen
    seen-is : r.view.memory.seen ≡ p.view.memory.seen
    seen-is =
        let none = alone sizes.pages fits p.view.memory.seen keeps.more (subst (IsPairLog sizes.pages) keeps.seen looked_on.seen.known.legal) keeps.single in
        keeps.seen ∙ (ap (λ es. p.view.memory.seen ++ es) none ∙ append-nil p.view.memory.seen)

    still : (w : WorkPage) → IsHeldPage start p w → 0 < holdings (w.page + 2) p.view.session → IsAsRead start r.view.memory.seen w
    still w h some = subst (λ log. IsAsRead start log w) (sym seen-is) h.read

    images : All (IsAsRead start r.view.memory.seen) r.work
    images = subst (All (IsAsRead start r.view.memory.seen)) (sym work-is) (All-with_page (IsAsRead start r.view.memory.seen) (record { page = page; before = load.image; changed = load.image }) p.work
        (record { size = load.size; is_page = load.is_page; unchanged = refl })
        (all-both (IsHeldPage start p) (λ w. 0 < holdings (w.page + 2) p.view.session) (IsAsRead start r.view.memory.seen) p.work still can.read was))

    kept-image : (n : ℕ) → IsThere p.work n → changed_of n r.work ≡ changed_of n p.work
    kept-image n there = ap (changed_of n) work-is ∙ changed-kept n page load.image p.work take-absent there

    pub taken-at : HasTakenAt sizes key path key2 path2 held page level p r
    taken-at = record {
      stands = record {
        claimed = keeps.claimed;
        read = all-both (IsAsRead start r.view.memory.seen) (λ w. 0 < holdings (w.page + 2) r.view.session) (IsHeldPage start r) r.work (λ w a b. record { read = a; watched = looked_on.seen.watched (w.page + 2) b }) images now;
        known = looked_on.seen.known;
        on_path = subst (λ log. path ≡ path_of (pages_after start log) key 1) (sym seen-is) can.on_path;
        on_other_path = subst (λ log. path2 ≡ path_of (pages_after start log) key2 2) (sym seen-is) can.on_other_path;
        grants = all-grants;
        loaded = λ n. ap (is_loaded n) work-is ∙ (loaded-more n (record { page = page; before = load.image; changed = load.image }) p.work
            ∙ (ap (λ t. (page == n) || t) (can.loaded n) ∙ sym (ap (λ ns. is_listed ns n) (map-append (λ (h : ℕ × Level). h.0) held ((page, level) ∷ [])) ∙ among-more (pages_held held) page n)));
        count = let a = ap length work-is in let b = long-more (record { page = page; before = load.image; changed = load.image }) p.work in let c = can.count in let d = length-append held ((page, level) ∷ []) in omega arith;
        within = subst (All (λ w. w.page < sizes.pages)) (sym work-is) (All-with_page (λ w. w.page < sizes.pages) (record { page = page; before = load.image; changed = load.image }) p.work inside can.within);
      };
      went = went_both p q r (went_beside p q (beside_taken (held_grant (page, level)) p q taken)) looked_on.seen.went;
      grants = grants ∙ taken.taken.grants;
      seen = seen-is;
      there = subst IsSome (sym (ap (changed_of page) work-is ∙ (changed-more page page load.image p.work take-absent ∙ ap (λ b. cond b (Some load.image) (changed_of page p.work)) (eq-eqb page page refl)))) refl;
      same = kept-image;
    }
