-- What a session holds by its grants, with one more and with one fewer.
use Rattle.std.specs.List.{All, AllByRecursion, remove}
use Rattle.std.specs.Prelude.{sum_by, nat_lt, ◌==◌, ◌||◌, not, filter, slice_get, IsSomeAnd}
use Rattle.std.proofs.Common.{◌≡◌, ◌≢◌, ℕ, ◌+◌, ◌<◌, ◌^◌, Bool, true, false, cond, List, [], ◌∷◌, ◌++◌, map, Option, Some, None, length, refl, sym, ap, subst, ◌∙◌, arith, eq-eqb, ne_eqb}
use Rattle.std.proofs.lemmas.List.{map-append}
use Rattle.std.proofs.lemmas.List.Elements.{All-nil, All-cons}
use Rattle.std.proofs.lemmas.List.Sums.{sum_by-cons}
use Rattle.ib_levels.specs.declared.holding.Holding.{Holding}
use Rattle.ib_levels.specs.declared.latch.Latch.{Latch}
use Rattle.ib_levels.specs.declared.level.Level.{Level}
use Rattle.ib_levels.specs.declared.level.Level.TheVariants.{IndexTree}
use Rattle.ib_levels.specs.declared.level.Mode.{Mode}
use Rattle.ib_levels.specs.declared.level.Mode.TheVariants.{S, Sx, X}
use Rattle.ib_levels.specs.Holding.{on, hold, without_latch, levels_of, changed_on}
use Rattle.ib_levels.specs.Level.{may_follow, MayFollow}
use Rattle.ib_levels.proofs.Counts.{by_equal, on-cons, on-push_here, part-here, part-away}
use Rattle.ib_core.specs.declared.phase.Phase.TheVariants.{Free}
use Rattle.ib_core.specs.declared.session.Session.{Session}
use Rattle.ib_core.specs.Holders.{CanWish}
use Rattle.ib_core.specs.Sessions.{claims, holdings}
use Rattle.ib_core.specs.Takings.{one_fewer, first_holding, given_back}
use Rattle.ib_core.proofs.OnLatch.{one_more-latch}
use Rattle.ib_core.proofs.Further.{one_more-level}
use Rattle.ib_page.specs.Work.{WorkPage}
use Rattle.ib_rule.specs.declared.memory.Since.{Since}
use Rattle.ib_rule.specs.Conditions.{MayGrow, held_now}
use Rattle.ib_rule.specs.Pass.{PassState, raising_as}
use Rattle.ib_rule.specs.Takes.{MayTake}
use Rattle.ib_rule.specs.Views.{is_watched, total}
use Rattle.ib_rule.specs.Space.{SpaceState}
use Rattle.ib_mtr.specs.Mtr.{IsMtr, held_after, released_at, IsReleasedAt}
use Rattle.ib_mtr.proofs.Held.{idle_by}
use Rattle.ib_cursor.specs.Grants.{Grant, memo_of, hold_of, HasGrants, IsAway}
use Rattle.ib_cursor.proofs.LatchingLaws.{IsBeside}

-- the holding of a grant
pub hold-latch : (g : Grant) → (hold_of g).latch.0 ≡ g.latch
hold-latch g = one_more-latch g.mode (hold g.latch g.level 0 0 0)

mode-count : (m : Mode) (l : ℕ) (v : Level) → (first_holding m l v).s + (first_holding m l v).sx + (first_holding m l v).x ≡ 1
mode-count S l v = refl
mode-count Sx l v = refl
mode-count X l v = refl

-- on a latch that no grant is on there is nothing
pub away-none : (l : ℕ) (f : Holding → ℕ) (gs : List Grant) → IsAway l gs → on l f (map hold_of gs) ≡ 0
away-none l f [] away = refl
away-none l f (g ∷ gs) away =
    let c = on-cons l f (hold_of g) (map hold_of gs) in
    let p = part-away l f (hold_of g) (λ e. away.0 (sym (hold-latch g) ∙ e)) in
    let r = away-none l f gs away.1 in omega arith

-- how many grants it holds
all-held : (gs : List Grant) → sum_by (λ (h : Holding). h.s + h.sx + h.x) (map hold_of gs) ≡ length gs
all-held [] = refl
all-held (g ∷ gs) =
    let c = sum_by-cons (λ (h : Holding). h.s + h.sx + h.x) (hold_of g) (map hold_of gs) in
    let m = mode-count g.mode g.latch g.level in let r = all-held gs in omega arith

follow-all : (v : Level) (gs : List Grant) → AllByRecursion (λ g. may_follow g.level v ≡ true) gs → All (λ held. MayFollow held v) (levels_of (map hold_of gs))
follow-all v [] h = All-nil (λ held. MayFollow held v)
follow-all v (g ∷ gs) h = All-cons (λ held. MayFollow held v) (hold_of g).level (levels_of (map hold_of gs)) (subst (λ u. MayFollow u v) (sym (one_more-level g.mode (hold g.latch g.level 0 0 0))) h.0) (follow-all v gs h.1)

module _ (gs : List Grant) (p : PassState) (has : HasGrants gs p) where
  -- a latch that no grant is on may be taken
  pub can_wish : (l : ℕ) (v : Level) → IsAway l gs → AllByRecursion (λ g. may_follow g.level v ≡ true) gs → CanWish l v p.view.session
  can_wish l v away follow = subst (CanWish l v) (sym has.session) (record { free = refl; none = away-none l (λ h. 1) gs away; allowed = follow-all v gs follow })

  pub may_grow : total p.view.grants < 2 ^ 52 → length gs < 8192 → MayGrow p.view
  may_grow few short = (few, subst (λ (a : Session). held_now a < 8192) (sym has.session) (let e = all-held gs in omega arith))

-- the latch of the last grant is held
pub last_held : (gs : List Grant) (g : Grant) (p : PassState) → HasGrants (gs ++ g ∷ []) p → 0 < holdings g.latch p.view.session
last_held gs g p has = subst (λ (a : Session). 0 < holdings g.latch a) (sym has.session)
    (subst (λ (hs : List Holding). 0 < on g.latch (λ h. 1) hs) (sym (map-append hold_of gs (g ∷ [])))
    (let e = on-push_here g.latch (λ h. 1) (map hold_of gs) (hold_of g) (hold-latch g) in omega arith))

-- one grant more
pub grants_more : (gs : List Grant) (g : Grant) (p q : PassState) → HasGrants gs p → q.memo ≡ p.memo ++ memo_of g ∷ [] → q.view.session ≡ record { held = p.view.session.held ++ hold_of g ∷ []; phase = Free } → HasGrants (gs ++ g ∷ []) q
grants_more gs g p q has memo session = record {
  memo = memo ∙ (ap (λ ms. ms ++ memo_of g ∷ []) has.memo ∙ sym (map-append memo_of gs (g ∷ [])));
  session = session ∙ ap (λ (hs : List Holding). let a : Session = record { held = hs; phase = Free } in a)
      (ap (λ (a : Session). a.held ++ hold_of g ∷ []) has.session ∙ sym (map-append hold_of gs (g ∷ [])));
}

-- one fewer: what a grant's latch had is gone
without-away : (l : ℕ) (gs : List Grant) → IsAway l gs → without_latch l (map hold_of gs) ≡ map hold_of gs
without-away l [] away = refl
without-away l (g ∷ gs) away =
    let no : ((hold_of g).latch.0 == l) ≡ false = ne_eqb (hold_of g).latch.0 l (λ e. away.0 (sym (hold-latch g) ∙ e)) in
    let r = without-away l gs away.1 in
    ap (λ b. cond (not b) (hold_of g ∷ without_latch l (map hold_of gs)) (without_latch l (map hold_of gs))) no ∙ ap (λ hs. hold_of g ∷ hs) r

without-at : (g : Grant) (front back : List Grant) → IsAway g.latch front → IsAway g.latch back → without_latch g.latch (map hold_of (front ++ g ∷ back)) ≡ map hold_of (front ++ back)
without-at g [] back fa ba =
    let yes : ((hold_of g).latch.0 == g.latch) ≡ true = eq-eqb (hold_of g).latch.0 g.latch (hold-latch g) in
    ap (λ b. cond (not b) (hold_of g ∷ without_latch g.latch (map hold_of back)) (without_latch g.latch (map hold_of back))) yes ∙ without-away g.latch back ba
without-at g (x ∷ xs) back fa ba =
    let no : ((hold_of x).latch.0 == g.latch) ≡ false = ne_eqb (hold_of x).latch.0 g.latch (λ e. fa.0 (sym (hold-latch x) ∙ e)) in
    let rest = without_latch g.latch (map hold_of (xs ++ g ∷ back)) in
    ap (λ b. cond (not b) (hold_of x ∷ without_latch g.latch (map hold_of (xs ++ g ∷ back))) (without_latch g.latch (map hold_of (xs ++ g ∷ back)))) no ∙ ap (λ hs. hold_of x ∷ hs) (without-at g xs back fa.1 ba)

on-at : (g : Grant) (f : Holding → ℕ) (front back : List Grant) → IsAway g.latch front → IsAway g.latch back → on g.latch f (map hold_of (front ++ g ∷ back)) ≡ f (hold_of g)
on-at g f [] back fa ba =
    let c = on-cons g.latch f (hold_of g) (map hold_of back) in let p = part-here g.latch f (hold_of g) (hold-latch g) in let z = away-none g.latch f back ba in omega arith
on-at g f (x ∷ xs) back fa ba =
    let c = on-cons g.latch f (hold_of x) (map hold_of (xs ++ g ∷ back)) in let p = part-away g.latch f (hold_of x) (λ e. fa.0 (sym (hold-latch x) ∙ e)) in
    let r = on-at g f xs back fa.1 ba in omega arith

-- what is left after the one grant of a latch went is what the others hold, whatever its mode
given-one : (m : Mode) (l : ℕ) (a : Session) → claims l a ≡ 1 → given_back m l a ≡ without_latch l a.held
given-one m l a one = ap (λ b. cond b (without_latch l a.held) (changed_on l (one_fewer m) a.held)) (eq-eqb (claims l a) 1 one)

after-one : (m : Mode) (l : ℕ) (v : Level) (a : Session) → claims l a ≡ (first_holding m l v).sx + (first_holding m l v).x → held_after m l a ≡ without_latch l a.held
after-one S l v a is = refl
after-one Sx l v a is = given-one Sx l a (omega arith)
after-one X l v a is = given-one X l a (omega arith)

memo-at : (g : Grant) (front back : List Grant) → slice_get (map memo_of (front ++ g ∷ back)) (length front) ≡ Some (memo_of g)
memo-at g [] back = refl
memo-at g (x ∷ xs) back = memo-at g xs back

memo-without : (g : Grant) (front back : List Grant) → remove (map memo_of (front ++ g ∷ back)) (length front) ≡ map memo_of (front ++ back)
memo-without g [] back = refl
memo-without g (x ∷ xs) back = ap (λ ms. memo_of x ∷ ms) (memo-without g xs back)

-- the latches that are watched still
watch-left : (l k : ℕ) (b : Bool) (ss : List Since) → k ≢ l → is_watched k (filter (λ (s : Since). not (s.latch == l) || b) ss) ≡ is_watched k ss
watch-left l k b [] ne = refl
watch-left l k b (s ∷ ss) ne =
    let r = watch-left l k b ss ne in
    by_equal (λ t. is_watched k (cond (not t || b) (s ∷ filter (λ (s : Since). not (s.latch == l) || b) ss) (filter (λ (s : Since). not (s.latch == l) || b) ss)) ≡ is_watched k (s ∷ ss)) s.latch l
    (λ e. let no : (s.latch == k) ≡ false = ne_eqb s.latch k (λ q. ne (sym q ∙ e)) in by_left no r b)
    (λ n. ap (λ t. (s.latch == k) || t) r)
  where
    by_left : (s.latch == k) ≡ false → is_watched k (filter (λ (s : Since). not (s.latch == l) || b) ss) ≡ is_watched k ss → (c : Bool)
        → is_watched k (cond c (s ∷ filter (λ (s : Since). not (s.latch == l) || b) ss) (filter (λ (s : Since). not (s.latch == l) || b) ss)) ≡ is_watched k (s ∷ ss)
    by_left none r true = ap (λ t. (s.latch == k) || t) r
    by_left none r false = r ∙ ap (λ t. t || is_watched k ss) (sym none)

-- what a grant that is given back leaves
pub record HasGiven (g : Grant) (p q : PassState) : Type 0 where
  pub beside : IsBeside p q
  pub grants : q.view.grants ≡ p.view.grants
  pub work : p.work ≡ [] → q.work ≡ []
  pub watched : (k : ℕ) → k ≢ g.latch → is_watched k q.view.memory.since ≡ is_watched k p.view.memory.since
  pub all_looks : q.view.looks.all ≡ p.view.looks.all
  pub count_looks : q.view.looks.count ≡ p.view.looks.count

given-of : (at : ℕ) (g : Grant) (p q : PassState) → HasGiven g p (raising_as q (released_at at (memo_of g) p))
given-of at g p q = record {
  beside = record { table = refl; sizes = refl; number = refl; own = refl; seen = refl; ends = refl };
  grants = refl;
  work = λ none. ap (filter (λ (w : WorkPage). not (w.page + 2 == g.latch) || nat_lt 0 (holdings g.latch (released_at at (memo_of g) p).view.session))) none;
  watched = λ k ne. watch-left g.latch k (nat_lt 0 (holdings g.latch (released_at at (memo_of g) p).view.session)) p.view.memory.since ne;
  all_looks = refl;
  count_looks = refl;
}

module _ (front : List Grant) (g : Grant) (back : List Grant) (p q : PassState) (has : HasGrants (front ++ g ∷ back) p) (fa : IsAway g.latch front) (ba : IsAway g.latch back) (release : IsReleasedAt (length front) p q) where
  pub released_is : q ≡ raising_as q (released_at (length front) (memo_of g) p)
  released_is = subst (λ o. IsSomeAnd o (λ h. q ≡ raising_as q (released_at (length front) h p))) (ap (λ ms. slice_get ms (length front)) has.memo ∙ memo-at g front back) release

  pub given : HasGiven g p q
  given = subst (HasGiven g p) (sym released_is) (given-of (length front) g p q)

  held-left : held_after g.mode g.latch p.view.session ≡ map hold_of (front ++ back)
  held-left =
      let c : claims g.latch p.view.session ≡ (hold_of g).sx + (hold_of g).x = ap (claims g.latch) has.session ∙ on-at g (λ h. h.sx + h.x) front back fa ba in
      after-one g.mode g.latch g.level p.view.session c ∙ (ap (λ (a : Session). without_latch g.latch a.held) has.session ∙ without-at g front back fa ba)

  pub grants_left : HasGrants (front ++ back) q
  grants_left = record {
    memo = ap (λ (r : PassState). r.memo) released_is ∙ (ap (λ ms. remove ms (length front)) has.memo ∙ memo-without g front back);
    session = ap (λ (r : PassState). r.view.session) released_is ∙ ap (λ (hs : List Holding). let a : Session = record { held = hs; phase = Free } in a) held-left;
  }

-- a release looks at no lock word
pub released-looks : (at : ℕ) (p q : PassState) → IsReleasedAt at p q → q.view.looks.count ≡ p.view.looks.count
released-looks at p q is = go (slice_get p.memo at) is
  where
    go : (o : Option (Latch × Mode)) → IsSomeAnd o (λ g. q ≡ raising_as q (released_at at g p)) → q.view.looks.count ≡ p.view.looks.count
    go None h = absurd h
    go (Some g) h = ap (λ (s : PassState). s.view.looks.count) h

-- .. and makes no step of who waits
pub released-waits : (at : ℕ) (p q : PassState) → IsReleasedAt at p q → q.view.looks.waits ≡ p.view.looks.waits
released-waits at p q is = go (slice_get p.memo at) is
  where
    go : (o : Option (Latch × Mode)) → IsSomeAnd o (λ g. q ≡ raising_as q (released_at at g p)) → q.view.looks.waits ≡ p.view.looks.waits
    go None h = absurd h
    go (Some g) h = ap (λ (s : PassState). s.view.looks.waits) h

-- a mini-transaction with an empty memo has no grants
pub none_granted : (space : SpaceState) (p : PassState) → IsMtr space p → p.memo ≡ [] → HasGrants [] p
none_granted space p mtr none = record { memo = none; session = idle_by p.memo p.view.session mtr.exact mtr.proper none mtr.free }

-- .. so it may take the index
pub may_take_index : (space : SpaceState) (p : PassState) → IsMtr space p → p.memo ≡ [] → total p.view.grants < 2 ^ 52 → MayTake space 1 IndexTree p
may_take_index space p mtr none room = let has = none_granted space p mtr none in record {
  own = mtr.own;
  latch = omega arith;
  grows = may_grow [] p has room (omega arith);
  may = can_wish [] p has 1 IndexTree tt tt;
}

-- where nothing is held on a latch no grant is on it
pub none_away : (l : ℕ) (gs : List Grant) → on l (λ h. 1) (map hold_of gs) ≡ 0 → IsAway l gs
none_away l [] none = tt
none_away l (g ∷ gs) none =
    let c = on-cons l (λ h. 1) (hold_of g) (map hold_of gs) in
    ((λ e. let p = part-here l (λ h. 1) (hold_of g) (hold-latch g ∙ e) in omega arith), none_away l gs (omega arith))

pub away_left : (l : ℕ) (xs ys : List Grant) → IsAway l (xs ++ ys) → IsAway l xs
away_left l [] ys away = tt
away_left l (x ∷ xs) ys away = (away.0, away_left l xs ys away.1)

pub away_append : (l : ℕ) (xs : List Grant) (g : Grant) → IsAway l xs → g.latch ≢ l → IsAway l (xs ++ g ∷ [])
away_append l [] g away ne = (ne, tt)
away_append l (x ∷ xs) g away ne = (away.0, away_append l xs g away.1 ne)
