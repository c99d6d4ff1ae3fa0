-- While the index is claimed, entries that are first seen are not structural.
use Rattle.std.specs.List.{AllByRecursion}
use Rattle.std.specs.Prelude.{nat_lt, ◌||◌, ◌&&◌, ◌==◌, not, filter}
use Rattle.std.proofs.Common.{◌≡◌, ◌≢◌, inl, inr, ℕ, ◌-◌, Bool, true, false, cond, List, [], ◌∷◌, ◌++◌, length, refl, sym, ap, ◌∙◌, append_assoc, append-nil, ne_eqb}
use Rattle.ib_map.specs.Writes.{touches}
use Rattle.ib_levels.specs.declared.holding.Holding.{Holding}
use Rattle.ib_layout.specs.Geometry.{Sizes}
use Rattle.ib_core.specs.declared.session.Session.{Session}
use Rattle.ib_core.specs.Sessions.{claims, holdings}
use Rattle.ib_levels.proofs.Counts.{by_equal}
use Rattle.ib_logrec.specs.declared.entry.Entry.{Entry}
use Rattle.ib_rule.specs.declared.memory.Since.{Since}
use Rattle.ib_rule.specs.declared.memory.Knowledge.{Knowledge}
use Rattle.ib_rule.specs.declared.view.Role.TheVariants.{Session as SessionRole}
use Rattle.ib_rule.specs.Memory.{conflicts}
use Rattle.ib_rule.specs.Pass.{PassState}
use Rattle.ib_rule.specs.Roles.{session_number_of}
use Rattle.ib_rule.specs.Stores.{IsHarmless}
use Rattle.ib_rule.specs.Views.{is_watched, watches_from}
use Rattle.ib_rule.proofs.Lists.{or_says}
use Rattle.ib_mtr.specs.Loads.{HasLooked, HasLoadedPage}
use Rattle.ib_cursor.specs.Claims.{claim_grant}
use Rattle.ib_mtr.specs.Mtr.{released_at, IsReleasedAt}
use Rattle.ib_cursor.specs.Grants.{Grant, memo_of, hold_of, HasGrants, IsAway}
use Rattle.ib_cursor.specs.Shapes.{is_claimed, AreSingle, KeepsClaim, HasLookedOn}
use Rattle.ib_cursor.proofs.LatchingLaws.{seen_by, seen_loaded}
use Rattle.ib_cursor.proofs.GrantLaws.{released_is}

last-no : (a b st t : Bool) → t ≡ true → (a || (b || (st && t))) ≡ false → st ≡ false
last-no true b st t is h = cc
last-no false true st t is h = cc
last-no false false false t is h = refl
last-no false false true true is h = cc
last-no false false true false is h = cc

single-by : (e : Entry) (ss : List Since) → is_claimed ss ≡ true → AllByRecursion (λ s. conflicts e s ≡ false) ss → e.structural ≡ false
single-by e [] is calm = cc
single-by e (s ∷ ss) is calm = elim (or_says (s.claims && (s.latch == 1)) (is_claimed ss) is) [
  | inl here ↦ last-no (s.latch == 0) (nat_lt 1 s.latch && touches (s.latch - 2) e.writes) e.structural (s.claims && (s.latch == 1)) here calm.0
  | inr there ↦ single-by e ss there calm.1
]

pub singles : (n : ℕ) (ss : List Since) (others : List Entry) → is_claimed ss ≡ true → AllByRecursion (IsHarmless n ss) others → AreSingle others
singles n ss [] is harmless = tt
singles n ss (e ∷ es) is harmless = (single-by e ss is harmless.0.1, singles n ss es is harmless.1)

claimed-left : (ss ts : List Since) → is_claimed ss ≡ true → is_claimed (ss ++ ts) ≡ true
claimed-left [] ts is = cc
claimed-left (s ∷ ss) ts is = by_first (claimed-left ss ts) (s.claims && (s.latch == 1)) is
  where
    by_first : (is_claimed ss ≡ true → is_claimed (ss ++ ts) ≡ true) → (b : Bool) → (b || is_claimed ss) ≡ true → (b || is_claimed (ss ++ ts)) ≡ true
    by_first later true h = refl
    by_first later false h = later h

claimed-right : (ss ts : List Since) → is_claimed ts ≡ true → is_claimed (ss ++ ts) ≡ true
claimed-right [] ts is = is
claimed-right (s ∷ ss) ts is = by_first (claimed-right ss ts is) (s.claims && (s.latch == 1))
  where
    by_first : is_claimed (ss ++ ts) ≡ true → (b : Bool) → (b || is_claimed (ss ++ ts)) ≡ true
    by_first later true = refl
    by_first later false = later

-- the first look under the claim
claims-of : (a : Session) → a.held ≡ hold_of claim_grant ∷ [] → nat_lt 0 (claims 1 a) ≡ true
claims-of a is = ap (λ (hs : List Holding). let b : Session = record { held = hs; phase = a.phase } in nat_lt 0 (claims 1 b)) is

started-by : (a : Session) (n : ℕ) (ss : List Since) → is_watched 1 ss ≡ false → a.held ≡ hold_of claim_grant ∷ [] → is_claimed (watches_from a a.held ss n) ≡ true
started-by a n ss none is =
    ap (λ (hs : List Holding). is_claimed (watches_from a hs ss n)) is
    ∙ (ap (λ b. is_claimed (cond b [] (record { latch = 1; claims = nat_lt 0 (claims 1 a); place = n } ∷ []))) none
    ∙ ap (λ c. (c && true) || false) (claims-of a is))

pub looked_on_by : (sizes : Sizes) (lawful : List Entry → Type 0) (opening : ℕ → ℕ) (p q : PassState) → p.view.role ≡ SessionRole p.number → HasLooked sizes lawful opening p q → HasLookedOn sizes lawful p q
looked_on_by sizes lawful opening p q role look = record {
  seen = seen_by sizes lawful opening p q role look;
  keeps = λ is. record {
    more = look.looked.others;
    seen = sym look.looked.longer;
    single = singles (session_number_of p.view.role) p.view.memory.since look.looked.others is look.looked.harmless;
    claimed = ap (λ (r : PassState). is_claimed r.view.memory.since) look.pass
        ∙ claimed-left p.view.memory.since (watches_from p.view.session p.view.session.held p.view.memory.since (length q.view.memory.seen)) is;
  };
}

pub looked_on_loaded : (sizes : Sizes) (lawful : List Entry → Type 0) (opening : ℕ → ℕ) (page : ℕ) (p q : PassState) → p.view.role ≡ SessionRole p.number → HasLoadedPage sizes lawful opening page p q → HasLookedOn sizes lawful p q
looked_on_loaded sizes lawful opening page p q role load = record {
  seen = seen_loaded sizes lawful opening page p q role load;
  keeps = λ is. record {
    more = load.looked.others;
    seen = sym load.looked.longer;
    single = singles (session_number_of p.view.role) p.view.memory.since load.looked.others is load.looked.harmless;
    claimed = ap (λ (r : PassState). is_claimed r.view.memory.since) load.pass
        ∙ claimed-left p.view.memory.since (watches_from p.view.session p.view.session.held p.view.memory.since (length q.view.memory.seen)) is;
  };
}

pub started_by : (sizes : Sizes) (lawful : List Entry → Type 0) (opening : ℕ → ℕ) (p q : PassState) → HasLooked sizes lawful opening p q → is_watched 1 p.view.memory.since ≡ false
    → p.view.session.held ≡ hold_of claim_grant ∷ [] → is_claimed q.view.memory.since ≡ true
started_by sizes lawful opening p q look none held =
    ap (λ (r : PassState). is_claimed r.view.memory.since) look.pass
    ∙ claimed-right p.view.memory.since (watches_from p.view.session p.view.session.held p.view.memory.since (length q.view.memory.seen)) (started-by p.view.session (length q.view.memory.seen) p.view.memory.since none held)

-- looks one after the other
single-append : (xs ys : List Entry) → AreSingle xs → AreSingle ys → AreSingle (xs ++ ys)
single-append [] ys a b = b
single-append (x ∷ xs) ys a b = (a.0, single-append xs ys a.1 b)

pub keeps_both : (p q r : PassState) → KeepsClaim p q → KeepsClaim q r → KeepsClaim p r
keeps_both p q r a b = record {
  more = a.more ++ b.more;
  seen = b.seen ∙ (ap (λ xs. xs ++ b.more) a.seen ∙ append_assoc p.view.memory.seen a.more b.more);
  single = single-append a.more b.more a.single b.single;
  claimed = b.claimed;
}

-- what changes nothing that is seen, and leaves the claim
pub keeps_beside : (p q : PassState) → q.view.memory.seen ≡ p.view.memory.seen → is_claimed q.view.memory.since ≡ true → KeepsClaim p q
keeps_beside p q seen claimed = record { more = []; seen = seen ∙ sym (append-nil p.view.memory.seen); single = tt; claimed = claimed }

-- a look after what left the memory as it was
pub keeps_after : (p q r : PassState) → q.view.memory ≡ p.view.memory → (is_claimed q.view.memory.since ≡ true → KeepsClaim q r) → is_claimed p.view.memory.since ≡ true → KeepsClaim p r
keeps_after p q r same keeps is =
    let k = keeps (ap (λ (m : Knowledge). is_claimed m.since) same ∙ is) in
    record { more = k.more; seen = k.seen ∙ ap (λ (m : Knowledge). m.seen ++ k.more) same; single = k.single; claimed = k.claimed }

-- a grant on another latch that is given back leaves the claim
claimed-filter : (l : ℕ) (b : Bool) (ss : List Since) → l ≢ 1 → is_claimed (filter (λ (s : Since). not (s.latch == l) || b) ss) ≡ is_claimed ss
claimed-filter l b [] ne = refl
claimed-filter l b (s ∷ ss) ne =
    by_equal (λ t. is_claimed (cond (not t || b) (s ∷ filter (λ (s : Since). not (s.latch == l) || b) ss) (filter (λ (s : Since). not (s.latch == l) || b) ss)) ≡ is_claimed (s ∷ ss)) s.latch l
    (λ e. by_left (ne_eqb s.latch 1 (λ q. ne (sym e ∙ q))) (claimed-filter l b ss ne) b)
    (λ n. ap (λ t. (s.claims && (s.latch == 1)) || t) (claimed-filter l b ss ne))
  where
    and-none : (c : Bool) → (c && false) ≡ false
    and-none true = refl
    and-none false = refl

    by_left : (s.latch == 1) ≡ false → is_claimed (filter (λ (s : Since). not (s.latch == l) || b) ss) ≡ is_claimed ss → (c : Bool)
        → is_claimed (cond c (s ∷ filter (λ (s : Since). not (s.latch == l) || b) ss) (filter (λ (s : Since). not (s.latch == l) || b) ss)) ≡ is_claimed (s ∷ ss)
    by_left none r true = ap (λ t. (s.claims && (s.latch == 1)) || t) r
    by_left none r false = r ∙ ap (λ t. t || is_claimed ss) (sym (ap (λ t. s.claims && t) none ∙ and-none s.claims))

pub claimed_given : (front : List Grant) (g : Grant) (back : List Grant) (p q : PassState) → HasGrants (front ++ g ∷ back) p → IsAway g.latch front → IsAway g.latch back → IsReleasedAt (length front) p q → g.latch ≢ 1
    → is_claimed p.view.memory.since ≡ true → is_claimed q.view.memory.since ≡ true
claimed_given front g back p q has fa ba release ne is =
    ap (λ (r : PassState). is_claimed r.view.memory.since) (released_is front g back p q has fa ba release)
    ∙ (claimed-filter g.latch (nat_lt 0 (holdings g.latch (released_at (length front) (memo_of g) p).view.session)) p.view.memory.since ne ∙ is)
