-- After a look at the log's end each latch that is held has a since, and what is harmless writes no page whose latch has one.
use Rattle.std.proofs.Common.{◌≡◌, ◌⊎◌, inl, inr, ⊎_elim, ℕ, ◌+◌, ◌-◌, ◌<◌, Bool, true, false, cond, eqb, eq-eqb, ne_eqb, eqb-true, lt-ltb, List, [], ◌∷◌, ◌++◌, length, refl, sym, ap, ◌∙◌, subst, append-nil, append_assoc, arith}
use Rattle.std.specs.Prelude.{◌||◌, nat_lt}
use Rattle.std.specs.List.{AllByRecursion}
use mathlib.Core.Logic.{dite}
use native.Mathlib.Decide.{ℕ_discrete, dec_lt}
use Rattle.ib_levels.specs.declared.holding.Holding.{Holding}
use Rattle.ib_levels.specs.Holding.{is_held, on}
use Rattle.ib_levels.proofs.Counts.{on-cons, on-none, part-away, unheld_from_none}
use Rattle.ib_core.specs.declared.session.Session.{Session}
use Rattle.ib_core.specs.Sessions.{claims, grants, holdings, idle}
use Rattle.ib_map.specs.Writes.{page_at, touches}
use Rattle.ib_logrec.specs.declared.entry.Entry.{Entry}
use Rattle.ib_logrec.specs.Log.{memory_after}
use Rattle.ib_logrec.proofs.LogLaws.{memory_after-untouched}
use Rattle.ib_rule.specs.declared.memory.Since.{Since}
use Rattle.ib_rule.specs.declared.view.View.{View}
use Rattle.ib_rule.specs.Memory.{conflicts}
use Rattle.ib_rule.specs.Stores.{IsHarmless}
use Rattle.ib_rule.specs.Views.{KnowsHeld, is_watched, reaching, watches_from}
use Rattle.std.specs.Prelude.{filter, not, ◌==◌, Option, Some, None}
use Rattle.ib_levels.specs.declared.level.Mode.{Mode}
use Rattle.ib_levels.specs.declared.level.Mode.TheVariants.{S, Sx, X}
use Rattle.ib_word.specs.Word.{word_in}
use Rattle.ib_core.specs.declared.event.Event.{Event}
use Rattle.ib_core.specs.Debts.{grants_won, wish_of, won}
use Rattle.ib_core.specs.Good.{IsProper}
use Rattle.ib_core.specs.Responses.{Response, latch_of}
use Rattle.ib_core.specs.Table.{response_of}
use Rattle.ib_core.specs.Turns.{marks_found}
use Rattle.ib_core.proofs.Near.{Near, all_grants, near_response}
use Rattle.ib_core.proofs.Pays.{Grows, response_pays, spent_by}
use Rattle.ib_rule.specs.declared.looks.Grants.{Grants}
use Rattle.ib_rule.specs.declared.looks.Looks.{Looks}
use Rattle.ib_rule.specs.Pass.{IsWatching}
use Rattle.ib_rule.specs.Views.{total, turned, with_grant, with_looks}
use Rattle.ib_rule.proofs.Lists.{or_denies, or_says}

pub either_true : {c : Bool} (b : Bool) → c ≡ true → (b || c) ≡ true
either_true true is = refl
either_true false is = is

joined : (l : ℕ) (ss ts : List Since) → (is_watched l ss ≡ true) ⊎ (is_watched l ts ≡ true) → is_watched l (ss ++ ts) ≡ true
joined l [] ts either = ⊎_elim (λ z. absurd (cc)) (λ z. z) either
joined l (s ∷ ss) ts either = ⊎_elim
    (λ z. ⊎_elim (λ here. ap (λ b. b || is_watched l (ss ++ ts)) here) (λ there. either_true (eqb s.latch l) (joined l ss ts (inl there))) (or_says (eqb s.latch l) (is_watched l ss) z))
    (λ z. either_true (eqb s.latch l) (joined l ss ts (inr z)))
    either

module _ (a : Session) (n : ℕ) (ss : List Since) where
  started : (l : ℕ) (hs : List Holding) → 0 < on l (λ h. 1) hs → (is_watched l ss ≡ true) ⊎ (is_watched l (watches_from a hs ss n) ≡ true)
  started l [] some = absurd (omega arith)
  started l (h ∷ hs) some = dite (ℕ_discrete h.latch.0 l)
      (λ here. by_test here (is_watched h.latch.0 ss) refl)
      (λ away. ⊎_elim (λ z. inl z) (λ z. inr (later (is_watched h.latch.0 ss) z)) (started l hs (let c = on-cons l (λ h. 1) h hs in let p = part-away l (λ h. 1) h away in omega arith)))
    where
      by_test : h.latch.0 ≡ l → (b : Bool) → is_watched h.latch.0 ss ≡ b → (is_watched l ss ≡ true) ⊎ (is_watched l (cond b (watches_from a hs ss n) (record { latch = h.latch.0; claims = nat_lt 0 (claims h.latch.0 a); place = n } ∷ watches_from a hs ss n)) ≡ true)
      by_test here true is = inl (subst (λ k. is_watched k ss ≡ true) here is)
      by_test here false is = inr (ap (λ b. b || is_watched l (watches_from a hs ss n)) (eq-eqb h.latch.0 l here))

      later : (b : Bool) → is_watched l (watches_from a hs ss n) ≡ true → is_watched l (cond b (watches_from a hs ss n) (record { latch = h.latch.0; claims = nat_lt 0 (claims h.latch.0 a); place = n } ∷ watches_from a hs ss n)) ≡ true
      later true z = z
      later false z = either_true (eqb h.latch.0 l) z

pub watched_after : (log : List Entry) (v : View) (l : ℕ) → 0 < holdings l v.session → is_watched l (reaching log v).memory.since ≡ true
watched_after log v l held = joined l v.memory.since (watches_from v.session v.session.held v.memory.since (length log)) (started v.session (length log) v.memory.since l v.session.held held)

-- an entry that does not conflict with a latch that has a since writes no word of the latch's page
calm_page : (e : Entry) (s : Since) (page : ℕ) → s.latch ≡ page + 2 → conflicts e s ≡ false → touches page e.writes ≡ false
calm_page e s page at calm =
    let no : eqb s.latch 0 ≡ false = ne_eqb s.latch 0 (λ z. omega arith) in
    let yes : nat_lt 1 s.latch ≡ true = lt-ltb 1 s.latch (omega arith) in
    let same : s.latch - 2 ≡ page = omega arith in
    first_no (touches page e.writes) _ (rw (no, yes, same) at calm)
  where
    first_no : (t r : Bool) → (t || r) ≡ false → t ≡ false
    first_no false r is = refl
    first_no true r is = is

untouched_by : (e : Entry) (page : ℕ) (ss : List Since) → is_watched (page + 2) ss ≡ true → AllByRecursion (λ s. conflicts e s ≡ false) ss → touches page e.writes ≡ false
untouched_by e page [] is calm = cc
untouched_by e page (s ∷ ss) is calm = ⊎_elim
    (λ here. calm_page e s page (eqb-true s.latch (page + 2) here) calm.0)
    (λ there. untouched_by e page ss there calm.1)
    (or_says (eqb s.latch (page + 2)) (is_watched (page + 2) ss) is)

-- harmless entries write no word of a page whose latch is watched
pub untouched : (n page : ℕ) (ss : List Since) (others : List Entry) → is_watched (page + 2) ss ≡ true → AllByRecursion (IsHarmless n ss) others → AllByRecursion (λ e. touches page e.writes ≡ false) others
untouched n page ss [] is harmless = tt
untouched n page ss (e ∷ es) is harmless = (untouched_by e page ss is harmless.0.1, untouched n page ss es is harmless.1)

-- .. so its words stay
pub word_stays : (opening : ℕ → ℕ) (seen others : List Entry) (place : ℕ) → AllByRecursion (λ e. touches (page_at place) e.writes ≡ false) others → memory_after opening (seen ++ others) place ≡ memory_after opening seen place
word_stays opening seen [] place none = ap (λ log. memory_after opening log place) (append-nil seen)
word_stays opening seen (e ∷ es) place none =
    ap (λ log. memory_after opening log place) (sym (append_assoc seen (e ∷ []) es))
    ∙ (word_stays opening (seen ++ e ∷ []) es place none.1 ∙ memory_after-untouched opening seen e place none.0)

-- a since of a latch that is held stays when what belongs to another one ends
module _ (k l : ℕ) (a : Session) (held : 0 < holdings k a) where
  abbrev stays : Since → Bool
  stays s = not (s.latch == l) || nat_lt 0 (holdings l a)

  not_away : (n : ℕ) (b : Bool) → (n == l) ≡ b → not b ≡ false → n ≡ l
  not_away n true is none = eqb-true n l is
  not_away n false is none = absurd (cc)

  its_own : (s : Since) → s.latch ≡ k → stays s ≡ false → ⊥
  its_own s here ends =
      let parts = or_denies (not (s.latch == l)) (nat_lt 0 (holdings l a)) ends in
      let there : s.latch ≡ l = not_away s.latch (s.latch == l) refl parts.0 in
      let some : nat_lt 0 (holdings l a) ≡ true = lt-ltb 0 (holdings l a) (subst (λ n. 0 < holdings n a) (sym here ∙ there) held) in
      let none = parts.1 in absurd (cc)

  one_stays : (s : Since) (ss rest : List Since) (b : Bool) → stays s ≡ b → is_watched k (s ∷ ss) ≡ true → (is_watched k ss ≡ true → is_watched k rest ≡ true) → is_watched k (cond b (s ∷ rest) rest) ≡ true
  one_stays s ss rest true keeps is later = ⊎_elim (λ here. ap (λ b. b || is_watched k rest) here) (λ there. either_true (eqb s.latch k) (later there)) (or_says (eqb s.latch k) (is_watched k ss) is)
  one_stays s ss rest false ends is later = ⊎_elim (λ here. absurd (its_own s (eqb-true s.latch k here) ends)) (λ there. later there) (or_says (eqb s.latch k) (is_watched k ss) is)

  still_watched : (ss : List Since) → is_watched k ss ≡ true → is_watched k (filter (λ since. not (since.latch == l) || nat_lt 0 (holdings l a)) ss) ≡ true
  still_watched [] is = is
  still_watched (s ∷ ss) is = one_stays s ss (filter (λ since. not (since.latch == l) || nat_lt 0 (holdings l a)) ss) (stays s) refl is (λ there. still_watched ss there)

positive : (n m : ℕ) → (n ≡ 0 → m ≡ 0) → 0 < m → 0 < n
positive n m none some = dite (dec_lt 0 n) (λ yes. yes) (λ no. let zero : n ≡ 0 = omega arith in let z = none zero in absurd (omega arith))

total_more : (mode : Mode) (g : Grants) → total (with_grant (Some mode) g) ≡ total g + 1
total_more S g = omega arith
total_more Sx g = omega arith
total_more X g = omega arith

-- what is watched is watched by the grants, the session and the since alone
pub watching_same : (n : ℕ) (v w : View) → w.grants ≡ v.grants → w.session ≡ v.session → w.memory.since ≡ v.memory.since → IsWatching n v → IsWatching n w
watching_same n v w grants session since is = record {
  before = let t = ap total grants in let b = is.before in omega arith;
  all = λ same k held. subst (λ ss. is_watched k ss ≡ true) (sym since) (is.all (same ∙ ap total grants) k (subst (λ a. 0 < holdings k a) session held));
}

-- after a look at the log's end
pub watching_all : (log : List Entry) (v : View) → IsWatching (total v.grants) (reaching log v)
watching_all log v = record { before = omega arith; all = λ _ k held. watched_after log v k held }

pub watched_there : (n : ℕ) (v : View) (l : ℕ) → IsWatching n v → n ≡ total v.grants → is_held l v.session.held ≡ true → is_watched l v.memory.since ≡ true
watched_there n v l is same held = is.all same l
    (dite (dec_lt 0 (holdings l v.session)) (λ yes. yes) (λ no. let none : holdings l v.session ≡ 0 = omega arith in let un = unheld_from_none l v.session.held none in absurd (cc)))

-- a turn takes a grant, and then there is one since the look, or nothing is held that was not
pub watching_turned : (n word : ℕ) (v : View) (e : Event) (looks : Looks) → IsProper v.session → IsProper (turned e word v).session → IsWatching n v → IsWatching n (with_looks looks (turned e word v))
watching_turned n word v e looks proper after w = by_grant (won r.answer (wish_of v.session.phase e)) refl
  where
    r : Response
    r = response_of (word_in word) (marks_found word) e v.session

    near : Near (latch_of e) v.session.held r.session.held
    near = near_response v.session proper.single (word_in word) (marks_found word) e

    grows : Grows (latch_of e) v.session.held v.session.phase (wish_of v.session.phase e) (spent_by v.session.phase e) r
    grows = response_pays (word_in word) (marks_found word) e v.session proper

    held_before : won r.answer (wish_of v.session.phase e) ≡ None → (k : ℕ) → 0 < holdings k r.session → 0 < holdings k v.session
    held_before none k held = dite (ℕ_discrete (latch_of e) k)
        (λ here. subst (λ k. 0 < holdings k r.session → 0 < holdings k v.session) here
        (λ held. positive (holdings (latch_of e) v.session) (grants (latch_of e) v.session) (on-none (latch_of e) all_grants v.session.held)
        (let few = grows.few in let won_none = ap grants_won none in let solid = after.solid (latch_of e) in omega arith)) held)
        (λ away. subst (λ n. 0 < n) (near.away k away (λ h. 1)) held)

    by_grant : (o : Option Mode) → won r.answer (wish_of v.session.phase e) ≡ o → IsWatching n (with_looks looks (turned e word v))
    by_grant (Some mode) wins =
        let more : total (turned e word v).grants ≡ total v.grants + 1 = ap (λ o. total (with_grant o v.grants)) wins ∙ total_more mode v.grants in
        let few = w.before in record { before = omega arith; all = λ is. absurd (omega arith) }
    by_grant None none =
        let same : total (turned e word v).grants ≡ total v.grants = ap (λ o. total (with_grant o v.grants)) none in
        let few = w.before in record {
          before = omega arith;
          all = λ is k held. still_watched k (latch_of e) r.session held v.memory.since (w.all (is ∙ same) k (held_before none k held));
        }

-- a session that holds nothing watches nothing
pub none_watched : (v : View) → KnowsHeld v → v.session ≡ idle → v.memory.since ≡ []
none_watched v known is = none v.memory.since (subst (λ (a : Session). AllByRecursion (λ since. 0 < holdings since.latch a) v.memory.since) is known.since)
  where
    none : (ws : List Since) → AllByRecursion (λ since. 0 < holdings since.latch idle) ws → ws ≡ []
    none [] all = refl
    none (w ∷ ws) all = absurd (let z = all.0 in omega arith)
