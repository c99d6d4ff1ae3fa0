-- What a look at the log's end tells: what others appended since the last look is harmless.
use Rattle.std.proofs.Common.{◌<◌, ◌≤◌, arith, ◌≡◌, ◌≢◌, ◌⊎◌, ⊎_elim, ℕ, Bool, true, false, cond, eqb, eq-eqb, List, [], ◌∷◌, ◌++◌, drop, length, refl, sym, ap, ◌∙◌, subst}
use Rattle.std.specs.List.{AllByRecursion}
use Rattle.std.proofs.lemmas.List.Elements.{filter-append}
use mathlib.Core.List.{IsPrefix}
use Rattle.ib_layout.specs.Geometry.{Sizes}
use Rattle.ib_logrec.specs.Log.{used}
use Rattle.ib_logrec.specs.declared.entry.Entry.{Entry}
use Rattle.ib_rule.specs.declared.memory.Since.{Since}
use Rattle.ib_rule.specs.declared.view.View.{View}
use Rattle.ib_rule.specs.Memory.{conflicts, entries_of, SinceFact}
use Rattle.ib_rule.specs.Roles.{session_number_of}
use Rattle.ib_rule.specs.Stores.{IsHarmless, IsLook, ShowsSeen, ShowsWholeLog}
use Rattle.ib_rule.proofs.Lists.{each_all, each_both, each_right, drop_front, nil_rest}

of_others : (n : ℕ) (es : List Entry) → entries_of n es ≡ [] → AllByRecursion (λ e. e.session ≢ n) es
of_others n [] none = tt
of_others n (e ∷ es) none = pick (eqb e.session n) refl none (λ z. of_others n es z)
  where
    pick : (b : Bool) → eqb e.session n ≡ b → cond b (e ∷ entries_of n es) (entries_of n es) ≡ [] → (entries_of n es ≡ [] → AllByRecursion (λ e. e.session ≢ n) es) → AllByRecursion (λ e. e.session ≢ n) (e ∷ es)
    pick true z none rest = absurd (cc)
    pick false z none rest = ((λ q. let y : true ≡ false = sym (eq-eqb e.session n q) ∙ z in absurd (cc)), rest none)

-- what a look tells of a log of which what was seen is a front
pub record Shows (sizes : Sizes) (lawful : List Entry → Type 0) (v : View) (log : List Entry) : Type 0 where
  pub longer : IsPrefix v.memory.seen log
  pub legal : lawful log
  pub room : used log ≤ sizes.log_words
  pub mine : (entries_of (session_number_of v.role) log ≡ v.memory.own) × (entries_of (session_number_of v.role) v.memory.seen ≡ v.memory.own)
  pub since : AllByRecursion (SinceFact (session_number_of v.role) v.session (length v.memory.seen) log) v.memory.since

module _ (sizes : Sizes) (lawful : List Entry → Type 0) (v : View) (log : List Entry) (w : Shows sizes lawful v log) where
  nobody : entries_of (session_number_of v.role) w.longer.0 ≡ []
  nobody =
      let n : ℕ = session_number_of v.role in
      let p = w.longer in let q = w.mine in
      let split : entries_of n v.memory.seen ++ entries_of n p.0 ≡ entries_of n v.memory.seen =
      sym (filter-append (λ (e : Entry). eqb e.session n) v.memory.seen p.0) ∙ (ap (entries_of n) p.1 ∙ (q.0 ∙ sym q.1)) in
      nil_rest (entries_of n v.memory.seen) (entries_of n p.0) split

  calm : (ss : List Since) → AllByRecursion (SinceFact (session_number_of v.role) v.session (length v.memory.seen) log) ss → AllByRecursion (λ e. AllByRecursion (λ s. conflicts e s ≡ false) ss) w.longer.0
  calm [] p = each_all (λ e. AllByRecursion (λ s. conflicts e s ≡ false) []) w.longer.0 (λ _. tt)
  calm (s ∷ ss) p =
      let fact = p.0 in
      let d : drop s.place log ≡ drop s.place v.memory.seen ++ w.longer.0 = ap (drop s.place) (sym w.longer.1) ∙ drop_front v.memory.seen w.longer.0 s.place fact.1 in
      let each = each_right (λ (e : Entry). (e.session ≡ session_number_of v.role) ⊎ (conflicts e s ≡ false)) (drop s.place v.memory.seen) w.longer.0 (subst (λ l. AllByRecursion (λ (e : Entry). (e.session ≡ session_number_of v.role) ⊎ (conflicts e s ≡ false)) l) d fact.2) in
      let one = each_both (λ (e : Entry). e.session ≢ session_number_of v.role) (λ (e : Entry). (e.session ≡ session_number_of v.role) ⊎ (conflicts e s ≡ false)) (λ (e : Entry). conflicts e s ≡ false) w.longer.0
      (λ e apart either. ⊎_elim (λ z. absurd (apart z)) (λ z. z) either) (of_others (session_number_of v.role) w.longer.0 nobody) each in
      each_both (λ (e : Entry). conflicts e s ≡ false) (λ (e : Entry). AllByRecursion (λ s. conflicts e s ≡ false) ss) (λ (e : Entry). AllByRecursion (λ s. conflicts e s ≡ false) (s ∷ ss)) w.longer.0 (λ e a b. (a, b)) one (calm ss p.1)

  -- what others appended since the last look is harmless
  pub looked_at : IsLook sizes lawful v log
  looked_at = record {
    others = w.longer.0;
    longer = w.longer.1;
    harmless = each_both (λ (e : Entry). e.session ≢ session_number_of v.role) (λ (e : Entry). AllByRecursion (λ s. conflicts e s ≡ false) v.memory.since) (IsHarmless (session_number_of v.role) v.memory.since) w.longer.0 (λ e a b. (a, b)) (of_others (session_number_of v.role) w.longer.0 nobody) (calm v.memory.since w.since);
    legal = w.legal;
    room = w.room;
    mine = w.mine.0;
  }

-- a look at the log's end
pub looked : (sizes : Sizes) (lawful : List Entry → Type 0) (opening : ℕ → ℕ) (v : View) (found : ℕ) (log : List Entry) → ShowsWholeLog sizes lawful opening v found log → IsLook sizes lawful v log
looked sizes lawful opening v found log w = looked_at sizes lawful v log (record { longer = w.longer; legal = w.legal; room = w.room; mine = w.mine; since = w.since })

-- two looks at the table, between which more was seen
pub looked_twice : (sizes : Sizes) (lawful : List Entry → Type 0) (v w : View) → w.role ≡ v.role → w.session ≡ v.session → w.memory.own ≡ v.memory.own → w.memory.since ≡ v.memory.since → 0 < session_number_of v.role
    → ShowsSeen sizes lawful v → ShowsSeen sizes lawful w → IsPrefix v.memory.seen w.memory.seen → IsLook sizes lawful v w.memory.seen
looked_twice sizes lawful v w role session own since some before after longer =
    let n : session_number_of w.role ≡ session_number_of v.role = ap session_number_of role in
    looked_at sizes lawful v w.memory.seen (record {
      longer = longer;
      legal = after.legal;
      room = after.room;
      mine = (subst (λ k. entries_of k w.memory.seen ≡ v.memory.own) n (after.mine (let m = n in omega arith) ∙ own), before.mine some);
      since = each_both (SinceFact (session_number_of v.role) v.session (length v.memory.seen) v.memory.seen) (SinceFact (session_number_of v.role) v.session (length w.memory.seen) w.memory.seen)
          (SinceFact (session_number_of v.role) v.session (length v.memory.seen) w.memory.seen) v.memory.since (λ x a b. (a.0, a.1, b.2)) before.since
          (subst (λ k. AllByRecursion (SinceFact k v.session (length w.memory.seen) w.memory.seen) v.memory.since) n
          (subst (λ a. AllByRecursion (SinceFact (session_number_of w.role) a (length w.memory.seen) w.memory.seen) v.memory.since) session
          (subst (λ ss. AllByRecursion (SinceFact (session_number_of w.role) w.session (length w.memory.seen) w.memory.seen) ss) since after.since)));
    })
