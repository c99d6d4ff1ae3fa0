-- What the rule says of two sessions: who holds a latch alone, and who bears a number.
use Rattle.std.proofs.Common.{◌≡◌, ◌≢◌, ℕ, ◌<◌, ◌≤◌, true, false, cond, List, [], ◌∷◌, map, refl, sym, ap, ◌∙◌, subst, arith, eq-eqb}
use Rattle.std.specs.Prelude.{◌==◌, nat_lt, sum_by, Option, Some, None}
use Rattle.std.proofs.lemmas.Bool.Decides.{nat_tests}
use mathlib.Core.Logic.{dite}
use mathlib.Core.Option.{some}
use lib.ListN.{get_elem?}
use native.Mathlib.Decide.{ℕ_discrete, dec_lt}
use Rattle.atomic_table.specs.Table.{State}
use Rattle.atomic_table.proofs.Lists.{at_map}
use Rattle.ib_layout.specs.Geometry.{Sizes}
use Rattle.ib_logrec.specs.declared.entry.Entry.{Entry}
use Rattle.ib_core.specs.declared.phase.Phase.{Phase}
use Rattle.ib_core.specs.declared.phase.Phase.TheVariants.{Free}
use Rattle.ib_core.specs.declared.session.Session.{Session}
use Rattle.ib_core.specs.Sessions.{is_next, owned, claims, x_grants, holdings}
use Rattle.ib_core.proofs.OnLatch.{counted}
use Rattle.ib_levels.proofs.Counts.{on-none}
use Rattle.ib_core.proofs.Elements.{one_of, two_of}
use Rattle.ib_rule.specs.declared.view.Role.{Role}
use Rattle.ib_rule.specs.declared.view.Role.TheVariants.{Space, Fresh, Session as Seated, Spent, Note}
use Rattle.ib_rule.specs.declared.view.Ended.{Ended}
use Rattle.ib_rule.specs.declared.memory.OpenAppend.{OpenAppend}
use Rattle.ib_rule.specs.declared.view.View.{View}
use Rattle.std.specs.List.{AllByRecursion}
use Rattle.ib_rule.specs.Memory.{IsAppending}
use Rattle.ib_rule.specs.Roles.{live, bears, is_drawn, drawn_in, ended_in, session_number_of}
use Rattle.ib_rule.specs.Views.{role_of, session_in_view}
use Rattle.ib_rule.specs.Rule.{RuleHolds}

bears_own : (r : Role) → 0 < session_number_of r → bears (session_number_of r) r ≡ 1
bears_own (Space d es) h = absurd (omega arith)
bears_own (Fresh n) h = ap (λ b. cond {A = ℕ} b 1 0) (eq-eqb n n refl)
bears_own (Seated n) h = ap (λ b. cond {A = ℕ} b 1 0) (eq-eqb n n refl)
bears_own Spent h = absurd (omega arith)
bears_own Note h = absurd (omega arith)

once_most : (n d : ℕ) → 0 < n → is_drawn n d ≤ 1
once_most n d h = pick (nat_lt 0 n) (nat_lt d n)
  where
    pick : (a b : _) → cond {A = ℕ} a (cond {A = ℕ} b 0 1) 0 ≤ 1
    pick true true = omega arith
    pick true false = omega arith
    pick false b = omega arith

once_drawn : (n d : ℕ) → 1 ≤ is_drawn n d → n ≤ d
once_drawn n d h = dite (dec_lt d n)
    (λ past. let z : nat_lt d n ≡ true = grind (arith, nat_tests) in let q : is_drawn n d ≡ cond {A = ℕ} (nat_lt 0 n) 0 0 = ap (λ b. cond {A = ℕ} (nat_lt 0 n) (cond {A = ℕ} b 0 1) 0) z in let k = zero (nat_lt 0 n) in absurd (omega arith))
    (λ z. omega arith)
  where
    zero : (b : _) → cond {A = ℕ} b 0 0 ≡ 0
    zero true = refl
    zero false = refl

module _ (lawful : ℕ → List Entry → Type 0) (opening : ℕ → ℕ → ℕ → ℕ) (sizes : Sizes) (s : State (Unit {0}) View) (kept : RuleHolds lawful opening sizes s) where
  -- nobody else holds a latch whose X is owned
  pub alone : (i j : ℕ) (u v : View) → get_elem? s.views i ≡ some u → get_elem? s.views j ≡ some v → i ≢ j → u.session.phase ≡ Free → (l : ℕ) → 0 < x_grants l u.session → holdings l v.session ≡ 0
  alone i j u v d e n free l x =
      let u_at = at_map session_in_view s.views i u d in let v_at = at_map session_in_view s.views j v e in
      let beside = kept.latches.good.beside i j u.session v.session u_at v_at n l in
      let cu = counted l u.session ((kept.latches.good.proper i u.session u_at).single l) in
      let cv = counted l v.session ((kept.latches.good.proper j v.session v_at).single l) in
      let solid = (kept.latches.good.proper j v.session v_at).solid l in
      let owns : owned l u.session ≡ x_grants l u.session = ap (λ (p : Phase). cond (is_next l p) 0 (x_grants l u.session)) free in
      let no_claim = beside.one_claim (omega arith) in let no_read = beside.none_reads (omega arith) in omega arith

  -- nobody else claims a latch that one claims
  pub one_claims : (i j : ℕ) (u v : View) → get_elem? s.views i ≡ some u → get_elem? s.views j ≡ some v → i ≢ j → (l : ℕ) → 0 < claims l u.session → claims l v.session ≡ 0
  one_claims i j u v d e n l c = (kept.latches.good.beside i j u.session v.session (at_map session_in_view s.views i u d) (at_map session_in_view s.views j v e) n l).one_claim c

  -- who owns X holds the latch
  pub holds : (i : ℕ) (u : View) → get_elem? s.views i ≡ some u → (l : ℕ) → 0 < x_grants l u.session → 0 < holdings l u.session
  holds i u d l x = dite (ℕ_discrete (holdings l u.session) 0) (λ z. let none : x_grants l u.session ≡ 0 = on-none l (λ h. h.x) u.session.held z in absurd (omega arith)) (λ z. omega arith)

  -- with the log latch held no other append is open
  pub closed : (i j : ℕ) (u v : View) → get_elem? s.views i ≡ some u → get_elem? s.views j ≡ some v → i ≢ j → 0 < holdings 0 u.session → v.memory.append ≡ None
  closed i j u v d e n held = none v.memory.append (kept.memory.follows j v e).append
    where
      none : (o : Option OpenAppend) → IsAppending sizes (lawful sizes.pages) s.words kept.log (session_number_of v.role) v.session v.memory o → o ≡ None
      none None w = refl
      none (Some o) w = let z = alone j i v u e d (λ k. n (sym k)) w.fits.free 0 w.fits.log_x in absurd (omega arith)

  -- a number is borne is_drawn
  pub apart : (i j : ℕ) (u v : View) → get_elem? s.views i ≡ some u → get_elem? s.views j ≡ some v → i ≢ j → 0 < session_number_of u.role → session_number_of u.role ≢ session_number_of v.role
  apart i j u v d e n some_number same =
      let m : ℕ = session_number_of u.role in
      let roles : List Role = map role_of s.views in
      let two = two_of (bears m) roles i j u.role v.role (at_map role_of s.views i u d) (at_map role_of s.views j v e) n in
      let a = bears_own u.role some_number in
      let b : bears (session_number_of u.role) v.role ≡ 1 = subst (λ k. bears k v.role ≡ 1) (sym same) (bears_own v.role (let z = same in omega arith)) in
      let p = kept.sessions.numbered m in let q = once_most m (sum_by drawn_in roles) some_number in absurd (omega arith)

  pub drawn : (i : ℕ) (u : View) → get_elem? s.views i ≡ some u → 0 < session_number_of u.role → session_number_of u.role ≤ sum_by drawn_in (map role_of s.views)
  drawn i u d some_number =
      let roles : List Role = map role_of s.views in
      let one = one_of (bears (session_number_of u.role)) roles i u.role (at_map role_of s.views i u d) in
      let a = bears_own u.role some_number in let p = kept.sessions.numbered (session_number_of u.role) in
      once_drawn (session_number_of u.role) (sum_by drawn_in roles) (omega arith)

  -- .. and not by a session that has ended
  pub apart_ended : (i j : ℕ) (u v : View) → get_elem? s.views i ≡ some u → get_elem? s.views j ≡ some v → 0 < session_number_of u.role → AllByRecursion (λ e. session_number_of u.role ≢ e.number) (ended_in v.role)
  apart_ended i j u v d e some_number = by_role v.role (at_map role_of s.views j v e)
    where
      each : (m : ℕ) (es : List Ended) → sum_by (λ (e : Ended). cond {A = ℕ} (e.number == m) 1 0) es ≡ 0 → AllByRecursion (λ (e : Ended). m ≢ e.number) es
      each m [] z = tt
      each m (x ∷ es) z = (
        (λ q. let one : cond {A = ℕ} (x.number == m) 1 0 ≡ 1 = ap (λ b. cond {A = ℕ} b 1 0) (eq-eqb x.number m (sym q)) in
            let c = Rattle.std.proofs.lemmas.List.Sums.sum_by-cons (λ (e : Ended). cond {A = ℕ} (e.number == m) 1 0) x es in absurd (omega arith)),
        each m es (let c = Rattle.std.proofs.lemmas.List.Sums.sum_by-cons (λ (e : Ended). cond {A = ℕ} (e.number == m) 1 0) x es in omega arith),
      )

      by_role : (r : Role) → get_elem? (map role_of s.views) j ≡ some r → AllByRecursion (λ e. session_number_of u.role ≢ e.number) (ended_in r)
      by_role (Space k es) at = each (session_number_of u.role) es (
          let m : ℕ = session_number_of u.role in
          let roles : List Role = map role_of s.views in
          let other : i ≢ j = λ here. differ u.role (Space k es) some_number refl (Rattle.ib_core.proofs.Elements.same_at roles j u.role (Space k es) (subst (λ i. get_elem? roles i ≡ some u.role) here (at_map role_of s.views i u d)) at) in
          let two = two_of (bears m) roles i j u.role (Space k es) (at_map role_of s.views i u d) at other in
          let a = bears_own u.role some_number in
          let p = kept.sessions.numbered m in let q = once_most m (sum_by drawn_in roles) some_number in omega arith)
        where
          differ : (r q : Role) → 0 < session_number_of r → session_number_of q ≡ 0 → r ≡ q → ⊥
          differ r q h z same = let e = ap session_number_of same in absurd (omega arith)
      by_role (Fresh n) at = tt
      by_role (Seated n) at = tt
      by_role Spent at = tt
      by_role Note at = tt

  -- a session has a number
  pub number_live : (i : ℕ) (u : View) → get_elem? s.views i ≡ some u → (live u.role ≡ 0 → ⊥) → 0 < session_number_of u.role
  number_live i u d none = by_role u.role refl
    where
      by_role : (r : Role) → u.role ≡ r → 0 < session_number_of r
      by_role (Space k es) is = absurd (none (ap live is))
      by_role (Fresh n) is = absurd (none (ap live is))
      by_role Spent is = absurd (none (ap live is))
      by_role Note is = absurd (none (ap live is))
      by_role (Seated n) is =
          let roles : List Role = map role_of s.views in
          let o = one_of (bears n) roles i u.role (at_map role_of s.views i u d) in let p = kept.sessions.numbered n in
          let b : bears n u.role ≡ 1 = ap (bears n) is ∙ ap (λ b. cond {A = ℕ} b 1 0) (eq-eqb n n refl) in
          dite (ℕ_discrete n 0)
          (λ z. let q : is_drawn n (sum_by drawn_in roles) ≡ 0 = ap (λ (n : ℕ). is_drawn n (sum_by drawn_in roles)) z in absurd (omega arith))
          (λ z. omega arith)

  -- who owns X on the log latch is a session, with a number
  pub numbered : (i : ℕ) (u : View) → get_elem? s.views i ≡ some u → 0 < x_grants 0 u.session → 0 < session_number_of u.role
  numbered i u d x = number_live i u d (λ dead. let z = ap (λ (a : Session). x_grants 0 a) (kept.idles i u d dead) in absurd (omega arith))
