-- Which wish a good state grants: the one that goes with the holders.
use Rattle.std.proofs.Common.{◌≡◌, ◌≢◌, ◌↔◌, ℕ, ◌<◌, ◌≤◌, ◌⊎◌, inl, inr, ⊎_elim, Bool, true, false, cond, IsTrue, ℤ, pos, ◌-ℤ◌, List, ap, ◌∙◌, refl, sym, subst, arith}
use Rattle.std.specs.List.{sum_by}
use Rattle.std.specs.Prelude.{if◌then◌else◌}
use mathlib.Core.Logic.{dite}
use native.Mathlib.Decide.{ℕ_discrete}
use Rattle.ib_word.specs.declared.word.TheConstants.{X_LOCK_DECR, MOST_READERS}
use Rattle.ib_levels.specs.declared.level.Level.{Level}
use Rattle.ib_levels.specs.declared.level.Mode.{Mode}
use Rattle.ib_levels.specs.declared.level.Mode.TheVariants.{S, Sx, X}
use Rattle.ib_levels.specs.declared.holding.Holding.{Holding}
use Rattle.ib_levels.specs.Holding.{changed_on}
use Rattle.ib_core.specs.declared.phase.Phase.TheVariants.{Free}
use Rattle.ib_core.specs.declared.event.Answer.{Answer}
use Rattle.ib_core.specs.declared.event.Answer.TheVariants.{Granted, Busy}
use Rattle.ib_core.specs.declared.session.Session.{Session}
use Rattle.ib_core.specs.declared.session.Marks.{Marks}
use Rattle.ib_core.specs.Sessions.{Stands, is_next, claims, sx_grants, x_grants, owned, all_taken, word_on, readers_of}
use Rattle.ib_core.specs.Good.{IsProper, IsGood}
use Rattle.ib_core.specs.Holders.{CanWish, IsFreeOfX, IsFreeOfClaims, IsGrantable, IsTaken, OwnsSx, OwnsX}
use Rattle.ib_word.specs.Word.{is_drained}
use Rattle.ib_core.specs.Responses.{Response, is_above_0}
use Rattle.ib_core.specs.Takings.{first, first_response, first_weight, holding_too, is_given_at, level_on, one_more, reserving, wish}
use Rattle.ib_core.specs.Table.{response_of}
use Rattle.ib_core.proofs.Grown.{owned_le}
use Rattle.ib_core.proofs.InWords.{nobody_against}
use Rattle.ib_core.proofs.Kept.{next_has_x}
use Rattle.ib_core.proofs.NumberTests.{if_true, if_false}
use Rattle.ib_core.proofs.OnLatch.{counted}
use Rattle.ib_core.proofs.Elements.{all_zero, same_at}
use Rattle.ib_core.proofs.Totals.{nobody_x, nobody_claims, few_taken, refused_wish}
use Rattle.ib_core.proofs.Turned.{choose}
use Rattle.ib_core.proofs.Wishes.{at_free, first_wish, sx_further, x_further, x_upgrade}
use Rattle.ib_core.proofs.WordTests.{above_0, above_half, not_above_0, not_above_half}

-- the answer to a wish that is taken
reserving_taken : (l : ℕ) (v : Level) (w : ℤ) (held : List Holding) → IsTaken (reserving l v w held).answer
reserving_taken l v w held = choose (λ (r : Response). IsTaken r.answer) (is_drained w) _ _ (λ _. inl refl) (λ _. inr refl)

first_taken : (mode : Mode) (l : ℕ) (v : Level) (w : ℤ) (held : List Holding) → IsTaken (first_response mode l v w held).answer
first_taken S l v w held = inl refl
first_taken Sx l v w held = inl refl
first_taken X l v w held = reserving_taken l v w held

module _ (m : ℕ → Marks) (ss : List Session) (good : IsGood ss m) (l : ℕ) where
  one : (i j : ℕ) (a b : Session) → Stands ss i a → Stands ss j b → i ≢ j → 0 < claims l a → claims l b ≡ 0
  one i j a b e d n = (good.beside i j a b e d n l).one_claim

  -- nobody with X owns it or is the next writer
  free_of_x : ((j : ℕ) (b : Session) → Stands ss j b → x_grants l b ≡ 0) → IsFreeOfX l ss
  free_of_x none = record {
    no_owner = λ i a at has. let z = none i a at in not_owned (is_next l a.phase) a z has;
    no_next = λ i a at next. let x = next_has_x l a.phase a next (good.proper i a at).suits in let z = none i a at in omega arith;
  }
    where
      not_owned : (b : Bool) (a : Session) → x_grants l a ≡ 0 → 0 < cond b 0 (x_grants l a) → ⊥
      not_owned true a z has = omega arith
      not_owned false a z has = omega arith

  free_of_claims : ((j : ℕ) (b : Session) → Stands ss j b → claims l b ≡ 0) → IsFreeOfClaims l ss
  free_of_claims none = record {
    no_x = free_of_x (λ j b e. let z = none j b e in let c = counted l b ((good.proper j b e).single l) in omega arith);
    no_sx = λ i a at has. let z = none i a at in let c = counted l a ((good.proper i a at).single l) in omega arith;
  }

  grantable_where : (mode : Mode) → is_given_at mode (word_on l ss) ≡ true → IsGrantable mode l ss
  grantable_where S given = free_of_x (nobody_x l ss good.proper one (above_0 (all_taken l ss) given))
  grantable_where Sx given = free_of_claims (nobody_claims l ss good.proper one (above_half (all_taken l ss) given))
  grantable_where X given = free_of_claims (nobody_claims l ss good.proper one (above_half (all_taken l ss) given))

  not_refused : readers_of l ss ≤ MOST_READERS → (mode : Mode) → IsGrantable mode l ss → is_given_at mode (word_on l ss) ≡ false → ⊥
  not_refused few S grantable refuses = let full = not_above_0 (all_taken l ss) refuses in let against = refused_wish l ss good.proper one few S (λ _. full) (omega arith) in let none = nobody_against m ss good l S grantable in omega arith
  not_refused few Sx grantable refuses = let half = not_above_half (all_taken l ss) refuses in let against = refused_wish l ss good.proper one few Sx (λ z. absurd (cc)) half in let none = nobody_against m ss good l Sx grantable in omega arith
  not_refused few X grantable refuses = let half = not_above_half (all_taken l ss) refuses in let against = refused_wish l ss good.proper one few X (λ z. absurd (cc)) half in let none = nobody_against m ss good l X grantable in omega arith

  given_where : readers_of l ss ≤ MOST_READERS → (mode : Mode) → IsGrantable mode l ss → is_given_at mode (word_on l ss) ≡ true
  given_where few mode grantable = by_test (is_given_at mode (word_on l ss)) refl
    where
      by_test : (b : Bool) → is_given_at mode (word_on l ss) ≡ b → is_given_at mode (word_on l ss) ≡ true
      by_test true e = e
      by_test false e = absurd (not_refused few mode grantable e)

  pub given_as_grantable : readers_of l ss ≤ MOST_READERS → (mode : Mode) → IsTrue (is_given_at mode (word_on l ss)) ↔ IsGrantable mode l ss
  given_as_grantable few mode = (grantable_where mode, given_where few mode)

  module _ (i : ℕ) (a : Session) (at : Stands ss i a) (v : Level) where
    -- the answer to a first wish
    first_answer : (mode : Mode) → CanWish l v a → (b : Bool) → is_given_at mode (word_on l ss) ≡ b
        → Path Answer (response_of (word_on l ss) (m l) (wish mode l v) a).answer (if b then first_response mode l v (word_on l ss -ℤ pos (first_weight mode)) (holding_too mode l v a.held) else record { answer = Busy (record { 0 = word_on l ss }); session = a }).answer
    first_answer mode can b is =
        ap (λ (a : Session). (response_of (word_on l ss) (m l) (wish mode l v) a).answer) (at_free a can.free)
        ∙ (ap (λ (r : Response). r.answer) (first_wish l a.held (word_on l ss) (m l) mode v can.none can.allowed)
        ∙ by_test b is)
      where
        by_test : (b : Bool) → is_given_at mode (word_on l ss) ≡ b → Path Answer (first mode l v Free (word_on l ss) a.held).answer (if b then first_response mode l v (word_on l ss -ℤ pos (first_weight mode)) (holding_too mode l v a.held) else record { answer = Busy (record { 0 = word_on l ss }); session = a }).answer
        by_test true is = ap (λ (r : Response). r.answer) (if_true (is_given_at mode (word_on l ss)) _ _ is)
        by_test false is = ap (λ (r : Response). r.answer) (if_false (is_given_at mode (word_on l ss)) _ _ is)

    pub wish_given : readers_of l ss ≤ MOST_READERS → (mode : Mode) → CanWish l v a → IsGrantable mode l ss → IsTaken (response_of (word_on l ss) (m l) (wish mode l v) a).answer
    wish_given few mode can grantable =
        subst (λ (answer : Answer). IsTaken answer) (sym (first_answer mode can true (given_where few mode grantable)))
        (first_taken mode l v (word_on l ss -ℤ pos (first_weight mode)) (holding_too mode l v a.held))

    pub wish_refused : (mode : Mode) → CanWish l v a → ¬ IsGrantable mode l ss → (response_of (word_on l ss) (m l) (wish mode l v) a).answer ≡ Busy (record { 0 = word_on l ss })
    wish_refused mode can not_so = first_answer mode can false (refuses (is_given_at mode (word_on l ss)) refl)
      where
        refuses : (b : Bool) → is_given_at mode (word_on l ss) ≡ b → is_given_at mode (word_on l ss) ≡ false
        refuses true e = absurd (not_so (grantable_where mode e))
        refuses false e = e

    -- who owns SX or X has a claim, and with X a grant of X
    claims_of : OwnsSx l a ⊎ OwnsX l a → 0 < claims l a
    claims_of owns = let c = counted l a ((good.proper i a at).single l) in ⊎_elim (λ (has : 0 < sx_grants l a). omega arith) (λ (has : 0 < owned l a). let o = owned_le l a in omega arith) owns

    pub sx_never_busy : a.phase ≡ Free → OwnsSx l a ⊎ OwnsX l a → (response_of (word_on l ss) (m l) (wish Sx l v) a).answer ≡ Granted
    sx_never_busy free owns =
        let is = at_free a free in
        ap (λ (a : Session). (response_of (word_on l ss) (m l) (wish Sx l v) a).answer) is
        ∙ ap (λ (r : Response). r.answer) (sx_further l a.held (word_on l ss) (subst IsProper is (good.proper i a at)) v (claims_of owns))

    -- beside an owner of SX alone the word is above 0
    up : readers_of l ss ≤ MOST_READERS → 0 < sx_grants l a → x_grants l a ≡ 0 → is_above_0 (word_on l ss) ≡ true
    up few has no_x = by_test (is_above_0 (word_on l ss)) refl
      where
        none : sum_by (x_grants l) ss ≡ 0
        none = all_zero (x_grants l) ss (λ j b e. dite (ℕ_discrete i j)
            (λ q. subst (λ (b : Session). x_grants l b ≡ 0) (same j b e q) no_x)
            (λ n. let c = counted l a ((good.proper i a at).single l) in let z = one i j a b at e n (omega arith) in let d = counted l b ((good.proper j b e).single l) in omega arith))
          where
            same : (j : ℕ) (b : Session) → Stands ss j b → i ≡ j → a ≡ b
            same j b e q = same_at ss j a b (subst (λ j. Stands ss j a) q at) e

        by_test : (b : Bool) → is_above_0 (word_on l ss) ≡ b → is_above_0 (word_on l ss) ≡ true
        by_test true e = e
        by_test false e = let full = not_above_0 (all_taken l ss) e in let t = few_taken l ss good.proper one none in absurd (omega arith)

    pub x_never_busy : readers_of l ss ≤ MOST_READERS → a.phase ≡ Free → OwnsSx l a ⊎ OwnsX l a → IsTaken (response_of (word_on l ss) (m l) (wish X l v) a).answer
    x_never_busy few free owns =
        let is = at_free a free in let proper = subst IsProper is (good.proper i a at) in let claim = claims_of owns in
        let c = counted l a ((good.proper i a at).single l) in
        subst (λ (a : Session). IsTaken (response_of (word_on l ss) (m l) (wish X l v) a).answer) (sym is)
        (dite (ℕ_discrete (x_grants l a) 0)
        (λ no_x.
        let has : 0 < sx_grants l a = omega arith in
        subst (λ (r : Response). IsTaken r.answer) (sym (x_upgrade l a.held (word_on l ss) proper v has no_x (up few has no_x))) (reserving_taken l (level_on l v a.held) (word_on l ss -ℤ pos X_LOCK_DECR) (changed_on l (one_more X) a.held)))
        (λ n. subst (λ (r : Response). IsTaken r.answer) (sym (x_further l a.held (word_on l ss) proper v (omega arith))) (inl refl)))
