-- Each event leads from a good state to a good state: the rows of the table, one after another.
use Rattle.std.proofs.Common.{◌≡◌, ◌≢◌, ℕ, ◌+◌, ◌<◌, ◌⊎◌, inl, inr, ⊎_elim, Bool, true, false, cond, pos, ◌-ℤ◌, ◌+ℤ◌, List, set, Option, Some, None, refl, sym, ap, ◌∙◌, subst, eq-eqb, arith}
use Rattle.std.specs.Prelude.{◌==◌, nat_lt, if◌then◌else◌}
use Rattle.ib_word.specs.declared.word.TheConstants.{X_LOCK_DECR, X_LOCK_HALF_DECR}
use Rattle.std.proofs.lemmas.Int.{ints}
use Rattle.ib_word.specs.Weight.{weight, x_weight}
use Rattle.ib_word.proofs.Equation.{sx_weight_cases}
use Rattle.ib_levels.specs.declared.holding.Holding.{Holding}
use Rattle.ib_levels.specs.declared.level.Level.{Level}
use Rattle.ib_levels.specs.declared.level.Mode.{Mode}
use Rattle.ib_levels.specs.declared.level.Mode.TheVariants.{S as ModeS, Sx as ModeSx, X as ModeX}
use Rattle.ib_levels.specs.Level.{MayFollowAll, first_against}
use Rattle.ib_levels.specs.Listed.{answer_to, refused_by}
use Rattle.ib_levels.specs.Holding.{is_held, levels_of, changed_on, without_latch}
use Rattle.ib_levels.proofs.Counts.{none_from_unheld, unheld_from_none, on-without, by_equal}
use Rattle.ib_levels.proofs.Orderly.{may_from_none}
use Rattle.ib_core.specs.declared.phase.Phase.{Phase}
use Rattle.ib_core.specs.declared.phase.Phase.TheVariants.{Free, OwesLook, OwesRaiseEx}
use Rattle.ib_core.specs.declared.session.Session.{Session}
use Rattle.ib_core.specs.declared.session.Marks.{Marks}
use Rattle.ib_core.specs.Sessions.{Stands, HasFewReaders, word_on, all_taken, taken, holdings, reads, claims, x_grants, sx_grants}
use Rattle.ib_core.specs.Takings.{first, is_given_at, upgrade, taking_s, taking_sx, taking_x, giving_s, giving_sx, giving_x, if_allowed, one_fewer, level_on}
use Rattle.ib_word.specs.Word.{is_drained}
use Rattle.ib_core.specs.Responses.{Response, is_above_0}
use Rattle.ib_core.specs.Table.{arming}
use Rattle.ib_core.specs.Good.{IsProper, IsGood}
use Rattle.ib_core.proofs.Elements.{sum_at, one_of, set_again}
use Rattle.ib_core.proofs.Quiet.{at_itself}
use Rattle.ib_core.proofs.OnLatch.{counted}
use Rattle.ib_core.proofs.Weighs.{reads_none, read_weighs}
use Rattle.ib_core.proofs.WordTests.{above_0, above_half, more_taken, drained, not_drained}
use Rattle.ib_core.proofs.Phased.{with_phase}
use Rattle.ib_core.proofs.Waiting.{OwesNothing, nothing_free, arms}
use Rattle.ib_core.proofs.Firsts.{takes_s, takes_sx, takes_x_alone, takes_x_next}
use Rattle.ib_core.proofs.Further.{takes_further_sx, takes_further_x, upgrades_alone, upgrades_next}
use Rattle.ib_core.proofs.Shrunk.{gives_s, gives_last, gives_one_sx, gives_one_x}
use Rattle.ib_core.proofs.NumberTests.{none_by, some_by}

-- by the cases of a test
pub choose : {A : Type 0} (P : A → Type 0) (b : Bool) (x y : A) → (b ≡ true → P x) → (b ≡ false → P y) → P (if b then x else y)
choose P true x y yes' no' = yes' refl
choose P false x y yes' no' = no' refl

-- a session that stays as it is
pub stays : (m : ℕ → Marks) (ss : List Session) (i : ℕ) (a : Session) → IsGood ss m → Stands ss i a → IsGood (set ss i a) m
stays m ss i a good at = subst (λ ss. IsGood ss m) (sym (set_again ss i a at)) good

module _ (m : ℕ → Marks) (ss : List Session) (i : ℕ) (held : List Holding) (good : IsGood ss m) (few : HasFewReaders ss) where
  -- the session after a response makes a good state
  Keeps : Response → Type 0
  Keeps r = IsGood (set ss i r.session) m

  one : (l : ℕ) (j k : ℕ) (a b : Session) → Stands ss j a → Stands ss k b → j ≢ k → 0 < claims l a → claims l b ≡ 0
  one l j k a b e d n = (good.beside j k a b e d n l).one_claim

  module _ (l : ℕ) (v : Level) (p waiting : Phase) (at : Stands ss i (with_phase p held)) (before : Rattle.ib_core.specs.Responses.is_elsewhere l p ≡ false) (quiet : OwesNothing p)
      (none : holdings l (with_phase p held) ≡ 0) (may : MayFollowAll v (levels_of held)) where
    -- a first wish, where the session may wait in the phase given
    pub first_kept : (mode : Mode) → (is_given_at mode (word_on l ss) ≡ false → IsGood (set ss i (with_phase waiting held)) m) → IsGood (set ss i (first mode l v waiting (word_on l ss) held).session) m
    first_kept ModeS waits = choose (λ (r : Response). IsGood (set ss i r.session) m) (is_given_at ModeS (word_on l ss)) _ _
        (λ given. takes_s m ss i held l v p good at before quiet none may (above_0 (all_taken l ss) given)) waits
    first_kept ModeSx waits = choose (λ (r : Response). IsGood (set ss i r.session) m) (is_given_at ModeSx (word_on l ss)) _ _
        (λ given. takes_sx m ss i held l v p good at before quiet none may (above_half (all_taken l ss) given)) waits
    first_kept ModeX waits = choose (λ (r : Response). IsGood (set ss i r.session) m) (is_given_at ModeX (word_on l ss)) _ _
        (λ given.
        let low = above_half (all_taken l ss) given in
        choose (λ (r : Response). IsGood (set ss i r.session) m) (is_drained (word_on l ss -ℤ pos X_LOCK_DECR)) _ _
        (λ whole. takes_x_alone m ss i held l v p good at before quiet none may
        (⊎_elim (λ (z : all_taken l ss + X_LOCK_DECR ≡ X_LOCK_DECR). omega arith) (λ (z : all_taken l ss + X_LOCK_DECR ≡ X_LOCK_DECR + X_LOCK_HALF_DECR). omega arith)
        (drained (all_taken l ss + X_LOCK_DECR) (ap is_drained (sym (more_taken (all_taken l ss) X_LOCK_DECR)) ∙ whole))))
        (λ _. takes_x_next m ss i held l v p good at before quiet none may low))
        waits

  -- a wish that the order of levels allows, or refuses
  pub allowed : (l : ℕ) (v : Level) (p : Phase) (b : Bool) (r : Response) → Stands ss i (with_phase p held) → ((b ≡ false → MayFollowAll v (levels_of held)) → IsGood (set ss i r.session) m)
      → IsGood (set ss i (if_allowed (answer_to b v (levels_of held)) (with_phase p held) r).session) m
  allowed l v p true r at kept = kept (λ z. absurd (cc))
  allowed l v p false r at kept = by_first (first_against v (levels_of held)) refl
    where
      by_first : (o : Option Level) → first_against v (levels_of held) ≡ o → IsGood (set ss i (if_allowed (refused_by v o) (with_phase p held) r).session) m
      by_first None is = kept (λ _. may_from_none v (levels_of held) is)
      by_first (Some against) is = stays m ss i (with_phase p held) good at

  module _ (at : Stands ss i (with_phase Free held)) where
    unchanged : IsGood (set ss i (with_phase Free held)) m
    unchanged = stays m ss i (with_phase Free held) good at

    proper : IsProper (with_phase Free held)
    proper = good.proper i (with_phase Free held) at

    pub s_kept : (l : ℕ) (v : Level) → IsGood (set ss i (taking_s l v (word_on l ss) (with_phase Free held)).session) m
    s_kept l v = choose (λ (r : Response). IsGood (set ss i r.session) m) (is_held l held) _ _ (λ _. unchanged)
        (λ unheld. allowed l v Free (is_held l held) _ at (λ may.
        first_kept l v Free Free at refl nothing_free (none_from_unheld l held unheld) (may unheld) ModeS (λ _. unchanged)))

    -- who has no grant on the latch does not hold it
    free_of : (l : ℕ) → reads l (with_phase Free held) ≡ 0 → claims l (with_phase Free held) ≡ 0 → holdings l (with_phase Free held) ≡ 0
    free_of l unread unclaimed = let c = counted l (with_phase Free held) (proper.single l) in let s = proper.solid l in omega arith

    pub sx_kept : (l : ℕ) (v : Level) → IsGood (set ss i (taking_sx l v (word_on l ss) (with_phase Free held)).session) m
    sx_kept l v = choose (λ (r : Response). IsGood (set ss i r.session) m) (nat_lt 0 (reads l (with_phase Free held))) _ _ (λ _. unchanged)
        (λ unread. allowed l v Free (is_held l held) _ at (λ may.
        choose (λ (r : Response). IsGood (set ss i r.session) m) (nat_lt 0 (claims l (with_phase Free held))) _ _
        (λ claims'. takes_further_sx m ss i held l good at (some_by _ claims'))
        (λ unclaimed.
        let none = free_of l (none_by _ unread) (none_by _ unclaimed) in
        first_kept l v Free Free at refl nothing_free none (may (unheld_from_none l held none)) ModeSx (λ _. unchanged))))

    -- X beside one's own SX
    upgrade_kept : (l : ℕ) (v : Level) → 0 < sx_grants l (with_phase Free held) → x_grants l (with_phase Free held) ≡ 0 → IsGood (set ss i (upgrade l v (word_on l ss) held).session) m
    upgrade_kept l v has no_x =
        let a : Session = with_phase Free held in let c = counted l a (proper.single l) in let unread = reads_none l a proper (omega arith) in
        let x : x_weight (x_grants l a) ≡ 0 = ap x_weight no_x in let sx = sx_weight_cases (sx_grants l a) in
        let mine : taken l a ≡ X_LOCK_HALF_DECR = grind arith in let least = one_of (taken l) ss i a at in
        choose (λ (r : Response). IsGood (set ss i r.session) m) (is_above_0 (word_on l ss)) _ _
        (λ up.
        let low = above_0 (all_taken l ss) up in
        choose (λ (r : Response). IsGood (set ss i r.session) m) (is_drained (word_on l ss -ℤ pos X_LOCK_DECR)) _ _
        (λ whole. upgrades_alone m ss i held l good at (omega arith)
        (⊎_elim (λ (z : all_taken l ss + X_LOCK_DECR ≡ X_LOCK_DECR). absurd (omega arith)) (λ (z : all_taken l ss + X_LOCK_DECR ≡ X_LOCK_DECR + X_LOCK_HALF_DECR). omega arith)
        (drained (all_taken l ss + X_LOCK_DECR) (ap is_drained (sym (more_taken (all_taken l ss) X_LOCK_DECR)) ∙ whole))))
        (λ _. upgrades_next m ss i held l good at (omega arith) (level_on l v held) no_x))
        (λ _. unchanged)

    pub x_kept : (l : ℕ) (v : Level) → IsGood (set ss i (taking_x l v (word_on l ss) (with_phase Free held)).session) m
    x_kept l v =
        let c = counted l (with_phase Free held) (proper.single l) in
        choose (λ (r : Response). IsGood (set ss i r.session) m) (nat_lt 0 (reads l (with_phase Free held))) _ _ (λ _. unchanged)
        (λ unread. allowed l v Free (is_held l held) _ at (λ may.
        choose (λ (r : Response). IsGood (set ss i r.session) m) (nat_lt 0 (x_grants l (with_phase Free held))) _ _
        (λ has. let own = some_by (x_grants l (with_phase Free held)) has in takes_further_x m ss i held l good at (omega arith) own)
        (λ no_x. choose (λ (r : Response). IsGood (set ss i r.session) m) (nat_lt 0 (sx_grants l (with_phase Free held))) _ _
        (λ has. upgrade_kept l v (some_by _ has) (none_by _ no_x))
        (λ no_sx.
        let x = none_by (x_grants l (with_phase Free held)) no_x in let sx = none_by (sx_grants l (with_phase Free held)) no_sx in
        let none = free_of l (none_by _ unread) (omega arith) in
        first_kept l v Free Free at refl nothing_free none (may (unheld_from_none l held none)) ModeX (λ _. unchanged)))))

    -- the word after S is given back is the one that its readers and claimers then make
    pub us_kept : (l : ℕ) → IsGood (set ss i (giving_s l (word_on l ss) (with_phase Free held)).session) m
    us_kept l = choose (λ (r : Response). IsGood (set ss i r.session) m) (nat_lt 0 (reads l (with_phase Free held))) _ _
        (λ reads'. let has = some_by (reads l (with_phase Free held)) reads' in by_word has (is_drained (word_on l ss +ℤ pos 1)) refl)
        (λ _. unchanged)
      where
        gone : (p' : Phase) → 0 < reads l (with_phase Free held) → all_taken l (set ss i (with_phase p' (without_latch l held))) + 1 ≡ all_taken l ss
        gone p' has =
            let t = sum_at (taken l) ss i (with_phase Free held) (with_phase p' (without_latch l held)) at in
            let z = on-without l (λ h. weight h.s h.sx h.x) held in let r = read_weighs l (with_phase Free held) proper has in omega arith

        -- the word that the release leaves
        left : (p' : Phase) → 0 < reads l (with_phase Free held) → (word_on l ss +ℤ pos 1) ≡ word_on l (set ss i (with_phase p' (without_latch l held)))
        left p' has = let g = gone p' has in omega (arith, ints)

        by_word : 0 < reads l (with_phase Free held) → (b : Bool) → is_drained (word_on l ss +ℤ pos 1) ≡ b
            → IsGood (set ss i (with_phase (cond b (OwesRaiseEx l) Free) (without_latch l held))) m
        by_word has true is = gives_s m ss i held l good at (OwesRaiseEx l) has (at_itself l) tt (λ s. tt) (λ _. eq-eqb l l refl)
        by_word has false is = gives_s m ss i held l good at Free has refl tt (λ s. tt)
            (λ whole. absurd (not_drained (all_taken l (set ss i (with_phase Free (without_latch l held)))) (sym (ap is_drained (left Free has)) ∙ is) whole))

    pub usx_kept : (l : ℕ) → IsGood (set ss i (giving_sx l (with_phase Free held)).session) m
    usx_kept l =
        let a : Session = with_phase Free held in let c = counted l a (proper.single l) in
        choose (λ (r : Response). IsGood (set ss i r.session) m) (nat_lt 0 (sx_grants l a)) _ _
        (λ sx. let has = some_by (sx_grants l a) sx in
        by_equal (λ b. IsGood (set ss i (with_phase (cond b (OwesLook l) Free) (cond b (without_latch l held) (changed_on l (one_fewer ModeSx) held)))) m) (claims l a) 1
        (λ last. gives_last m ss i held l good at (omega arith))
        (λ n. gives_one_sx m ss i held l good at has (omega arith)))
        (λ _. unchanged)

    pub ux_kept : (l : ℕ) → IsGood (set ss i (giving_x l (with_phase Free held)).session) m
    ux_kept l =
        let a : Session = with_phase Free held in let c = counted l a (proper.single l) in
        choose (λ (r : Response). IsGood (set ss i r.session) m) (nat_lt 0 (x_grants l a)) _ _
        (λ x. let has = some_by (x_grants l a) x in
        by_equal (λ b. IsGood (set ss i (with_phase (cond (x_grants l a == 1) (OwesLook l) Free) (cond b (without_latch l held) (changed_on l (one_fewer ModeX) held)))) m) (claims l a) 1
        (λ last. by_equal (λ b. IsGood (set ss i (with_phase (cond b (OwesLook l) Free) (without_latch l held))) m) (x_grants l a) 1
        (λ _. gives_last m ss i held l good at (omega arith))
        (λ n. absurd (n (omega arith))))
        (λ n. gives_one_x m ss i held l good at has (omega arith) (cond (x_grants l a == 1) (OwesLook l) Free)
        (by_equal (λ b. ((x_grants l a ≡ 1) × (cond b (OwesLook l) Free ≡ OwesLook l)) ⊎ ((1 < x_grants l a) × (cond b (OwesLook l) Free ≡ Free))) (x_grants l a) 1
        (λ e. inl (e, refl)) (λ more. inr (omega arith, refl)))))
        (λ _. unchanged)

    pub arm_kept : (l : ℕ) (mode : Mode) (v : Level) → IsGood (set ss i (arming l mode v (m l).generation (with_phase Free held)).session) m
    arm_kept l mode v = choose (λ (r : Response). IsGood (set ss i r.session) m) (is_held l held) _ _ (λ _. unchanged)
        (λ unheld. allowed l v Free (is_held l held) _ at (λ may. arms m ss i held l good mode v at (none_from_unheld l held unheld) (may unheld)))
