-- A further grant of who has SX or X, and X beside one's own SX, keep a good state good.
use Rattle.std.proofs.Common.{◌≡◌, ◌≢◌, ℕ, ◌+◌, ◌<◌, ◌≤◌, false, cond, List, set, refl, sym, ap, subst, eq-eqb, arith}
use Rattle.ib_levels.specs.declared.holding.Holding.{Holding}
use Rattle.ib_levels.specs.declared.level.Level.{Level}
use Rattle.ib_levels.specs.declared.level.Mode.{Mode}
use Rattle.ib_levels.specs.declared.level.Mode.TheVariants.{S, Sx, X}
use Rattle.ib_levels.specs.Level.{IsOrderly}
use Rattle.ib_levels.specs.Holding.{on, changed_on}
use Rattle.ib_levels.proofs.Counts.{on-changed_away}
use Rattle.ib_levels.proofs.Holdings.{levels_of-changed}
use Rattle.ib_core.specs.declared.phase.Phase.{Phase}
use Rattle.ib_core.specs.declared.phase.Phase.TheVariants.{Free, Next}
use Rattle.ib_core.specs.declared.session.Session.{Session}
use Rattle.ib_core.specs.declared.session.Marks.{Marks}
use Rattle.ib_core.specs.Sessions.{Stands, reads, claims, x_grants, taken, all_taken, owned}
use Rattle.ib_core.specs.Takings.{one_more}
use Rattle.ib_core.specs.Responses.{is_elsewhere}
use Rattle.ib_core.specs.Good.{Suits, IsProper, GoBeside, IsGood}
use Rattle.ib_core.proofs.Quiet.{at_itself}
use Rattle.ib_core.proofs.OnLatch.{counts_changed, one_more-latch, held_by_grant}
use Rattle.ib_core.proofs.Weighs.{reads_none}
use Rattle.ib_core.proofs.Phased.{with_phase}
use Rattle.ib_core.proofs.Waiting.{nothing_free}
use Rattle.ib_core.proofs.Totals.{nobody_reads}
use Rattle.ib_core.proofs.Grown.{grown, beside_claimer}

pub one_more-level : (mode : Mode) (h : Holding) → (one_more mode h).level ≡ h.level
one_more-level S h = refl
one_more-level Sx h = refl
one_more-level X h = refl

-- the counts on the latch after one grant more of SX or X
pub record OneMore (l : ℕ) (mode : Mode) (held : List Holding) : Type 0 where
  pub places : on l (λ h. 1) (changed_on l (one_more mode) held) ≡ on l (λ h. 1) held
  pub reads : on l (λ h. h.s) (changed_on l (one_more mode) held) ≡ on l (λ h. h.s) held
  pub claims : on l (λ h. h.sx + h.x) (changed_on l (one_more mode) held) ≡ on l (λ h. h.sx + h.x) held + 1
  pub x_grants : on l (λ h. h.x) held ≤ on l (λ h. h.x) (changed_on l (one_more mode) held)
  pub grants : on l (λ h. h.s + h.sx + h.x) (changed_on l (one_more mode) held) ≡ on l (λ h. h.s + h.sx + h.x) held + 1

pub one_more_sx : (l : ℕ) (held : List Holding) → on l (λ h. 1) held ≡ 1 → OneMore l Sx held × (on l (λ h. h.x) (changed_on l (one_more Sx) held) ≡ on l (λ h. h.x) held)
one_more_sx l held single =
    let k = counts_changed l (one_more Sx) held (one_more-latch Sx) single in
    let o = k.1 (λ h. 1) in let r = k.1 (λ h. h.s) in let c = k.1 (λ h. h.sx + h.x) in let x = k.1 (λ h. h.x) in let g = k.1 (λ h. h.s + h.sx + h.x) in
    let o' = k.2 (λ h. 1) in let r' = k.2 (λ h. h.s) in let c' = k.2 (λ h. h.sx + h.x) in let x' = k.2 (λ h. h.x) in let g' = k.2 (λ h. h.s + h.sx + h.x) in
    (record { places = omega arith; reads = omega arith; claims = omega arith; x_grants = omega arith; grants = omega arith }, omega arith)

pub one_more_x : (l : ℕ) (held : List Holding) → on l (λ h. 1) held ≡ 1 → OneMore l X held × (on l (λ h. h.x) (changed_on l (one_more X) held) ≡ on l (λ h. h.x) held + 1)
one_more_x l held single =
    let k = counts_changed l (one_more X) held (one_more-latch X) single in
    let o = k.1 (λ h. 1) in let r = k.1 (λ h. h.s) in let c = k.1 (λ h. h.sx + h.x) in let x = k.1 (λ h. h.x) in let g = k.1 (λ h. h.s + h.sx + h.x) in
    let o' = k.2 (λ h. 1) in let r' = k.2 (λ h. h.s) in let c' = k.2 (λ h. h.sx + h.x) in let x' = k.2 (λ h. h.x) in let g' = k.2 (λ h. h.s + h.sx + h.x) in
    (record { places = omega arith; reads = omega arith; claims = omega arith; x_grants = omega arith; grants = omega arith }, omega arith)

module _ (m : ℕ → Marks) (ss : List Session) (i : ℕ) (held : List Holding) (l : ℕ)
    (good : IsGood ss m) (at : Stands ss i (with_phase Free held)) (has : 0 < claims l (with_phase Free held)) where
  one_place : on l (λ h. 1) held ≡ 1
  one_place = let p = held_by_grant l (λ h. h.sx + h.x) held has in let q = (good.proper i (with_phase Free held) at).single l in omega arith

  more : (mode : Mode) (p' : Phase) → is_elsewhere l p' ≡ false → OneMore l mode held → Suits p' (with_phase p' (changed_on l (one_more mode) held))
      → ((j : ℕ) (b : Session) → Stands ss j b → i ≢ j → 0 < owned l (with_phase p' (changed_on l (one_more mode) held)) → reads l b ≡ 0)
      → ((s : List Session) → Rattle.ib_core.specs.Good.Heard m s p') → IsGood (set ss i (with_phase p' (changed_on l (one_more mode) held))) m
  more mode p' after counts suits alone own =
      let a : Session = with_phase Free held in let a' : Session = with_phase p' (changed_on l (one_more mode) held) in
      let proper = good.proper i a at in let single = one_place in let unread = reads_none l a proper has in
      let p = counts.places in let r = counts.reads in let c = counts.claims in let x = counts.x_grants in let g = counts.grants in
      grown m ss i l a a' good at record { before = refl; after = after; away = λ k n f. on-changed_away l k (one_more mode) f held (one_more-latch mode) n }
      nothing_free
      record { single = omega arith; solid = let s = proper.solid l in omega arith; once = omega arith; apart = λ z. absurd (omega arith) }
      (subst IsOrderly (sym (levels_of-changed l (one_more mode) held (one_more-level mode))) proper.orderly)
      suits
      record { more_reads = omega arith; more_x = omega arith; more_claims = omega arith }
      (λ j b e n. beside_claimer l a' b ((good.beside i j a b at e n l).one_claim has) (alone j b e n))
      (own (set ss i a'))

  pub takes_further_sx : IsGood (set ss i (with_phase Free (changed_on l (one_more Sx) held))) m
  takes_further_sx =
      let k = one_more_sx l held one_place in let x = k.1 in
      more Sx Free refl k.0 tt (λ j b e n z. (good.beside i j (with_phase Free held) b at e n l).none_reads (omega arith)) (λ s. tt)

  pub takes_further_x : 0 < x_grants l (with_phase Free held) → IsGood (set ss i (with_phase Free (changed_on l (one_more X) held))) m
  takes_further_x own =
      let k = one_more_x l held one_place in
      more X Free refl k.0 tt (λ j b e n _. (good.beside i j (with_phase Free held) b at e n l).none_reads own) (λ s. tt)

  -- X beside one's own SX: owned where nobody else has anything on the latch ..
  pub upgrades_alone : all_taken l ss ≡ taken l (with_phase Free held) → IsGood (set ss i (with_phase Free (changed_on l (one_more X) held))) m
  upgrades_alone whole =
      let k = one_more_x l held one_place in
      more X Free refl k.0 tt (λ j b e n _. nobody_reads l ss good.proper (λ i j a b e d n. (good.beside i j a b e d n l).one_claim) i (with_phase Free held) at whole j b e n) (λ s. tt)

  -- .. and else the session is the next writer
  pub upgrades_next : (v : Level) → x_grants l (with_phase Free held) ≡ 0 → IsGood (set ss i (with_phase (Next l v) (changed_on l (one_more X) held))) m
  upgrades_next v none =
      let k = one_more_x l held one_place in let x = k.1 in
      let a' : Session = with_phase (Next l v) (changed_on l (one_more X) held) in
      let waits : owned l a' ≡ 0 = ap (λ b. cond b 0 (x_grants l a')) (eq-eqb l l refl) in
      more X (Next l v) (at_itself l) k.0 (omega arith) (λ j b e n z. absurd (omega arith)) (λ s. tt)
