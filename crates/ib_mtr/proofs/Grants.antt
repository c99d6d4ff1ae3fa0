-- What a session has and what its memo has, after a grant more and after one fewer.
use Rattle.std.proofs.Common.{◌≡◌, ◌≢◌, ℕ, ◌+◌, ◌<◌, Bool, true, false, cond, List, [], ◌∷◌, ◌++◌, Some, slice_get, refl, ap, ◌∙◌, subst, arith, ltb-true}
use Rattle.std.specs.Prelude.{◌==◌, ◌&&◌, nat_lt, if◌then◌else◌}
use Rattle.std.specs.List.{remove}
use Rattle.std.proofs.lemmas.List.Sums.{sum_by_push, sum_by-remove}
use Rattle.std.proofs.lemmas.Option.{get_or_from_slice_get, slice_get_within}
use mathlib.Core.Logic.{dite}
use native.Mathlib.Decide.{ℕ_discrete}
use Rattle.ib_levels.specs.declared.latch.Latch.{Latch}
use Rattle.ib_levels.specs.declared.level.Level.{Level}
use Rattle.ib_levels.specs.declared.level.Mode.{Mode}
use Rattle.ib_levels.specs.declared.level.Mode.TheVariants.{S, Sx, X}
use Rattle.ib_levels.specs.declared.holding.Holding.{Holding}
use Rattle.ib_levels.specs.Holding.{on, hold, without_latch, changed_on}
use Rattle.ib_levels.proofs.Counts.{by_equal, part, on-push, on-without, on-without_away, on-changed, on-changed_away}
use Rattle.ib_core.specs.declared.session.Session.{Session}
use Rattle.ib_core.specs.Good.{IsProper}
use Rattle.ib_core.specs.Sessions.{claims, holdings, reads, sx_grants, x_grants}
use Rattle.ib_core.specs.Takings.{count_of, first_holding, holding_too, one_fewer, one_more}
use Rattle.ib_core.proofs.OnLatch.{counted, counts_changed, held_by_grant, one_more-latch, one_fewer-latch}
use Rattle.ib_latch.specs.Tries.{held_with}
use Rattle.ib_mtr.specs.Memo.{HasExactly, grants_of, same_mode, times_in_memo}
use Rattle.ib_mtr.specs.Mtr.{held_after}

-- one where a grant of this mode is on the latch, and it is of that mode
abbrev pub hit : Mode → ℕ → Mode → ℕ → ℕ
hit m k mode l = cond ((l == k) && same_mode m mode) 1 0

-- the memo with one grant more, and with one fewer
pub times-push : (m : Mode) (k : ℕ) (memo : List (Latch × Mode)) (g : Latch × Mode) → times_in_memo m k (memo ++ g ∷ []) ≡ times_in_memo m k memo + hit m k g.1 g.0.0
times-push m k memo g = sum_by_push _ memo g

pub times-remove : (m : Mode) (k : ℕ) (memo : List (Latch × Mode)) (at : ℕ) (g : Latch × Mode) → slice_get memo at ≡ Some g → times_in_memo m k (remove memo at) + hit m k g.1 g.0.0 ≡ times_in_memo m k memo
times-remove m k memo at g is =
    let e = sum_by-remove (λ (g : Latch × Mode). cond ((g.0.0 == k) && same_mode m g.1) 1 0) memo at g (slice_get_within memo at g is) in
    let same = ap (λ (g : Latch × Mode). hit m k g.1 g.0.0) (get_or_from_slice_get memo at g g is) in omega arith

-- a first grant counts once, in its mode
first_counts : (m mode : Mode) (l : ℕ) (v : Level) → count_of m (first_holding mode l v) ≡ cond (same_mode m mode) 1 0
first_counts S S l v = refl
first_counts S Sx l v = refl
first_counts S X l v = refl
first_counts Sx S l v = refl
first_counts Sx Sx l v = refl
first_counts Sx X l v = refl
first_counts X S l v = refl
first_counts X Sx l v = refl
first_counts X X l v = refl

first_part : (m : Mode) (k : ℕ) (mode : Mode) (l : ℕ) (v : Level) → part k (count_of m) (first_holding mode l v) ≡ hit m k mode l
first_part m k mode l v = ap (λ (n : ℕ). cond (n == k) (count_of m (first_holding mode l v)) 0) (one_more-latch mode (hold l v 0 0 0)) ∙ by_test (l == k)
  where
    by_test : (b : Bool) → cond b (count_of m (first_holding mode l v)) 0 ≡ cond (b && same_mode m mode) 1 0
    by_test true = first_counts m mode l v
    by_test false = refl

-- the session with a first grant
pub first_grant : (m : Mode) (k : ℕ) (mode : Mode) (l : ℕ) (v : Level) (held : List Holding) → on k (count_of m) (holding_too mode l v held) ≡ on k (count_of m) held + hit m k mode l
first_grant m k mode l v held = let e = on-push k (count_of m) held (first_holding mode l v) in let p = first_part m k mode l v in omega arith

-- a further grant counts once more, in its mode
more_counts : (m mode : Mode) (h : Holding) → count_of m (one_more mode h) ≡ count_of m h + cond (same_mode m mode) 1 0
more_counts S S h = omega arith
more_counts S Sx h = omega arith
more_counts S X h = omega arith
more_counts Sx S h = omega arith
more_counts Sx Sx h = omega arith
more_counts Sx X h = omega arith
more_counts X S h = omega arith
more_counts X Sx h = omega arith
more_counts X X h = omega arith

-- the session with a grant more, the first one or a further one
pub more_grant : (m : Mode) (k : ℕ) (mode : Mode) (l : ℕ) (v : Level) (a : Session) → IsProper a → on k (count_of m) (held_with mode l v a) ≡ on k (count_of m) a.held + hit m k mode l
more_grant m k mode l v a proper = by_claims (nat_lt 0 (claims l a)) refl
  where
    further : 0 < claims l a → on l (count_of m) (changed_on l (one_more mode) a.held) ≡ on l (count_of m) a.held + cond (same_mode m mode) 1 0
    further some =
        let one = proper.single l in let has = held_by_grant l (λ h. h.sx + h.x) a.held some in
        let c = counts_changed l (one_more mode) a.held (one_more-latch mode) (omega arith) in
        let before = c.1 (count_of m) in let after = c.2 (count_of m) in let e = more_counts m mode c.0 in omega arith

    by_claims : (b : Bool) → nat_lt 0 (claims l a) ≡ b → on k (count_of m) (if b then changed_on l (one_more mode) a.held else holding_too mode l v a.held) ≡ on k (count_of m) a.held + hit m k mode l
    by_claims true some = by_equal (λ b. on k (count_of m) (changed_on l (one_more mode) a.held) ≡ on k (count_of m) a.held + cond (b && same_mode m mode) 1 0) l k
        (λ e. subst (λ (k : ℕ). on k (count_of m) (changed_on l (one_more mode) a.held) ≡ on k (count_of m) a.held + cond (same_mode m mode) 1 0) e (further (ltb-true 0 (claims l a) some)))
        (λ n. let e = on-changed_away l k (one_more mode) (count_of m) a.held (one_more-latch mode) n in omega arith)
    by_claims false none = first_grant m k mode l v a.held

-- what is held stays held beside one more
pub still_held : (mode : Mode) (l k : ℕ) (v : Level) (a : Session) → 0 < holdings k a → 0 < on k (λ h. 1) (held_with mode l v a)
still_held mode l k v a has = by_claims (nat_lt 0 (claims l a))
  where
    by_claims : (b : Bool) → 0 < on k (λ h. 1) (if b then changed_on l (one_more mode) a.held else holding_too mode l v a.held)
    by_claims true = dite (ℕ_discrete l k)
        (λ e. subst (λ (k : ℕ). 0 < on k (λ h. 1) (changed_on l (one_more mode) a.held)) e (let c = on-changed l (one_more mode) (λ h. 1) a.held (one_more-latch mode) in let h = ap (λ (k : ℕ). holdings k a) e in omega arith))
        (λ n. let c = on-changed_away l k (one_more mode) (λ h. 1) a.held (one_more-latch mode) n in omega arith)
    by_claims false = let e = on-push k (λ h. 1) a.held (first_holding mode l v) in omega arith

-- .. on any other latch as before, with one grant fewer
pub after-away : (mode : Mode) (l k : ℕ) (f : Holding → ℕ) (a : Session) → l ≢ k → on k f (held_after mode l a) ≡ on k f a.held
after-away S l k f a n = on-without_away l k f a.held n
after-away Sx l k f a n = by_equal (λ b. on k f (if b then without_latch l a.held else changed_on l (one_fewer Sx) a.held) ≡ on k f a.held) (claims l a) 1
    (λ _. on-without_away l k f a.held n) (λ _. on-changed_away l k (one_fewer Sx) f a.held (one_fewer-latch Sx) n)
after-away X l k f a n = by_equal (λ b. on k f (if b then without_latch l a.held else changed_on l (one_fewer X) a.held) ≡ on k f a.held) (claims l a) 1
    (λ _. on-without_away l k f a.held n) (λ _. on-changed_away l k (one_fewer X) f a.held (one_fewer-latch X) n)

-- a count goes with the mode
count_fewer : (m mode : Mode) (h : Holding) → 0 < count_of mode h → count_of m (one_fewer mode h) + cond (same_mode m mode) 1 0 ≡ count_of m h
count_fewer S S h has = omega arith
count_fewer S Sx h has = omega arith
count_fewer S X h has = omega arith
count_fewer Sx S h has = omega arith
count_fewer Sx Sx h has = omega arith
count_fewer Sx X h has = omega arith
count_fewer X S h has = omega arith
count_fewer X Sx h has = omega arith
count_fewer X X h has = omega arith

module _ (l : ℕ) (a : Session) (proper : IsProper a) where
  -- the one grant on the latch is of the mode
  pub record IsOnly (mode : Mode) : Type 0 where
    pub only : (m : Mode) → grants_of m l a ≡ cond (same_mode m mode) 1 0

  gone : (m mode : Mode) → IsOnly mode → on l (count_of m) (without_latch l a.held) + cond (same_mode m mode) 1 0 ≡ on l (count_of m) a.held
  gone m mode one = let e = on-without l (count_of m) a.held in let o = one.only m in omega arith

  fewer : (m mode : Mode) → 0 < grants_of mode l a → on l (count_of m) (changed_on l (one_fewer mode) a.held) + cond (same_mode m mode) 1 0 ≡ on l (count_of m) a.held
  fewer m mode has =
      let one = proper.single l in let some = held_by_grant l (count_of mode) a.held has in
      let c = counts_changed l (one_fewer mode) a.held (one_fewer-latch mode) (omega arith) in
      let before = c.1 (count_of m) in let after = c.2 (count_of m) in let mine = c.1 (count_of mode) in
      let e = count_fewer m mode c.0 (omega arith) in omega arith

  only_s : 0 < reads l a → IsOnly S
  only_s has = record { only = is }
    where
      is : (m : Mode) → grants_of m l a ≡ cond (same_mode m S) 1 0
      is S = let o = proper.once l in omega arith
      is Sx = let c = counted l a (proper.single l) in let z = proper.apart l has in omega arith
      is X = let c = counted l a (proper.single l) in let z = proper.apart l has in omega arith

  unread : 0 < claims l a → reads l a ≡ 0
  unread has = dite (ℕ_discrete (reads l a) 0) (λ e. e) (λ n. let z = proper.apart l (omega arith) in absurd (omega arith))

  only_sx : 0 < sx_grants l a → claims l a ≡ 1 → IsOnly Sx
  only_sx has one = record { only = is }
    where
      is : (m : Mode) → grants_of m l a ≡ cond (same_mode m Sx) 1 0
      is S = unread (omega arith)
      is Sx = let c = counted l a (proper.single l) in omega arith
      is X = let c = counted l a (proper.single l) in omega arith

  only_x : 0 < x_grants l a → claims l a ≡ 1 → IsOnly X
  only_x has one = record { only = is }
    where
      is : (m : Mode) → grants_of m l a ≡ cond (same_mode m X) 1 0
      is S = unread (omega arith)
      is Sx = let c = counted l a (proper.single l) in omega arith
      is X = let c = counted l a (proper.single l) in omega arith

  -- the session with one grant fewer, on the latch
  after-here : (m mode : Mode) → 0 < grants_of mode l a → on l (count_of m) (held_after mode l a) + cond (same_mode m mode) 1 0 ≡ on l (count_of m) a.held
  after-here m S has = gone m S (only_s has)
  after-here m Sx has = by_equal (λ b. on l (count_of m) (if b then without_latch l a.held else changed_on l (one_fewer Sx) a.held) + cond (same_mode m Sx) 1 0 ≡ on l (count_of m) a.held) (claims l a) 1
      (λ one. gone m Sx (only_sx has one)) (λ _. fewer m Sx has)
  after-here m X has = by_equal (λ b. on l (count_of m) (if b then without_latch l a.held else changed_on l (one_fewer X) a.held) + cond (same_mode m X) 1 0 ≡ on l (count_of m) a.held) (claims l a) 1
      (λ one. gone m X (only_x has one)) (λ _. fewer m X has)

  -- .. and on all
  pub after_grant : (m : Mode) (k : ℕ) (mode : Mode) → 0 < grants_of mode l a → on k (count_of m) (held_after mode l a) + hit m k mode l ≡ on k (count_of m) a.held
  after_grant m k mode has = by_equal (λ b. on k (count_of m) (held_after mode l a) + cond (b && same_mode m mode) 1 0 ≡ on k (count_of m) a.held) l k
      (λ e. subst (λ (k : ℕ). on k (count_of m) (held_after mode l a) + cond (same_mode m mode) 1 0 ≡ on k (count_of m) a.held) e (after-here m mode has))
      (λ n. let e = after-away mode l k (count_of m) a n in omega arith)

-- what is in the memo is held
pub grant_held : (memo : List (Latch × Mode)) (a : Session) (at : ℕ) (g : Latch × Mode) → HasExactly memo a → slice_get memo at ≡ Some g → 0 < grants_of g.1 g.0.0 a
grant_held memo a at g exact is =
    let e = exact.counts g.1 g.0.0 in let r = times-remove g.1 g.0.0 memo at g is in let h = hit_itself g.1 g.0.0 in omega arith
  where
    itself : (m : Mode) → same_mode m m ≡ true
    itself S = refl
    itself Sx = refl
    itself X = refl

    hit_itself : (m : Mode) (l : ℕ) → hit m l m l ≡ 1
    hit_itself m l = by_equal (λ b. ◌≡◌ {A = ℕ} (cond (b && same_mode m m) 1 0) 1) l l (λ _. ap (λ b. cond {A = ℕ} b 1 0) (itself m)) (λ n. absurd (n refl))

-- the memo and the session, with a grant more ..
pub exact_more : (memo : List (Latch × Mode)) (a b : Session) (latch : Latch) (mode : Mode) (v : Level) → HasExactly memo a → IsProper a → b.held ≡ held_with mode latch.0 v a → HasExactly (memo ++ (latch, mode) ∷ []) b
exact_more memo a b latch mode v exact proper is = record {
  counts = λ m k.
      let e = exact.counts m k in let t = times-push m k memo (latch, mode) in let f = more_grant m k mode latch.0 v a proper in
      let h = ap (on k (count_of m)) is in omega arith;
}

-- .. and with one fewer
pub exact_fewer : (memo : List (Latch × Mode)) (a b : Session) (at : ℕ) (g : Latch × Mode) → HasExactly memo a → IsProper a → slice_get memo at ≡ Some g → b.held ≡ held_after g.1 g.0.0 a → HasExactly (remove memo at) b
exact_fewer memo a b at g exact proper there is = record {
  counts = λ m k.
      let e = exact.counts m k in let t = times-remove m k memo at g there in
      let f = after_grant g.0.0 a proper m k g.1 (grant_held memo a at g exact there) in
      let h = ap (on k (count_of m)) is in omega arith;
}
