-- What stands once all grants of a memo were given back.
use Rattle.std.proofs.Common.{◌≡◌, ℕ, ◌<◌, true, false, List, [], ◌∷◌, refl, sym, ap, ◌∙◌, subst, arith}
use Rattle.std.specs.Prelude.{None}
use Rattle.ib_levels.specs.declared.latch.Latch.{Latch}
use Rattle.ib_levels.specs.declared.level.Mode.{Mode}
use Rattle.ib_core.specs.Sessions.{claims, holdings, idle}
use Rattle.ib_rule.specs.declared.looks.Raise.{Raise}
use Rattle.ib_rule.specs.declared.view.View.{View}
use Rattle.ib_rule.specs.Memory.{latch_at}
use Rattle.ib_rule.specs.Pass.{PassState, raising_as}
use Rattle.ib_rule.specs.Views.{with_raises, KnowsHeld}
use Rattle.ib_mtr.specs.Commits.{HasEnded}
use Rattle.ib_mtr.specs.Mtr.{IsReleasedTo, finished, released_to, with_work, without_all}
use Rattle.ib_mtr.proofs.Images.{none_of}

-- what releases leave of a view
pub record IsKeptBy (v w : View) : Type 0 where
  pub role : w.role ≡ v.role
  pub grants : w.grants ≡ v.grants
  pub looks : w.looks.count ≡ v.looks.count
  pub waits : w.looks.waits ≡ v.looks.waits
  pub met : w.memory.met ≡ v.memory.met
  pub seen : w.memory.seen ≡ v.memory.seen
  pub own : w.memory.own ≡ v.memory.own
  pub ends : w.memory.ends ≡ v.memory.ends
  pub append : w.memory.append ≡ v.memory.append

pub kept_by_releases : (memo : List (Latch × Mode)) (v : View) → IsKeptBy v (without_all memo v)
kept_by_releases [] v = record { role = refl; grants = refl; looks = refl; waits = refl; met = refl; seen = refl; own = refl; ends = refl; append = refl }
kept_by_releases (g ∷ gs) v = let k = kept_by_releases gs v in record { role = k.role; grants = k.grants; looks = k.looks; waits = k.waits; met = k.met; seen = k.seen; own = k.own; ends = k.ends; append = k.append }

-- .. whatever was raised
pub kept_raising : (raises : List Raise) (v w : View) → IsKeptBy v w → IsKeptBy v (with_raises raises w)
kept_raising raises v w k = record { role = k.role; grants = k.grants; looks = k.looks; waits = k.waits; met = k.met; seen = k.seen; own = k.own; ends = k.ends; append = k.append }

-- who holds nothing knows of nothing
module _ (w : View) (known : KnowsHeld w) (rests : w.session ≡ idle) where
  nothing : (l : ℕ) → 0 < holdings l w.session → ⊥
  nothing l held = let z = ap (holdings l) rests in omega arith

  no_claim : (l : ℕ) → 0 < claims l w.session → ⊥
  no_claim l held = let z = ap (claims l) rests in omega arith

  pub no_since : w.memory.since ≡ []
  no_since = none_of (λ since. 0 < holdings since.latch w.session) w.memory.since (λ since held. nothing since.latch held) known.since

  pub no_loaded : w.memory.loaded ≡ []
  no_loaded = none_of (λ x. 0 < holdings (latch_at x.place) w.session) w.memory.loaded (λ x held. nothing (latch_at x.place) held) known.loaded

  pub no_written : w.written ≡ []
  no_written = none_of (λ l. 0 < claims l w.session) w.written (λ l held. no_claim l held) known.written

ended_so : (p q r : PassState) → q ≡ finished (raising_as r (released_to 0 (with_work [] p))) → KnowsHeld q.view → q.view.session ≡ idle → p.view.memory.append ≡ None
    → HasEnded p p.view.grants p.view.memory.seen p.view.memory.own p.view.memory.ends q
ended_so p q r is known rests closed =
    let view : q.view ≡ with_raises r.view.looks.raises (without_all p.memo p.view) = ap (λ (s : PassState). s.view) is in
    let kept : IsKeptBy p.view q.view = subst (IsKeptBy p.view) (sym view) (kept_raising r.view.looks.raises p.view (without_all p.memo p.view) (kept_by_releases p.memo p.view)) in record {
      pass = is ∙ ap (λ (v : View). record p { view = v; has_scratch = true; is_working = false; work = []; memo = [] }) (sym view)
          ∙ ap (λ (ws : List ℕ). record p { view = q.view; has_scratch = true; is_working = false; work = []; memo = []; words = ws }) (sym (ap (λ (r : PassState). r.words) is));
      role = kept.role;
      session = rests;
      grants = kept.grants;
      written = no_written q.view known rests;
      looks = let l = kept.looks in omega arith;
      memory = λ j. record { met = kept.met j; seen = kept.seen j; own = kept.own j; ends = kept.ends j; since = no_since q.view known rests j; loaded = no_loaded q.view known rests j; append = (kept.append ∙ closed) j };
    }

-- all was given back without pages, which left the pass q, and the scratch is free in the pass r
pub ended_by : (p q r : PassState) → IsReleasedTo 0 (with_work [] p) q → r ≡ finished q → KnowsHeld r.view → r.view.session ≡ idle → p.view.memory.append ≡ None
    → HasEnded p p.view.grants p.view.memory.seen p.view.memory.own p.view.memory.ends r
ended_by p q r given ended known rests closed = ended_so p r q (ended ∙ ap finished given) known rests closed

-- .. and no lock word was looked at
pub ended_looks : (p q r : PassState) → IsReleasedTo 0 (with_work [] p) q → r ≡ finished q → r.view.looks.count ≡ p.view.looks.count
ended_looks p q r given ended = ap (λ (s : PassState). s.view.looks.count) (ended ∙ ap finished given) ∙ (kept_by_releases p.memo p.view).looks

-- .. nor a step made as one that waits
pub ended_waits : (p q r : PassState) → IsReleasedTo 0 (with_work [] p) q → r ≡ finished q → r.view.looks.waits ≡ p.view.looks.waits
ended_waits p q r given ended = ap (λ (s : PassState). s.view.looks.waits) (ended ∙ ap finished given) ∙ (kept_by_releases p.memo p.view).waits
