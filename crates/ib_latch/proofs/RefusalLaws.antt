-- A try that was refused, or won, by its looks.
use Rattle.std.specs.Prelude.{Ok, Err, ◌∷◌, Some, None}
use Rattle.std.proofs.Common.{◌≡◌, ℕ, ◌+◌, ◌≤◌, sym, ap, subst, ◌∙◌, arith}
use Rattle.ib_word.specs.Word.{cell_of}
use Rattle.ib_levels.specs.declared.level.Level.{Level}
use Rattle.ib_levels.specs.declared.level.Mode.{Mode}
use Rattle.ib_levels.specs.declared.level.Mode.TheVariants.{S, Sx, X}
use Rattle.ib_core.specs.Sessions.{holdings}
use Rattle.ib_rule.specs.declared.looks.Looks.{Looks}
use Rattle.ib_rule.specs.Pass.{PassState}
use Rattle.ib_latch.specs.declared.tries.TryFault.{TryFault}
use Rattle.ib_latch.specs.declared.tries.TryFault.TheVariants.{Busy, Raced}
use Rattle.ib_latch.specs.Refusals.{IsOneTry, FoundBusy, FoundRaced, WasRefusedFor}
use Rattle.ib_latch.specs.Tries.{looks_of}

-- a refused try looks once or twice
pub looks_few : (fault : TryFault) → looks_of fault ≤ 2
looks_few (Busy w) = omega arith
looks_few (Raced w found) = omega arith

-- what its looks were, at a latch of which the session held nothing
pub refused_looks : (mode : Mode) (l : ℕ) (v : Level) (fault : TryFault) (p q : PassState) → holdings l p.view.session ≡ 0 → IsOneTry mode l v p (Err fault) q → WasRefusedFor mode l fault p.view.looks q.view.looks
refused_looks mode l v (Busy w) p q none tried =
    subst (λ (k : Looks). FoundBusy mode l w p.view.looks k) (sym (ap (λ (r : PassState). r.view.looks) tried.1))
    (record { count = omega arith; low = tried.0; at = p.view.looks.steps; before = p.view.looks.all; is = λ j. record { latch = l; found = cell_of w.0; expected = None; at = p.view.looks.steps; held = none j } ∷ p.view.looks.all })
refused_looks mode l v (Raced w found) p q none tried =
    subst (λ (k : Looks). FoundRaced mode l w found p.view.looks k) (sym (ap (λ (r : PassState). r.view.looks) tried.2))
    (record { count = omega arith; high = tried.0; other = tried.1; at = p.view.looks.steps; before = p.view.looks.all; is = λ j. record { latch = l; found = cell_of found.0; expected = Some (cell_of w.0); at = p.view.looks.steps + 1; held = none j } ∷ record { latch = l; found = cell_of w.0; expected = None; at = p.view.looks.steps; held = none j } ∷ p.view.looks.all })

-- it was refused between earlier looks and later ones too, where none came in between
pub refused_later : (mode : Mode) (l : ℕ) (fault : TryFault) (a b c d : Looks) → a.count ≤ b.count → WasRefusedFor mode l fault b c → d.all ≡ c.all → d.count ≡ c.count → WasRefusedFor mode l fault a d
refused_later mode l (Busy word) a b c d le r all count = record { count = let x = r.count in omega arith; low = r.low; at = r.at; before = r.before; is = all ∙ r.is }
refused_later mode l (Raced word found) a b c d le r all count = record { count = let x = r.count in omega arith; high = r.high; other = r.other; at = r.at; before = r.before; is = all ∙ r.is }

-- one that is won looks twice
pub won_looks : (mode : Mode) (l : ℕ) (v : Level) (p q : PassState) → IsOneTry mode l v p (Ok tt) q → q.view.looks.count ≡ p.view.looks.count + 2
won_looks S l v p q tried = let e = ap (λ (r : PassState). r.view.looks.count) tried.1.1 in omega arith
won_looks Sx l v p q tried = let e = ap (λ (r : PassState). r.view.looks.count) tried.1.1 in omega arith
won_looks X l v p q tried = let e = ap (λ (r : PassState). r.view.looks.count) tried.1.1 in omega arith

-- .. and makes no step of who waits
pub won_waits : (mode : Mode) (l : ℕ) (v : Level) (p q : PassState) → IsOneTry mode l v p (Ok tt) q → q.view.looks.waits ≡ p.view.looks.waits
won_waits S l v p q tried = ap (λ (r : PassState). r.view.looks.waits) tried.1.1
won_waits Sx l v p q tried = ap (λ (r : PassState). r.view.looks.waits) tried.1.1
won_waits X l v p q tried = ap (λ (r : PassState). r.view.looks.waits) tried.1.1
