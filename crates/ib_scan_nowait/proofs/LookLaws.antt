-- The looks of a call, and what is left once all was given up.
use Rattle.std.specs.Prelude.{Err, IfErr, Ok, OnOk, Result}
use Rattle.std.proofs.Common.{◌≡◌, ℕ, [], sym, ap, subst, ◌∙◌, arith}
use Rattle.ib_levels.specs.declared.level.Mode.TheVariants.{S}
use Rattle.ib_rule.specs.declared.looks.Looks.{Looks}
use Rattle.ib_rule.specs.declared.view.View.{View}
use Rattle.ib_rule.specs.Pass.{PassState}
use Rattle.ib_rule.specs.Views.{total, with_raises}
use Rattle.ib_mtr.specs.Mtr.{IsReleasedTo, with_work, without_all}
use Rattle.ib_mtr.proofs.Ending.{IsKeptBy, kept_by_releases, kept_raising}
use Rattle.ib_mtr.proofs.NowaitCommitting.{all_looks}
use Rattle.ib_cursor.specs.declared.fault.NowaitFault.{NowaitFault}
use Rattle.ib_cursor.specs.declared.fault.NowaitFault.TheVariants.{Busy, Raced}
use Rattle.ib_cursor.specs.Contention.{WasRefused}
use Rattle.ib_cursor.specs.Refusals.{AreFewLooks, WasRefusedIn}
use Rattle.ib_scan.specs.Steps.{IsAside}

-- a reader's refusal is one in S
pub refused_reader : (f : NowaitFault) (a b : Looks) → WasRefused f a b → WasRefusedIn S f a b
refused_reader (Busy latch word) a b r = record { count = r.count; low = r.low; at = r.at; before = r.before; is = r.is }
refused_reader (Raced latch word found) a b r = record { count = r.count; high = r.high; other = r.other; at = r.at; before = r.before; is = r.is }

-- no look more, no step of who waits, and no grant
pub few_as : (n : ℕ) (u v w : View) → w.looks.count ≡ v.looks.count → w.looks.waits ≡ v.looks.waits → w.grants ≡ v.grants → AreFewLooks n u v → AreFewLooks n u w
few_as n u v w count waits grants few = let g = ap total grants in let a = few.least in let b = few.most in record { least = omega arith; most = omega arith; waits = waits ∙ few.waits }

-- all was given up
pub record HasGivenAll (p q : PassState) : Type 0 where
  pub aside : IsAside p q
  pub all : q.view.looks.all ≡ p.view.looks.all
  pub count : q.view.looks.count ≡ p.view.looks.count
  pub waits : q.view.looks.waits ≡ p.view.looks.waits

pub given_all : (p q : PassState) → IsReleasedTo 0 (with_work [] p) q → HasGivenAll p q
given_all p q is =
    let view : q.view ≡ with_raises q.view.looks.raises (without_all p.memo p.view) = ap (λ (s : PassState). s.view) is in
    let kept : IsKeptBy p.view q.view = subst (IsKeptBy p.view) (sym view) (kept_raising q.view.looks.raises p.view (without_all p.memo p.view) (kept_by_releases p.memo p.view)) in
    record {
      aside = record {
        table = ap (λ (s : PassState). s.table) is;
        sizes = ap (λ (s : PassState). s.sizes) is;
        number = ap (λ (s : PassState). s.number) is;
        own = kept.own;
        seen = kept.seen;
        ends = kept.ends;
        grants = kept.grants;
      };
      all = ap (λ (w : View). w.looks.all) view ∙ all_looks p.memo p.view;
      count = kept.looks;
      waits = kept.waits;
    }

-- what is said of an answer follows from what was said of it
pub on_ok : {A E : Type 0} {P Q : Type 0} (r : Result A E) → (P → Q) → OnOk r P → OnOk r Q
on_ok (Ok x) f h = f h
on_ok (Err e) f h = tt

pub if_err : {A E : Type 0} (P Q : E → Type 0) (r : Result A E) → ((e : E) → P e → Q e) → IfErr r P → IfErr r Q
if_err P Q (Ok x) f h = tt
if_err P Q (Err e) f h = f e h
