-- The leaves in front are given up, and at the end the last one.
use Rattle.std.specs.Prelude.{◌==◌, ◌||◌, not, nat_lt, filter, slice_get, IfSome, Option}
use Rattle.std.proofs.Common.{◌≡◌, ◌≢◌, ℕ, suc, ◌+◌, ◌<◌, Bool, List, [], ◌∷◌, ◌++◌, Some, None, length, refl, ap, ◌∙◌, arith, length-append, ne_eqb}
use Rattle.std.proofs.lemmas.List.{length-map}
use Rattle.ib_levels.specs.declared.level.Mode.TheVariants.{S}
use Rattle.ib_core.specs.Sessions.{holdings}
use Rattle.ib_page.specs.Work.{WorkPage}
use Rattle.ib_rule.specs.Pass.{PassState}
use Rattle.ib_mtr.specs.Mtr.{IsUnchangedOn, MayRelease, IsReleasedAt, released_at}
use Rattle.ib_cursor.specs.Grants.{Grant, memo_of, page_grant, HasGrants, IsAway}
use Rattle.ib_cursor.proofs.LatchingLaws.{IsBeside}
use Rattle.ib_cursor.proofs.GrantLaws.{given, grants_left, released_is}
use Rattle.ib_scan.specs.Steps.{AreApart, HasFront, IsAside}
use Rattle.ib_scan.proofs.PassLaws.{loaded_unchanged}

away-last : (l : ℕ) (gs : List Grant) (g : Grant) → IsAway l (gs ++ g ∷ []) → g.latch ≢ l
away-last l [] g away = away.0
away-last l (x ∷ xs) g away = away-last l xs g away.1

-- the page of another latch stays loaded
work-stays : (leaf l : ℕ) (image : List ℕ) (b : Bool) → leaf + 2 ≢ l
    → filter (λ (w : WorkPage). not (w.page + 2 == l) || b) (record { page = leaf; before = image; changed = image } ∷ []) ≡ record { page = leaf; before = image; changed = image } ∷ []
work-stays leaf l image b other = let none = ne_eqb (leaf + 2) l other in rw none refl

if-any : {X : Type 0} (P : X → Type 0) (o : Option X) → ((x : X) → P x) → IfSome o P
if-any P None f = tt
if-any P (Some x) f = f x

pub may_leave : (count leaf : ℕ) (image : List ℕ) (p : PassState) → HasFront count leaf image p → MayRelease 0 p
may_leave count leaf image p f = if-any (λ g. IsUnchangedOn g.0.0 p.work) (slice_get p.memo 0) (λ g page e. loaded_unchanged leaf page image p.work f.work)

pub front_there : (count leaf : ℕ) (image : List ℕ) (p : PassState) → HasFront count leaf image p → 0 < length p.memo
front_there count leaf image p f =
    let a = ap length f.grants.memo in let b = length-map (f.front ++ page_grant leaf S ∷ []) memo_of in let c = length-append f.front (page_grant leaf S ∷ []) in omega arith

pub aside_none : (p : PassState) → IsAside p p
aside_none p = record { table = refl; sizes = refl; number = refl; own = refl; seen = refl; ends = refl; grants = refl }

pub aside_both : (p q r : PassState) → IsAside p q → IsAside q r → IsAside p r
aside_both p q r a b = record { table = b.table ∙ a.table; sizes = b.sizes ∙ a.sizes; number = b.number ∙ a.number; own = b.own ∙ a.own; seen = b.seen ∙ a.seen; ends = b.ends ∙ a.ends; grants = b.grants ∙ a.grants }

pub beside_aside : (p q : PassState) → IsAside p q → IsBeside p q
beside_aside p q a = record { table = a.table; sizes = a.sizes; number = a.number; own = a.own; seen = a.seen; ends = a.ends }

-- one grant is given back
pub record HasStepped (n leaf : ℕ) (image : List ℕ) (p q : PassState) : Type 0 where
  pub front : HasFront n leaf image q
  pub aside : IsAside p q

pub front_step : (n leaf : ℕ) (image : List ℕ) (p q : PassState) → HasFront (suc n) leaf image p → IsReleasedAt 0 p q → HasStepped n leaf image p q
front_step n leaf image p q f release = go f.front f.size f.grants f.apart
  where
    go : (front : List Grant) → length front ≡ suc n → HasGrants (front ++ page_grant leaf S ∷ []) p → AreApart (front ++ page_grant leaf S ∷ []) → HasStepped n leaf image p q
    go [] size has apart = absurd (omega arith)
    go (g ∷ gs) size has apart =
        let other : leaf + 2 ≢ g.latch = away-last g.latch gs (page_grant leaf S) apart.0 in
        let gave = given [] g (gs ++ page_grant leaf S ∷ []) p q has tt apart.0 release in
        let is = released_is [] g (gs ++ page_grant leaf S ∷ []) p q has tt apart.0 release in
        let b : Bool = nat_lt 0 (holdings g.latch (released_at 0 (memo_of g) p).view.session) in
        record {
          front = record {
            front = gs;
            size = omega (arith, size);
            grants = grants_left [] g (gs ++ page_grant leaf S ∷ []) p q has tt apart.0 release;
            apart = apart.1;
            watched = gave.watched (leaf + 2) other ∙ f.watched;
            work = ap (λ (u : PassState). u.work) is ∙ (ap (filter (λ (w : WorkPage). not (w.page + 2 == g.latch) || b)) f.work ∙ work-stays leaf g.latch image b other);
          };
          aside = record { table = gave.beside.table; sizes = gave.beside.sizes; number = gave.beside.number; own = gave.beside.own; seen = gave.beside.seen; ends = gave.beside.ends; grants = gave.grants };
        }

-- the last one is given back
pub record HasLeft (p q : PassState) : Type 0 where
  pub none : HasGrants [] q
  pub aside : IsAside p q

pub last_step : (leaf : ℕ) (image : List ℕ) (p q : PassState) → HasFront 0 leaf image p → IsReleasedAt 0 p q → HasLeft p q
last_step leaf image p q f release = go f.front f.size f.grants
  where
    go : (front : List Grant) → length front ≡ 0 → HasGrants (front ++ page_grant leaf S ∷ []) p → HasLeft p q
    go (g ∷ gs) size has = absurd (omega arith)
    go [] size has =
        let gave = given [] (page_grant leaf S) [] p q has tt tt release in
        record {
          none = grants_left [] (page_grant leaf S) [] p q has tt tt release;
          aside = record { table = gave.beside.table; sizes = gave.beside.sizes; number = gave.beside.number; own = gave.beside.own; seen = gave.beside.seen; ends = gave.beside.ends; grants = gave.grants };
        }
