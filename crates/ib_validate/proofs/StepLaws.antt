-- The steps of the visits at one page, by where it was met.
use Rattle.std.proofs.Common.{◌≡◌, ℕ, zero, suc, ◌-◌, ◌<◌, Bool, true, false, cond, [], Option, Some, None, refl, sym, ap, ◌∙◌, arith}
use Rattle.ib_walk.specs.Pages.{PageMemory}
use Rattle.ib_walk.specs.Walk.{Visit, children_of}
use Rattle.ib_validate.specs.PatchTest.{Position, Positions, visit_of, attach, children_at, height_below, detach, detach_at, visit_at, then_do, are_back, back_at}
use Rattle.ib_validate.specs.Positions.{IsStep, AreVisits}
use Rattle.ib_walk.proofs.ChoiceLaws.{cond-eq}

children_at-zero : (m : PageMemory) (h : ℕ) (v : Visit) → h ≡ 0 → children_at m h v ≡ []
children_at-zero m zero v e = refl
children_at-zero m (suc h) v e = absurd (omega arith)

children_at-node : (m : PageMemory) (h : ℕ) (v : Visit) → 0 < h → children_at m h v ≡ children_of (m v.page).records v.high
children_at-node m zero v lt = absurd (omega arith)
children_at-node m (suc h) v lt = refl

height_below-node : (h : ℕ) → 0 < h → height_below h ≡ h - 1
height_below-node zero lt = absurd (omega arith)
height_below-node (suc h) lt = omega arith

module _ (m : PageMemory) (page : ℕ) (o : Option Position) where
  pub detach_at-none : (now : Positions) → o ≡ None → detach_at m page o now ≡ now
  detach_at-none now e = ap (λ q. detach_at m page q now) e

  pub detach_at-leaf : (now : Positions) (e : Position) → o ≡ Some e → e.height ≡ 0 → detach_at m page o now ≡ now
  detach_at-leaf now e s z = ap (λ q. detach_at m page q now) s ∙ ap (λ ks. detach ks now) (children_at-zero m e.height (visit_of page e) z)

  pub detach_at-node : (now : Positions) (e : Position) → o ≡ Some e → 0 < e.height → detach_at m page o now ≡ detach (children_of (m page).records e.high) now
  detach_at-node now e s z = ap (λ q. detach_at m page q now) s ∙ ap (λ ks. detach ks now) (children_at-node m e.height (visit_of page e) z)

  pub back_at-node : (w : ℕ → Bool) (now : Positions) (e : Position) → o ≡ Some e → 0 < e.height → back_at w m page o now ≡ are_back w (children_of (m page).records e.high) now
  back_at-node w now e s z = ap (λ q. back_at w m page q now) s ∙ ap (λ ks. are_back w ks now) (children_at-node m e.height (visit_of page e) z)

module _ (written : ℕ → Bool) (old : Positions) (new : PageMemory) (good : ℕ → Visit → Bool) (h page : ℕ) (now : Positions) where
  visit_at-here : (o : Option Position) (e : Position) (b : Bool) → o ≡ Some e → e.height ≡ h → good h (visit_of page e) ≡ b
      → visit_at written old new good h page o now ≡ cond b (attach written old e.tree (height_below h) (children_at new h (visit_of page e)) now) None
  visit_at-here o e b s z g = ap (λ q. visit_at written old new good h page q now) s
      ∙ (cond-eq e.height h (cond (good h (visit_of page e)) (attach written old e.tree (height_below h) (children_at new h (visit_of page e)) now) None) (Some now) z
      ∙ ap (λ q. cond q (attach written old e.tree (height_below h) (children_at new h (visit_of page e)) now) None) g)

  pub visit_at-bad : (o : Option Position) (e : Position) → o ≡ Some e → e.height ≡ h → good h (visit_of page e) ≡ false → visit_at written old new good h page o now ≡ None
  visit_at-bad o e s z g = visit_at-here o e false s z g

  pub visit_at-leaf : (o : Option Position) (e : Position) → o ≡ Some e → e.height ≡ h → good h (visit_of page e) ≡ true → h ≡ 0 → visit_at written old new good h page o now ≡ Some now
  visit_at-leaf o e s z g leaf = visit_at-here o e true s z g ∙ ap (λ ks. attach written old e.tree (height_below h) ks now) (children_at-zero new h (visit_of page e) leaf)

  pub visit_at-node : (o : Option Position) (e : Position) → o ≡ Some e → e.height ≡ h → good h (visit_of page e) ≡ true → 0 < h
      → visit_at written old new good h page o now ≡ attach written old e.tree (h - 1) (children_of (new page).records e.high) now
  visit_at-node o e s z g node = visit_at-here o e true s z g
      ∙ (ap (λ k. attach written old e.tree k (children_at new h (visit_of page e)) now) (height_below-node h node)
      ∙ ap (λ ks. attach written old e.tree (h - 1) ks now) (children_at-node new h (visit_of page e) node))

pub then_do-some : (f : Positions → Option Positions) (o : Option Positions) (t : Positions) → o ≡ Some t → then_do o f ≡ f t
then_do-some f o t e = ap (λ q. then_do q f) e

pub step-true : (o : Option Positions) (b : Bool) (t : Positions) → b ≡ true → IsStep o b t → o ≡ Some t
step-true o true t e h = h
step-true o false t e h = absurd (let x = e in cc)

pub step-false : (o : Option Positions) (b : Bool) (t : Positions) → b ≡ false → IsStep o b t → o ≡ None
step-false o false t e h = h
step-false o true t e h = absurd (let x = e in cc)

pub step-by : (o p : Option Positions) (b : Bool) (t : Positions) → o ≡ p → IsStep p b t → IsStep o b t
step-by o p true t e h = e ∙ h
step-by o p false t e h = e ∙ h

pub visits-by : (o : Option Positions) (back : Positions → Bool) (b : Bool) (t : Positions) → o ≡ Some t → back t ≡ b → AreVisits o back b t
visits-by o back true t e h = (e, h)
visits-by o back false t e h = λ u q. ap back (same u t (sym q ∙ e)) ∙ h
  where
    same : (u t : Positions) → Some u ≡ Some t → u ≡ t
    same u t e = cc

pub visits-none : (o : Option Positions) (back : Positions → Bool) (b : Bool) (t : Positions) → o ≡ None → b ≡ false → AreVisits o back b t
visits-none o back true t e h = absurd (let x = h in cc)
visits-none o back false t e h = λ u q. absurd (let x = sym q ∙ e in cc)

pub visits-true : (o : Option Positions) (back : Positions → Bool) (b : Bool) (t : Positions) → AreVisits o back b t → b ≡ true → (o ≡ Some t) × (back t ≡ true)
visits-true o back true t h e = h
visits-true o back false t h e = absurd (let x = e in cc)
