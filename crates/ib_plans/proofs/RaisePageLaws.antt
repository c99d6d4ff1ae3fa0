-- The pages of a planned raise are those of a raise.
use Rattle.std.proofs.Common.{◌≡◌, ◌≢◌, ℕ, ◌<◌, ◌≤◌, ◌∙◌, [], ◌∷◌, suc, cond, refl, sym, ap, arith, eqb}
use Rattle.ib_map.specs.Keys.{least}
use Rattle.ib_map.proofs.KeyLaws.{rank-least}
use Rattle.ib_walk.specs.Pages.{Free, PageMemory, PageState, Tree}
use Rattle.ib_walk.proofs.ChoiceLaws.{cond-eq, cond-ne}
use Rattle.ib_walk.proofs.WalkLaws.{IsAlike}
use Rattle.ib_plans.specs.Split.{first_key, left_part, raise_page, right_part}
use Rattle.ib_plans.specs.declared.TheConstants.{LEFT_RECORDS}
use Rattle.ib_plans.proofs.RaiseLaws.{IsRaised}
use Rattle.ib_plans.proofs.RecordLaws.{Halves}

-- a root with records for two halves, and two fresh pages
module _ (m : PageMemory) (root a b : ℕ) (ra : root ≢ a) (rb : root ≢ b) (ab : a ≢ b) (free-a : (m a).kind ≡ Free) (free-b : (m b).kind ≡ Free) (h : Halves LEFT_RECORDS (m root).records) where
  abbrev page-a : PageState
  page-a = record { kind = Tree; level = (m root).level; prev = 0; next = cond (eqb (m root).level 0) b 0; clock = (m a).clock; records = left_part (m root).records }

  abbrev page-b : PageState
  page-b = record { kind = Tree; level = (m root).level; prev = cond (eqb (m root).level 0) a 0; next = 0; clock = (m b).clock; records = right_part (m root).records }

  abbrev page-root : PageState
  page-root = record { kind = Tree; level = suc (m root).level; prev = 0; next = 0; clock = (m root).clock; records = (least, a) ∷ (first_key (right_part (m root).records), b) ∷ [] }

  -- each page after a raise
  pub raise_page-left : raise_page m root a b a ≡ page-a
  raise_page-left = cond-eq a a page-a _ refl

  pub raise_page-right : raise_page m root a b b ≡ page-b
  raise_page-right = cond-ne b a page-a _ (λ e. ab (sym e)) ∙ cond-eq b b page-b _ refl

  pub raise_page-root : raise_page m root a b root ≡ page-root
  raise_page-root = cond-ne root a page-a _ ra ∙ (cond-ne root b page-b _ rb ∙ cond-eq root root page-root _ refl)

  pub raise_page-other : (n : ℕ) → n ≢ root → n ≢ a → n ≢ b → raise_page m root a b n ≡ m n
  raise_page-other n nr na nb = cond-ne n a page-a _ na ∙ (cond-ne n b page-b _ nb ∙ cond-ne n root page-root _ nr)

  pub raise_page-beside : (n : ℕ) → (m n).kind ≡ Tree → (m n).level ≤ (m root).level → n ≢ root → IsAlike (raise_page m root a b n) (m n)
  raise_page-beside n k l ne =
      let x = raise_page-other n ne (λ e. let z = ap (λ q. (m q).kind) e in let y = free-a in cc) (λ e. let z = ap (λ q. (m q).kind) e in let y = free-b in cc) in
      record { kind = ap (λ (p : PageState). p.kind) x; level = ap (λ (p : PageState). p.level) x; records = ap (λ (p : PageState). p.records) x }

  -- so it is a raise, and the pages of a node have no links
  abbrev pub IsRaised-page : IsRaised m (raise_page m root a b) root a b (m root).level
  IsRaised-page = record {
    halved = record {
      left = left_part (m root).records;
      first = h.first;
      rest = h.rest;
      halves = h.both;
      some = let e = h.left in omega arith;
      at = refl;
      home_kind = ap (λ (p : PageState). p.kind) raise_page-left;
      home_level = ap (λ (p : PageState). p.level) raise_page-left;
      home_records = ap (λ (p : PageState). p.records) raise_page-left;
      fresh_kind = ap (λ (p : PageState). p.kind) raise_page-right;
      fresh_level = ap (λ (p : PageState). p.level) raise_page-right;
      fresh_records = ap (λ (p : PageState). p.records) raise_page-right ∙ h.right;
      beside = raise_page-beside;
    };
    bottom = least;
    least = rank-least;
    kind = ap (λ (p : PageState). p.kind) raise_page-root;
    level = ap (λ (p : PageState). p.level) raise_page-root;
    records = ap (λ (p : PageState). p.records) raise_page-root ∙ ap (λ rs. (least, a) ∷ (first_key rs, b) ∷ []) h.right;
    links = λ z. (
      ap (λ (p : PageState). p.prev) raise_page-left,
      ap (λ (p : PageState). p.next) raise_page-left ∙ cond-eq {X = ℕ} (m root).level 0 b 0 z,
      (ap (λ (p : PageState). p.prev) raise_page-right ∙ cond-eq {X = ℕ} (m root).level 0 a 0 z, ap (λ (p : PageState). p.next) raise_page-right, tt),
    );
  }

  pub raise_page-links : 0 < (m root).level → ((raise_page m root a b a).prev ≡ 0) × ((raise_page m root a b a).next ≡ 0) × ((raise_page m root a b b).prev ≡ 0) × ((raise_page m root a b b).next ≡ 0)
  raise_page-links up = let ne : (m root).level ≢ 0 = λ e. (omega arith) in (
    ap (λ (p : PageState). p.prev) raise_page-left,
    ap (λ (p : PageState). p.next) raise_page-left ∙ cond-ne {X = ℕ} (m root).level 0 b 0 ne,
    ap (λ (p : PageState). p.prev) raise_page-right ∙ cond-ne {X = ℕ} (m root).level 0 a 0 ne,
    ap (λ (p : PageState). p.next) raise_page-right,
  )
