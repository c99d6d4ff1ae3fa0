-- A descent that gave up.
use Rattle.std.proofs.Common.{◌≡◌, inl, inr, ℕ, ◌+◌, ◌≤◌, false, List, [], ◌∷◌, Some, refl, sym, ap, subst, ◌∙◌, arith}
use Rattle.ib_map.specs.Keys.{MapKey}
use Rattle.ib_levels.specs.declared.latch.Latch.{Latch}
use Rattle.ib_levels.specs.declared.level.Mode.TheVariants.{S}
use Rattle.ib_layout.specs.Geometry.{Sizes}
use Rattle.ib_logrec.specs.declared.entry.Entry.{Entry}
use Rattle.ib_tree.specs.Logs.{pages_after}
use Rattle.ib_rule.specs.declared.looks.Grants.{Grants}
use Rattle.ib_rule.specs.declared.looks.Looks.{Looks}
use Rattle.ib_rule.specs.Pass.{PassState}
use Rattle.ib_rule.specs.Views.{with_grant}
use Rattle.ib_latch.specs.declared.tries.TryFault.{TryFault}
use Rattle.ib_latch.specs.declared.tries.TryFault.TheVariants.{Busy as TryBusy, Raced as TryRaced}
use Rattle.ib_latch.proofs.RefusalLaws.{refused_later}
use Rattle.ib_mtr.specs.Mtr.{IsReleasedAt}
use Rattle.ib_cursor.specs.declared.fault.NowaitFault.{NowaitFault}
use Rattle.ib_cursor.specs.declared.fault.NowaitFault.TheVariants.{Busy, Raced}
use Rattle.ib_cursor.specs.OnPath.{IsOnPath}
use Rattle.ib_cursor.specs.Grants.{Grant, index_grant, page_grant, HasGrants, HasTaken}
use Rattle.ib_cursor.specs.Descent.{IsDown}
use Rattle.ib_cursor.specs.Contention.{fault_on, refused_latch, WasRefused, IsContended}
use Rattle.ib_cursor.specs.Refusals.{IsVainOnPath, IsVainTry, WasRefusedIn, try_of}
use Rattle.ib_cursor.proofs.LatchingLaws.{went_beside, went_both, known_beside, beside_taken, looked_first, looked_then, some_end}
use Rattle.ib_cursor.proofs.GrantLaws.{grants_more, given, grants_left}

-- the latch of a fault
pub latch-of : (latch : Latch) (fault : TryFault) → refused_latch (fault_on latch fault) ≡ latch.0
latch-of latch (TryBusy w) = refl
latch-of latch (TryRaced w found) = refl

-- a refusal in S is a reader's
as_reader : (f : NowaitFault) (a b : Looks) → WasRefusedIn S f a b → WasRefused f a b
as_reader (Busy latch word) a b r = record { count = r.count; low = r.low; at = r.at; before = r.before; is = r.is }
as_reader (Raced latch word found) a b r = record { count = r.count; high = r.high; other = r.other; at = r.at; before = r.before; is = r.is }

-- .. and between earlier looks and later ones, where none came in between
reader_later : (f : NowaitFault) (a b c d : Looks) → a.count ≤ b.count → WasRefusedIn S f b c → d.all ≡ c.all → d.count ≡ c.count → WasRefused f a d
reader_later f a b c d le r all count = as_reader f a d (refused_later S (refused_latch f) (try_of f) a b c d le r all count)

-- what is held is held still
vain_grants : (sizes : Sizes) (lawful : List Entry → Type 0) (l : ℕ) (f : NowaitFault) (gs : List Grant) (p q : PassState) → HasGrants gs p → IsVainTry sizes lawful S l f p q → HasGrants gs q
vain_grants sizes lawful l f gs p q has v = record { memo = v.memo ∙ has.memo; session = v.session ∙ has.session }

module _ (sizes : Sizes) (lawful : List Entry → Type 0) (opening : ℕ → ℕ) (root : ℕ) (key : MapKey) (f : NowaitFault) where
  -- the index was refused
  pub contended_index : (p q : PassState) → HasGrants [] p → p.work ≡ [] → IsVainTry sizes lawful S 1 f p q → IsContended sizes lawful opening root key f p q
  contended_index p q has none v =
      let gs : q.view.grants.s ≡ p.view.grants.s = ap (λ (g : Grants). g.s) v.grants in
      record {
        went = v.looked_on.seen.went;
        looked = some_end v.looked_on.seen.one;
        known = v.looked_on.seen.known;
        grants = vain_grants sizes lawful 1 f [] p q has v;
        work = v.work ∙ none;
        on_path = inl v.at;
        refused = as_reader f p.view.looks q.view.looks v.refused;
        s = omega arith;
        sx = ap (λ (g : Grants). g.sx) v.grants;
        x = ap (λ (g : Grants). g.x) v.grants;
      }

  -- the root was refused, and the index is given up
  pub contended_root : (page level : ℕ) (p q r s : PassState) → HasGrants [] p → p.work ≡ [] → HasTaken index_grant p q → p.view.looks.count ≤ q.view.looks.count
      → IsVainOnPath sizes lawful opening root key S page level f q r → IsReleasedAt 0 r s → IsContended sizes lawful opening root key f p s
  contended_root page level p q r s has none taken count stop release =
      let one = grants_more [] index_grant p q has (ap (λ (r : PassState). r.memo) taken.pass) taken.taken.session in
      let held = vain_grants sizes lawful (page + 2) f (index_grant ∷ []) q r one stop.vain in
      let gave = given [] index_grant [] r s held tt tt release in
      let b = beside_taken index_grant p q taken in
      let to_r = went_both p q r (went_beside p q b) stop.vain.looked_on.seen.went in
      let same : s.view.grants ≡ with_grant (Some S) p.view.grants = gave.grants ∙ (stop.vain.grants ∙ taken.taken.grants) in
      let gs : s.view.grants.s ≡ p.view.grants.s + 1 = ap (λ (g : Grants). g.s) same in
      record {
        went = went_both p r s to_r (went_beside r s gave.beside);
        looked = looked_first p r s to_r (went_beside r s gave.beside) (looked_then p q r (went_beside p q b) stop.vain.looked_on.seen.went (some_end stop.vain.looked_on.seen.one));
        known = known_beside sizes lawful r s gave.beside stop.vain.looked_on.seen.known;
        grants = grants_left [] index_grant [] r s held tt tt release;
        work = gave.work (stop.vain.work ∙ (ap (λ (r : PassState). r.work) taken.pass ∙ none));
        on_path = inr (page, level, stop.vain.at, subst (λ l. IsOnPath (pages_after opening l) root key page level) (sym gave.beside.seen) stop.on_path);
        refused = reader_later f p.view.looks q.view.looks r.view.looks s.view.looks count stop.vain.refused gave.all_looks gave.count_looks;
        s = omega arith;
        sx = ap (λ (g : Grants). g.sx) same;
        x = ap (λ (g : Grants). g.x) same;
      }

  -- a page below was refused, and the page above it and the index are given up
  pub contended_below : (above page level child low : ℕ) (p q r s t : PassState) → IsDown sizes lawful opening root key (index_grant ∷ []) false above page level p q → p.view.looks.count ≤ q.view.looks.count
      → IsVainOnPath sizes lawful opening root key S child low f q r → IsReleasedAt 1 r s → IsReleasedAt 0 s t → IsContended sizes lawful opening root key f p t
  contended_below above page level child low p q r s t down count stop first second =
      let held = vain_grants sizes lawful (child + 2) f (index_grant ∷ page_grant page down.mode ∷ []) q r down.here.grants stop.vain in
      let gave = given (index_grant ∷ []) (page_grant page down.mode) [] r s held ((λ e. absurd (omega arith)), tt) tt first in
      let left = grants_left (index_grant ∷ []) (page_grant page down.mode) [] r s held ((λ e. absurd (omega arith)), tt) tt first in
      let last = given [] index_grant [] s t left tt tt second in
      let to_r = went_both p q r down.went stop.vain.looked_on.seen.went in
      let to_s = went_both p r s to_r (went_beside r s gave.beside) in
      let same : t.view.grants ≡ q.view.grants = last.grants ∙ (gave.grants ∙ stop.vain.grants) in
      let gs : t.view.grants.s ≡ q.view.grants.s = ap (λ (g : Grants). g.s) same in
      record {
        went = went_both p s t to_s (went_beside s t last.beside);
        looked = looked_first p s t to_s (went_beside s t last.beside) (looked_first p r s to_r (went_beside r s gave.beside) (looked_first p q r down.went stop.vain.looked_on.seen.went down.looked));
        known = known_beside sizes lawful s t last.beside (known_beside sizes lawful r s gave.beside stop.vain.looked_on.seen.known);
        grants = grants_left [] index_grant [] s t left tt tt second;
        work = last.work (gave.work (stop.vain.work ∙ down.here.work));
        on_path = inr (child, low, stop.vain.at, subst (λ l. IsOnPath (pages_after opening l) root key child low) (sym (last.beside.seen ∙ gave.beside.seen)) stop.on_path);
        refused = reader_later f p.view.looks q.view.looks r.view.looks t.view.looks count stop.vain.refused (last.all_looks ∙ gave.all_looks) (last.count_looks ∙ gave.count_looks);
        s = let z = down.s in let h = down.short in omega arith;
        sx = ap (λ (g : Grants). g.sx) same ∙ down.sx;
        x = ap (λ (g : Grants). g.x) same ∙ (down.finds refl).1;
      }
