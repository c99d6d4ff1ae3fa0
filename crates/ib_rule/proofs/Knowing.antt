-- A step that changes no word, and no more of its view than its looks and what it knows of the memory.
use Rattle.std.proofs.Common.{◌≡◌, ℕ, ◌*◌, ◌^◌, ◌≤◌, false, List, [], ◌∷◌, set, length, refl, sym, ap, subst, arith, length-append}
use Rattle.std.specs.Prelude.{slice_index}
use mathlib.Core.Option.{some}
use mathlib.Core.List.{IsPrefix}
use lib.ListN.{get_elem?}
use Rattle.atomic_table.specs.Table.{State, keeps, stepped}
use Rattle.ib_layout.specs.Geometry.{Sizes}
use Rattle.ib_layout.specs.Places.{words_of, latches_of, drawn_place}
use Rattle.ib_logrec.specs.declared.entry.Entry.{Entry}
use Rattle.ib_logrec.specs.Log.{by_place}
use Rattle.ib_core.specs.declared.session.Session.{Session}
use Rattle.ib_core.proofs.Elements.{at_set, sum_at}
use Rattle.ib_rule.specs.declared.view.Role.{Role}
use Rattle.ib_rule.specs.declared.looks.Looks.{Looks}
use Rattle.ib_rule.specs.declared.memory.Since.{Since}
use Rattle.ib_rule.specs.declared.memory.Knowledge.{Knowledge}
use Rattle.ib_rule.specs.declared.view.View.{View}
use Rattle.ib_rule.specs.Memory.{SinceFact, stored_in, Follows}
use Rattle.std.specs.List.{AllByRecursion}
use Rattle.ib_rule.specs.Views.{total, role_of, session_in_view, with_looks, with_memory}
use Rattle.ib_rule.specs.Roles.{sessions_in, SessionsPart, session_number_of}
use Rattle.ib_rule.specs.Rule.{LatchPart, PaidPart, WriterPart, IsWriter, IsIdle, RuleHolds}
use Rattle.ib_core.specs.Debts.{debt}
use Rattle.ib_rule.proofs.Stays.{view_part}
use Rattle.ib_rule.proofs.Turning.{map_same}

module _ (lawful : ℕ → List Entry → Type 0) (opening : ℕ → ℕ → ℕ → ℕ) (sizes : Sizes) where
  -- a step that changes no word and no more of its view than that keeps the rule
  pub knows : (s : State (Unit {0}) View) (kept : RuleHolds lawful opening sizes s) (id : ℕ) (v : View) → get_elem? s.views id ≡ some v → (p n' : ℕ) (looks : Looks) (m : Knowledge) (cs : List (ℕ × Unit {0})) → set s.words p n' ≡ s.words
      → Follows sizes (lawful sizes.pages) (by_place opening sizes.pages) s.words kept.log (session_number_of v.role) v.session m → ((q : ℕ) → stored_in m.append q ≡ false → stored_in v.memory.append q ≡ false)
      → RuleHolds lawful opening sizes (stepped s p n' id cs (with_looks looks (with_memory m v)) keeps)
  knows s kept id v at p n' looks m cs same follows closed =
      let w : View = with_looks looks (with_memory m v) in record {
        sized = subst (λ z. length z ≡ words_of sizes) (sym same) kept.sized;
        sessions = subst (λ (z : List ℕ × List Role). SessionsPart (slice_index z.0 drawn_place) z.1) (λ j. (sym same j, sym (map_same role_of s.views id v w at refl) j)) kept.sessions;
        latches = subst (λ (z : List ℕ × List Session). LatchPart (latches_of sizes) z.0 z.1) (λ j. (sym same j, sym (map_same session_in_view s.views id v w at refl) j)) kept.latches;
        idles = at_set (λ _ u. IsIdle u) s.views id w (kept.idles id v at) (λ j b e _. kept.idles j b e);
        paid = subst (λ z. PaidPart (latches_of sizes) z (set s.views id w)) (sym same) record {
          paid = λ k h.
              let t = sum_at (λ (u : View). total u.grants) s.views id v w at in let d = sum_at (λ (u : View). debt k u.session) s.views id v w at in
              let b = kept.paid.paid k h in omega arith;
          bound = at_set (λ _ u. total u.grants ≤ 2 ^ 52 * sessions_in u.role) s.views id w (kept.paid.bound id v at) (λ j u e d. kept.paid.bound j u e);
        };
        writers = subst (λ z. WriterPart (latches_of sizes) z (set s.views id w)) (sym same) (at_set (λ _ u. AllByRecursion (IsWriter (latches_of sizes) s.words u) u.written) s.views id w (kept.writers id v at) (λ j u q _. kept.writers j u q));
        log = kept.log;
        memory = view_part sizes (lawful sizes.pages) (by_place opening sizes.pages) s.words (set s.words p n') kept.log s.views id v w kept.memory at (λ q far. ap (λ (ws : List ℕ). slice_index ws q) same)
            (omega arith) follows (kept.memory.ended id v at) closed;
      }

-- a since is true of each longer list of entries seen
pub old_since : (n k k' : ℕ) (a : Session) (log : List Entry) → k ≤ k' → (xs : List Since) → AllByRecursion (SinceFact n a k log) xs → AllByRecursion (SinceFact n a k' log) xs
old_since n k k' a log more [] each = tt
old_since n k k' a log more (x ∷ xs) each = ((each.0.0, let b = each.0.1 in omega arith, each.0.2), old_since n k k' a log more xs each.1)

pub prefix_short : (xs log : List Entry) → IsPrefix xs log → length xs ≤ length log
prefix_short xs log p = let a = ap length p.1 in let b = length-append xs p.0 in omega arith
