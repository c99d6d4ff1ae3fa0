-- A page is latched, read, and given up.
use Rattle.std.specs.Prelude.{◌==◌, slice_index}
use Rattle.std.proofs.Common.{◌≡◌, ℕ, ◌+◌, ◌<◌, ◌≤◌, ◌^◌, ◌∙◌, true, List, [], ◌∷◌, ◌++◌, None, length, refl, sym, ap, subst, arith, eq-eqb}
use Rattle.std.proofs.lemmas.List.Elements.{All-nil}
use Rattle.ib_map.specs.declared.TheConstants.{PAGE_WORDS}
use Rattle.ib_map.specs.Writes.{word_place}
use Rattle.ib_levels.specs.declared.holding.Holding.{Holding}
use Rattle.ib_levels.specs.declared.level.Level.{Level}
use Rattle.ib_levels.specs.declared.level.Mode.TheVariants.{S}
use Rattle.ib_levels.specs.Holding.{without_latch}
use Rattle.ib_levels.specs.Level.{MayFollow}
use Rattle.ib_levels.proofs.Counts.{on-push_here}
use Rattle.ib_layout.specs.Geometry.{Sizes}
use Rattle.ib_core.specs.declared.phase.Phase.TheVariants.{Free}
use Rattle.ib_core.specs.declared.session.Session.{Session}
use Rattle.ib_core.specs.Holders.{CanWish}
use Rattle.ib_core.specs.Sessions.{idle, holdings, reads}
use Rattle.ib_core.specs.Takings.{first_holding, holding_too}
use Rattle.ib_logrec.specs.declared.entry.Entry.{Entry}
use Rattle.ib_logrec.specs.Log.{memory_after, used}
use Rattle.ib_rule.specs.declared.memory.Knowledge.{Knowledge}
use Rattle.ib_rule.specs.declared.view.Role.{Role}
use Rattle.ib_rule.specs.declared.view.Role.TheVariants.{Session as SessionRole}
use Rattle.ib_rule.specs.declared.view.View.{View}
use Rattle.ib_rule.specs.Conditions.{MayGrow, held_now}
use Rattle.ib_rule.specs.Memory.{entries_of}
use Rattle.ib_rule.specs.Pass.{PassState, IsOf, with_view}
use Rattle.ib_rule.specs.Roles.{session_number_of}
use Rattle.ib_rule.specs.Space.{SpaceState}
use Rattle.ib_rule.specs.Stores.{IsLook}
use Rattle.ib_rule.specs.Views.{reaching, total}
use Rattle.ib_rule.specs.Loads.{with_page_loaded}
use Rattle.ib_latch.specs.declared.tries.Reserve.TheVariants.{Owned}
use Rattle.ib_latch.specs.Tries.{HasTakenGrant}
use Rattle.ib_latch.specs.Unlocks.{IsReleased}
use Rattle.ib_latch.specs.Waits.{IsWon}
use Rattle.ib_walk.specs.Words.{image_of}
use Rattle.ib_walk.proofs.ImageLaws.{image_of-list}
use Rattle.ib_image.specs.declared.copy.CopiedPage.{CopiedPage}
use Rattle.ib_image.specs.Copying.{CopiesPage, HasOnlySeen}

-- an idle session may take any latch
pub idle_wish : (l : ℕ) (v : Level) (a : Session) → a ≡ idle → CanWish l v a
idle_wish l v a is = subst (CanWish l v) (sym is) (record { free = refl; none = refl; allowed = All-nil (λ held. MayFollow held v) })

pub idle_grow : (v : View) → v.session ≡ idle → total v.grants < 2 ^ 52 → MayGrow v
idle_grow v is few = (few, subst (λ (a : Session). held_now a < 8192) (sym is) (omega arith))

-- one grant of S alone
abbrev pub alone : ℕ → Level → Session
alone l v = record { held = first_holding S l v ∷ []; phase = Free }

pub alone_held : (l : ℕ) (v : Level) → 0 < holdings l (alone l v)
alone_held l v = let e = on-push_here l (λ h. 1) [] (first_holding S l v) refl in omega arith

pub alone_reads : (l : ℕ) (v : Level) → 0 < reads l (alone l v)
alone_reads l v = let e = on-push_here l (λ h. h.s) [] (first_holding S l v) refl in omega arith

none-left : (l : ℕ) (v : Level) → without_latch l (first_holding S l v ∷ []) ≡ []
none-left l v = let yes : (l == l) ≡ true = eq-eqb l l refl in rw yes refl

pub view_trans : (p q r : PassState) → q ≡ with_view p q.view → r ≡ with_view q r.view → r ≡ with_view p r.view
view_trans p q r one two = two ∙ ap (λ (s : PassState). with_view s r.view) one

view-own : (p q : PassState) (v : View) → q ≡ with_view p v → q ≡ with_view p q.view
view-own p q v is = is ∙ ap (λ (s : PassState). with_view p s.view) (sym is)

module _ (l : ℕ) (level : Level) (p q : PassState) (idle_before : p.view.session ≡ idle) (taken : HasTakenGrant S (holding_too S l level p.view.session.held) Free p.view q.view) where
  pub taken_alone : q.view.session ≡ alone l level
  taken_alone = taken.session ∙ ap (λ (a : Session). let b : Session = record { held = holding_too S l level a.held; phase = Free } in b) idle_before

pub read_of : (space : SpaceState) (q r : PassState) (v : View) → IsOf space q → r ≡ with_view q v → v.memory.append ≡ None → IsOf space r
read_of space q r v own is none = record { table = ap (λ (s : PassState). s.table) is ∙ own.table; sizes = ap (λ (s : PassState). s.sizes) is ∙ own.sizes; closed = ap (λ (s : PassState). s.view.memory.append) is ∙ none }

-- what is known but for what is seen, by which ends, and of latches is as it was
pub only_seen : (ends : List ℕ) (m n : Knowledge) → n.met ≡ m.met → n.own ≡ m.own → n.append ≡ m.append → n.ends ≡ m.ends ++ ends → HasOnlySeen ends m n
only_seen ends m n met own append ends_are = λ i. record { met = met i; seen = n.seen; own = own i; ends = ends_are i; since = n.since; loaded = n.loaded; append = append i }

module _ (sizes : Sizes) (lawful : List Entry → Type 0) (opening : ℕ → ℕ) (page : ℕ) (level : Level) (p q r t : PassState) (c : CopiedPage)
    (idle_before : p.view.session ≡ idle) (one : q ≡ with_view p q.view) (won : IsWon S (page + 2) level Owned p q)
    (role : q.view.role ≡ SessionRole q.number) (two : r ≡ with_view q (reaching r.view.memory.seen (with_page_loaded page c.image q.view))) (look : IsLook sizes lawful q.view r.view.memory.seen)
    (words : (index : ℕ) → index < PAGE_WORDS → slice_index c.image index ≡ memory_after opening r.view.memory.seen (word_place page index)) (size : length c.image ≡ PAGE_WORDS) (place : c.place ≡ length r.view.memory.seen)
    (three : IsReleased 1 (page + 2) (without_latch (page + 2) r.view.session.held) r t) where
  session-is : r.view.session ≡ alone (page + 2) level
  session-is = ap (λ (s : PassState). s.view.session) two ∙ taken_alone (page + 2) level p q idle_before won.taken

  seen-is : t.view.memory.seen ≡ r.view.memory.seen
  seen-is = ap (λ (s : PassState). s.view.memory.seen) three.rest

  ends-are : t.view.memory.ends ≡ p.view.memory.ends ++ c.place ∷ []
  ends-are = ap (λ (s : PassState). s.view.memory.ends) three.rest ∙ (ap (λ (s : PassState). s.view.memory.ends) two
      ∙ (ap (λ m. m.ends ++ length r.view.memory.seen ∷ []) won.taken.memory ∙ ap (λ (n : ℕ). p.view.memory.ends ++ n ∷ []) (sym place)))

  own-is : t.view.memory.own ≡ p.view.memory.own
  own-is = ap (λ (s : PassState). s.view.memory.own) three.rest ∙ (ap (λ (s : PassState). s.view.memory.own) two ∙ ap (λ m. m.own) won.taken.memory)

  pub page_copied : CopiesPage sizes lawful opening page c p t
  page_copied =
      let mem = won.taken.memory in
      record {
        pass = view_trans p q t one (view_trans q r t (view-own q r (reaching r.view.memory.seen (with_page_loaded page c.image q.view)) two) (view-own r t _ three.rest));
        idle = ap (λ (s : PassState). s.view.session) three.rest ∙ (ap (λ (a : Session). let b : Session = record { held = without_latch (page + 2) a.held; phase = Free } in b) session-is
            ∙ ap (λ (hs : List Holding). let b : Session = record { held = hs; phase = Free } in b) (none-left (page + 2) level));
        more = look.others;
        seen = seen-is ∙ (sym look.longer ∙ ap (λ m. m.seen ++ look.others) mem);
        memory = only_seen (c.place ∷ []) p.view.memory t.view.memory
            (ap (λ (s : PassState). s.view.memory.met) three.rest ∙ (ap (λ (s : PassState). s.view.memory.met) two ∙ ap (λ m. m.met) mem))
            own-is
            (ap (λ (s : PassState). s.view.memory.append) three.rest ∙ (ap (λ (s : PassState). s.view.memory.append) two ∙ ap (λ m. m.append) mem))
            ends-are;
        place = place ∙ ap length (sym seen-is);
        image = sym (image_of-list (memory_after opening r.view.memory.seen) page c.image size (λ index lt. sym (words index lt))) ∙ ap (λ es. image_of (memory_after opening es) page) (sym seen-is);
        grants = ap (λ (s : PassState). s.view.grants) three.rest ∙ (ap (λ (s : PassState). s.view.grants) two ∙ won.taken.grants);
        looks = record {
          word = won.won.word;
          given = won.won.given;
          at = won.won.at;
          held = won.won.held;
          before = won.won.before;
          last_two = ap (λ (s : PassState). s.view.looks.all) three.rest ∙ (ap (λ (s : PassState). s.view.looks.all) two ∙ won.won.last_two);
        };
        knows = record {
          legal = subst lawful (sym seen-is) look.legal;
          room = subst (λ (es : List Entry). used es ≤ sizes.log_words) (sym seen-is) look.room;
          mine = ap (λ (s : PassState). entries_of s.number s.view.memory.seen) three.rest
              ∙ (ap (λ (s : PassState). entries_of s.number r.view.memory.seen) two
              ∙ (ap (λ (o : Role). entries_of (session_number_of o) r.view.memory.seen) (sym role) ∙ (look.mine ∙ (ap (λ m. m.own) mem ∙ sym own-is))));
        };
      }
