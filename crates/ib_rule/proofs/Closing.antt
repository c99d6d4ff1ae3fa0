-- What the rule says of the words when nobody is connected any more.
use Rattle.std.proofs.Common.{◌≡◌, ℕ, zero, suc, ◌+◌, ◌^◌, ◌<◌, ◌≤◌, List, [], ◌∷◌, map, take, drop, length, get_or, refl, sym, ap, ◌∙◌, subst, arith}
use Rattle.std.specs.Prelude.{slice_index, sum_by, Option, Some, None}
use Rattle.std.proofs.lemmas.List.{get_or-drop, get_or-take, length-drop, length-take}
use mathlib.Core.Logic.{dite}
use mathlib.Core.Option.{some, some-ne-none, some-injective}
use lib.ListN.{get_elem?}
use native.Mathlib.Decide.{ℕ_discrete}
use Rattle.atomic_table.specs.Table.{State}
use Rattle.atomic_table.proofs.Lists.{at_map}
use Rattle.ib_map.specs.Writes.{word_place}
use Rattle.ib_layout.specs.Geometry.{Sizes}
use Rattle.ib_layout.specs.Places.{log_place, page_place}
use Rattle.ib_logrec.specs.declared.entry.Entry.{Entry}
use Rattle.ib_logrec.specs.Log.{used, log_words}
use Rattle.ib_core.specs.Sessions.{x_grants}
use Rattle.ib_core.specs.declared.session.Session.{Session}
use Rattle.ib_core.proofs.Elements.{two_of, same_at}
use Rattle.ib_rule.specs.declared.view.Role.{Role}
use Rattle.ib_rule.specs.declared.view.Role.TheVariants.{Space, Fresh, Session as Seated, Spent, Note}
use Rattle.ib_rule.specs.declared.view.Ended.{Ended}
use Rattle.ib_rule.specs.declared.looks.Grants.{Grants}
use Rattle.ib_rule.specs.declared.memory.OpenAppend.{OpenAppend}
use Rattle.ib_rule.specs.declared.view.View.{View}
use Rattle.ib_rule.specs.Memory.{base, IsAppending, stored_in}
use Rattle.ib_rule.specs.Roles.{live, sessions_in, drawn_in, session_number_of}
use Rattle.ib_rule.specs.Views.{role_of, space_at}
use Rattle.ib_rule.specs.Rule.{RuleHolds}
use Rattle.ib_rule.specs.Closed.{used_in, log_in, IsClosed, IsSized}
use Rattle.ib_rule.proofs.Sessions.{whole_count}

front : (words ys : List ℕ) → length ys ≤ length words → ((k : ℕ) → k < length ys → get_or words k 0 ≡ get_or ys k 0) → take (length ys) words ≡ ys
front words [] room same = refl
front [] (y ∷ ys) room same = absurd (omega arith)
front (w ∷ words) (y ∷ ys) room same = λ i. same 0 (omega arith) i ∷ front words ys (omega arith) (λ k h. same (suc k) (omega arith)) i

-- a stretch of a list, word by word
stretch : (p : ℕ) (words ys : List ℕ) → p + length ys ≤ length words → ((k : ℕ) → k < length ys → get_or words (p + k) 0 ≡ get_or ys k 0) → take (length ys) (drop p words) ≡ ys
stretch p words ys room same = front (drop p words) ys (let d = length-drop p words in omega arith) (λ k h. get_or-drop p words k 0 ∙ same k h)

dead : (r : Role) → sessions_in r ≡ 0 → live r ≡ 0
dead (Space d es) h = refl
dead (Fresh n) h = absurd (omega arith)
dead (Seated n) h = absurd (omega arith)
dead Spent h = refl
dead Note h = refl

module _ (lawful : ℕ → List Entry → Type 0) (opening : ℕ → ℕ → ℕ → ℕ) (sizes : Sizes) (s : State (Unit {0}) View) (kept : RuleHolds lawful opening sizes s) (id d : ℕ) (ended : List Ended) (g : Grants) (at : get_elem? s.views id ≡ some (space_at d ended g)) (all : length ended ≡ d) where
  drawn_is : sum_by drawn_in (map role_of s.views) ≡ d
  drawn_is = whole_count (map role_of s.views) id d ended kept.sessions.one_space (at_map role_of s.views id (space_at d ended g) at)

  none_open : (i : ℕ) (u : View) → get_elem? s.views i ≡ some u → u.memory.append ≡ None
  none_open i u e = dite (ℕ_discrete id i)
      (λ here. ap (λ (v : View). v.memory.append) (same_at s.views id u (space_at d ended g) (subst (λ i. get_elem? s.views i ≡ some u) (sym here) e) at))
      (λ away.
      let roles : List Role = map role_of s.views in
      let two = two_of sessions_in roles id i (Space d ended) u.role (at_map role_of s.views id (space_at d ended g) at) (at_map role_of s.views i u e) away in
      let c = kept.sessions.all_stand in let q = drawn_is in
      none (kept.idles i u e (dead u.role (omega arith))) u.memory.append (kept.memory.follows i u e).append)
    where
      none : u.session ≡ Rattle.ib_core.specs.Sessions.idle → (o : Option OpenAppend) → IsAppending sizes (lawful sizes.pages) s.words kept.log (session_number_of u.role) u.session u.memory o → o ≡ None
      none still None w = refl
      none still (Some o) w = let x = w.fits.log_x in let z = ap (λ (a : Session). x_grants 0 a) still in absurd (omega arith)

  pub closes : (words : List ℕ) → words ≡ s.words → sizes.log_words < 2 ^ 32 → IsClosed lawful opening sizes words ended
  closes words is small = subst (λ ws. IsClosed lawful opening sizes ws ended) (sym is) record {
    log = kept.log;
    legal = kept.memory.legal;
    grammar = kept.memory.grammar;
    sized = kept.sized;
    room = let r = kept.memory.room in omega (arith, r, used_is);
    had_room = kept.memory.had_room;
    logged = ap (λ n. take n (drop (log_place sizes 0) s.words)) used_is ∙ stretch (log_place sizes 0) s.words (log_words kept.log) (let z = kept.sized in let r = kept.memory.room in omega arith) (λ k h. ap (λ p. get_or s.words p 0) (let z : log_place sizes 0 + k ≡ log_place sizes k = omega arith in z) ∙ kept.memory.logged k h);
    paged = λ page index h low.
        let q : ℕ = word_place page index in
        ap (λ p. slice_index s.words p) (let z : page_place sizes page index ≡ base sizes + (word_place page index) = omega arith in z)
        ∙ kept.memory.paged (word_place page index) (omega arith) (λ i u e. ap (λ o. stored_in o (word_place page index)) (none_open i u e));
    sessions = kept.memory.ended id (space_at d ended g) at;
    others = λ n h. kept.memory.undrawn n (let z = drawn_is in omega arith);
  }
    where
      used_is : used_in s.words ≡ used kept.log
      used_is = let e = kept.memory.end in let r = kept.memory.room in omega arith

pub elem_get : (xs : List ℕ) (i x : ℕ) → get_elem? xs i ≡ some x → get_or xs i 0 ≡ x
elem_get [] i x e = absurd (some-ne-none x (sym e))
elem_get (y ∷ ys) zero x e = some-injective y x e
elem_get (y ∷ ys) (suc i) x e = elem_get ys i x e

-- the log has as many words as its end says ..
pub log_length : (sizes : Sizes) (words : List ℕ) → IsSized sizes words → length (log_in sizes words) ≡ used_in words
log_length sizes words sized =
    let long = length-drop (log_place sizes 0) words in let all = length-take (used_in words) (drop (log_place sizes 0) words) in
    omega (arith, long, all, sized.room, sized.sized)

-- .. and each of them stands at its place
pub log_at : (sizes : Sizes) (words : List ℕ) (i : ℕ) → IsSized sizes words → i < length (log_in sizes words) → slice_index (log_in sizes words) i ≡ slice_index words (log_place sizes i)
log_at sizes words i sized low =
    let first : ℕ = log_place sizes 0 in let long = log_length sizes words sized in
    get_or-take (used_in words) (drop first words) i 0 (omega arith) ∙ (get_or-drop first words i 0 ∙ ap (slice_index words) (let z : first + i ≡ log_place sizes i = omega arith in z))
