-- The loops of an append.
use Rattle.std.proofs.Common.{◌≡◌, ℕ, suc, ◌+◌, ◌<◌, ◌≤◌, ⊎_elim, true, false, eqb, eq-eqb, List, [], ◌∷◌, length, get_or, refl, sym, ap, ◌∙◌, subst, arith}
use Rattle.std.specs.Prelude.{◌||◌, Option, Some, None}
use mathlib.Core.List.{IsPrefix}
use mathlib.Core.Logic.{dite}
use native.Mathlib.Decide.{ℕ_discrete}
use Rattle.ib_map.specs.declared.write.Write.{Write}
use Rattle.ib_map.specs.Writes.{page_at, index_at, word_place, stored, writes_at, PlacesRise}
use Rattle.ib_map.proofs.WriteLaws.{writes_at-get, stored-written}
use Rattle.ib_layout.specs.Geometry.{Sizes}
use Rattle.ib_logrec.specs.declared.entry.Entry.{Entry}
use Rattle.ib_core.specs.Sessions.{sx_grants, x_grants}
use Rattle.ib_logrec.specs.Words.{words_of_entry, entry_in}
use Rattle.ib_logrec.specs.Log.{used}
use Rattle.ib_rule.specs.declared.pass.TheConstants.{ENTRY_WORDS}
use Rattle.ib_rule.specs.declared.memory.Loaded.{Loaded}
use Rattle.ib_rule.specs.declared.memory.OpenAppend.{OpenAppend}
use Rattle.ib_rule.specs.declared.view.View.{View}
use Rattle.ib_rule.specs.Memory.{has}
use Rattle.ib_rule.specs.Pass.{PassState, with_view}
use Rattle.ib_rule.specs.Stores.{stale, begun, Begins, storing, storing_page, storing_word, appending, IsReady, AllStored}
use Rattle.ib_rule.specs.Writing.{MayStore, entry_of}
use Rattle.ib_rule.proofs.Lists.{eqb_says, or_says}
use Rattle.ib_rule.proofs.Watching.{either_true}
use Rattle.ib_frames.specs.Storing.{HasStored, place_at, no_write, PagesStored, WordsStored}

found_at : (ws : List Write) (q : ℕ) → writes_at q ws ≡ true → (k : ℕ) × (k < length ws) × (place_at ws k ≡ q)
found_at [] q e = absurd (cc)
found_at (w ∷ ws) q e = ⊎_elim (λ z. (0, omega arith, eqb_says w.place q z)) (λ z. let r = found_at ws q z in (suc r.0, omega (arith, r.1), r.2)) (or_says (eqb w.place q) (writes_at q ws) e)

stale_twice : (xs : List Loaded) → stale (stale xs) ≡ stale xs
stale_twice [] = refl
stale_twice (x ∷ xs) = λ i. record { place = x.place; value = x.value; is_fresh = false } ∷ stale_twice xs i

has_first : (q : ℕ) (xs : List ℕ) → has q (q ∷ xs) ≡ true
has_first q xs = ap (λ b. b || has q xs) (eq-eqb q q refl)

has_later : (q x : ℕ) (xs : List ℕ) → has q xs ≡ true → has q (x ∷ xs) ≡ true
has_later q x xs e = either_true (eqb x q) e

begins_entry : (e : Entry) (o : Option OpenAppend) → Begins e o → (begun e o).entry ≡ e
begins_entry e None b = refl
begins_entry e (Some o) b = b

module _ (e : Entry) (start now next : PassState) where
  pub during_none : Begins e start.view.memory.append → HasStored e start start
  during_none b = record { same = refl; loaded = refl; begins = b; places = λ q h. h; words = λ j h. h }

  pub during_page : (q : ℕ) → HasStored e start now → next ≡ with_view now (storing_page e q now.view) → HasStored e start next
  during_page q d is = subst (λ n. HasStored e start n) (sym is) record {
    same = ap (λ p. with_view p (storing_page e q (storing now.view.memory.loaded now.view.memory.append p.view))) d.same;
    loaded = stale_twice now.view.memory.loaded ∙ d.loaded;
    begins = begins_entry e now.view.memory.append d.begins;
    places = λ r h. has_later r q (begun e now.view.memory.append).places (d.places r h);
    words = d.words;
  }

  pub during_word : (j : ℕ) → HasStored e start now → next ≡ with_view now (storing_word e j now.view) → HasStored e start next
  during_word j d is = subst (λ n. HasStored e start n) (sym is) record {
    same = ap (λ p. with_view p (storing_word e j (storing now.view.memory.loaded now.view.memory.append p.view))) d.same;
    loaded = stale_twice now.view.memory.loaded ∙ d.loaded;
    begins = begins_entry e now.view.memory.append d.begins;
    places = d.places;
    words = λ r h. has_later r j (begun e now.view.memory.append).words (d.words r h);
  }

  pub during_both : HasStored e start now → HasStored e now next → HasStored e start next
  during_both a b = record {
    same = b.same ∙ ap (λ p. with_view p (storing next.view.memory.loaded next.view.memory.append p.view)) a.same;
    loaded = b.loaded ∙ a.loaded;
    begins = b.begins;
    places = λ q h. b.places q (a.places q h);
    words = λ j h. b.words j (a.words j h);
  }

-- the entry and the conditions of its stores stay
pub during_entry : (e : Entry) (start now : PassState) → HasStored e start now → entry_of now ≡ entry_of start
during_entry e start now d = ap (λ (p : PassState). entry_in p.words) d.same

pub during_may : (sizes : Sizes) (lawful : List Entry → Type 0) (start now : PassState) → HasStored (entry_of start) start now → MayStore sizes lawful start → MayStore sizes lawful now
during_may sizes lawful start now d may =
    let words : now.words ≡ start.words = ap (λ (p : PassState). p.words) d.same in
    let view : now.view ≡ storing now.view.memory.loaded now.view.memory.append start.view = ap (λ (p : PassState). p.view) d.same in record {
      spelled = subst (λ (ws : List ℕ). IsPrefix (words_of_entry (entry_in ws)) ws) (sym words) may.spelled;
      longest = subst (λ (v : View). used v.memory.seen + ENTRY_WORDS ≤ sizes.log_words) (sym view) may.longest;
      index = subst (λ (z : View × List ℕ). (entry_in z.1).structural ≡ true → (0 < sx_grants 1 z.0.session) × (x_grants 1 z.0.session ≡ 0)) (λ j. (sym view j, sym words j)) may.index;
      ready = subst (λ (z : View × List ℕ). IsReady sizes lawful z.0 (entry_in z.1)) (λ j. (sym view j, sym words j)) record { fits = may.ready.fits; watch = may.ready.watch; begins = d.begins };
    }

pub during_appends : (e : Entry) (start now : PassState) → HasStored e start now → with_view now (appending e now.view) ≡ with_view start (appending e start.view)
during_appends e start now d =
    ap (λ p. with_view p (appending e (storing now.view.memory.loaded now.view.memory.append p.view))) d.same
    ∙ ap (λ l. with_view start (record (appending e start.view) { memory = record (appending e start.view).memory { loaded = l } })) d.loaded

-- a write, by its page and index there
whole_place : (p : ℕ) → word_place (page_at p) (index_at p) ≡ p
whole_place p = omega arith

pub is_written : (ws : List Write) (i page index p : ℕ) → p ≡ place_at ws i → page ≡ page_at p → index ≡ index_at p → i < length ws → writes_at (word_place page index) ws ≡ true
is_written ws i page index p at on index_is h = subst (λ q. writes_at q ws ≡ true) (sym ((λ j. word_place (on j) (index_is j)) ∙ (whole_place p ∙ at))) (writes_at-get ws i no_write h)

pub is_value : (ws : List Write) (i page index p x end : ℕ) → p ≡ place_at ws i → page ≡ page_at p → index ≡ index_at p → x ≡ (get_or ws i no_write).value → i < length ws → PlacesRise 0 ws end → x ≡ stored ws (word_place page index) 0
is_value ws i page index p x end at on index_is value h rise = subst (λ q. x ≡ stored ws q 0) (sym ((λ j. word_place (on j) (index_is j)) ∙ (whole_place p ∙ at))) (value ∙ sym (stored-written 0 ws end i no_write 0 rise h))

-- one more write is stored
pub kept_page : (e : Entry) (start now next : PassState) (i page index p : ℕ) → HasStored e start now → PagesStored e i now
    → next ≡ with_view now (storing_page e (word_place page index) now.view) → p ≡ place_at e.writes i → page ≡ page_at p → index ≡ index_at p
    → (HasStored e start next) × PagesStored e (i + 1) next
kept_page e start now next i page index p d done is at on index_is =
    let q : ℕ = place_at e.writes i in
    let is' : next ≡ with_view now (storing_page e q now.view) = is ∙ (λ j. with_view now (storing_page e (((λ k. word_place (on k) (index_is k)) ∙ (whole_place p ∙ at)) j) now.view)) in (
      during_page e start now next q d is',
      subst (λ n. PagesStored e (i + 1) n) (sym is') (λ k h. dite (ℕ_discrete k i)
          (λ z. subst (λ k. has (place_at e.writes k) (q ∷ (begun e now.view.memory.append).places) ≡ true) (sym z) (has_first q (begun e now.view.memory.append).places))
          (λ z. has_later (place_at e.writes k) q (begun e now.view.memory.append).places (done k (omega arith)))),
    )

-- one more log word is stored
pub kept_word : (e : Entry) (start now next : PassState) (i : ℕ) → HasStored e start now → WordsStored e i now
    → next ≡ with_view now (storing_word e i now.view)
    → (HasStored e start next) × WordsStored e (i + 1) next
kept_word e start now next i d done is = (
  during_word e start now next i d is,
  subst (λ (n : PassState). WordsStored e (i + 1) n) (sym is) (λ k h. dite (ℕ_discrete k i)
      (λ z. subst (λ k. has k (i ∷ (begun e now.view.memory.append).words) ≡ true) (sym z) (has_first i (begun e now.view.memory.append).words))
      (λ z. has_later k i (begun e now.view.memory.append).words (done k (omega arith)))),
)

pub all_stored : (e : Entry) (mid now : PassState) (n : ℕ) → PagesStored e (length e.writes) mid → HasStored e mid now → WordsStored e n now → n ≡ length (words_of_entry e) → 0 < n → AllStored e now.view.memory.append
all_stored e mid now n pages b words size some = pick now.view.memory.append (λ q h. let r = found_at e.writes q h in b.places q (subst (λ q. has q (begun e mid.view.memory.append).places ≡ true) r.2 (pages r.0 r.1))) (λ j h. words j (omega arith))
  where
    pick : (o : Option OpenAppend) → ((q : ℕ) → writes_at q e.writes ≡ true → has q (begun e o).places ≡ true) → ((j : ℕ) → j < length (words_of_entry e) → has j (begun e o).words ≡ true) → AllStored e o
    pick None f g = let z : false ≡ true = g 0 (omega arith) in absurd (cc)
    pick (Some o) f g = (f, g)

-- all words of the entry are stored, once those in the pages and those in the log are
pub stored_whole : (start mid now : PassState) (writes count : ℕ) → HasStored (entry_of start) start mid → PagesStored (entry_of start) writes mid → HasStored (entry_of mid) mid now → WordsStored (entry_of mid) count now
    → writes ≡ length (entry_of start).writes → count ≡ length (words_of_entry (entry_of start)) → 0 < count
    → (HasStored (entry_of start) start now) × AllStored (entry_of now) now.view.memory.append
stored_whole start mid now writes count first pages second words all_pages all_words some =
    let e : Entry = entry_of start in
    let is = during_entry (entry_of start) start mid first in
    let rest : HasStored (entry_of start) mid now = subst (λ (e : Entry). HasStored e mid now) is second in
    let both = during_both (entry_of start) start mid now first rest in (
      both,
      subst (λ (e : Entry). AllStored e now.view.memory.append) (sym (during_entry (entry_of start) start now both))
          (all_stored (entry_of start) mid now count (subst (λ (n : ℕ). PagesStored (entry_of start) n mid) all_pages pages) rest (subst (λ (e : Entry). WordsStored e count now) is words) all_words some),
    )

-- the pass after the append
pub ends_so : (start now next : PassState) → HasStored (entry_of start) start now → next ≡ with_view now (appending (entry_of now) now.view) → next ≡ with_view start (appending (entry_of start) start.view)
ends_so start now next during is =
    is ∙ (ap (λ (f : Entry). with_view now (appending f now.view)) (during_entry (entry_of start) start now during) ∙ during_appends (entry_of start) start now during)
