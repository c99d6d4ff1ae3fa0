-- The entry that a pass lays out: it stands at the front of its words, and may be written.
use Rattle.std.proofs.Common.{◌≡◌, true, ℕ, ◌+◌, ◌*◌, ◌<◌, ◌≤◌, List, [], ◌∷◌, ◌++◌, take, drop, length, refl, sym, ap, ◌∙◌, subst, arith, get_or, length-append, length-drop}
use Rattle.std.specs.Prelude.{slice_index, Option, None}
use Rattle.std.proofs.Math.ListN.{get_or-append}
use Rattle.std.proofs.lemmas.List.{take_at}
use mathlib.Core.List.{IsPrefix}
use Rattle.ib_map.specs.declared.TheConstants.{PAGE_WORDS}
use Rattle.ib_map.specs.declared.call.Change.{Change}
use Rattle.ib_map.specs.declared.write.Write.{Write}
use Rattle.ib_map.specs.Writes.{page_at}
use Rattle.ib_map.proofs.WriteLaws.{touches-written, writes_at-range}
use Rattle.ib_page.specs.Work.{WorkPage}
use Rattle.ib_page.specs.Writes.{writes_of}
use Rattle.ib_levels.proofs.Counts.{on-add}
use Rattle.ib_layout.specs.Geometry.{Sizes}
use Rattle.ib_core.specs.declared.session.Session.{Session as CoreSession}
use Rattle.ib_core.specs.Sessions.{claims, sx_grants, x_grants}
use Rattle.ib_logrec.specs.declared.entry.Entry.{Entry}
use Rattle.ib_logrec.specs.declared.entry.TheConstants.{HEAD_WORDS, MOST_WRITES}
use Rattle.ib_logrec.specs.Words.{words_of_entry, entry_in}
use Rattle.ib_logrec.specs.Log.{used}
use Rattle.ib_logrec.specs.Law.{AreInGrammar}
use Rattle.ib_logrec.specs.Grammar.{IsInGrammar}
use Rattle.ib_logrec.proofs.EntryLaws.{length-words_of_entry, entry_in-words}
use Rattle.ib_logrec.proofs.WordLaws.{word_of_entry-place, word_of_entry-value}
use Rattle.ib_rule.specs.declared.pass.TheConstants.{ENTRY_WORDS}
use Rattle.ib_rule.specs.declared.memory.OpenAppend.{OpenAppend}
use Rattle.ib_rule.specs.declared.view.Role.TheVariants.{Session}
use Rattle.ib_rule.specs.Roles.{session_number_of}
use Rattle.ib_rule.specs.Pass.{PassState, with_view}
use Rattle.ib_rule.specs.Stores.{IsReady, Begins, appending}
use Rattle.ib_rule.specs.Writing.{MayStore, entry_of}
use Rattle.ib_frames.specs.Appends.{entry_for, MayAppend}

-- the last one of entries in the grammar
last_in_grammar : (pages : ℕ) (log : List Entry) (e : Entry) → AreInGrammar pages (log ++ e ∷ []) → IsInGrammar pages e
last_in_grammar pages [] e are = are.0
last_in_grammar pages (x ∷ log) e are = last_in_grammar pages log e are.1

-- words at whose front an entry stands
pub spelled_entry : (e : Entry) (words : List ℕ) → length e.writes ≤ MOST_WRITES → IsPrefix (words_of_entry e) words → entry_in words ≡ e
spelled_entry e words few p = ap entry_in (sym p.1) ∙ entry_in-words e p.0 few

pub spelled_word : (e : Entry) (words : List ℕ) (j : ℕ) → IsPrefix (words_of_entry e) words → j < length (words_of_entry e) → slice_index words j ≡ get_or (words_of_entry e) j 0
spelled_word e words j p h = ap (λ (ws : List ℕ). get_or ws j 0) (sym p.1) ∙ get_or-append (words_of_entry e) p.0 0 j h

-- the words of its writes
pub spelled_place : (e : Entry) (words : List ℕ) (i : ℕ) (d : Write) → IsPrefix (words_of_entry e) words → i < length e.writes → slice_index words (HEAD_WORDS + 2 * i) ≡ (get_or e.writes i d).place
spelled_place e words i d p h = spelled_word e words (HEAD_WORDS + 2 * i) p (let long = length-words_of_entry e in omega arith) ∙ word_of_entry-place e i d h

pub spelled_value : (e : Entry) (words : List ℕ) (i : ℕ) (d : Write) → IsPrefix (words_of_entry e) words → i < length e.writes → slice_index words (HEAD_WORDS + (2 * i + 1)) ≡ (get_or e.writes i d).value
spelled_value e words i d p h = spelled_word e words (HEAD_WORDS + (2 * i + 1)) p (let long = length-words_of_entry e in omega arith) ∙ word_of_entry-value e i d h

-- the words of a pass, once an entry was written to the front of those that it lent
pub laid_out : (e : Entry) (w out rest : List ℕ) → w ≡ words_of_entry e ++ drop (HEAD_WORDS + 2 * length e.writes) out → length out ≡ ENTRY_WORDS → HEAD_WORDS + 2 * length e.writes ≤ ENTRY_WORDS → IsPrefix (words_of_entry e) (take ENTRY_WORDS (w ++ rest))
laid_out e w out rest is size room =
    let long : length w ≡ ENTRY_WORDS = omega (arith, ap length is, length-append (words_of_entry e) (drop (HEAD_WORDS + 2 * length e.writes) out), length-words_of_entry e, length-drop (HEAD_WORDS + 2 * length e.writes) out) in
    (drop (HEAD_WORDS + 2 * length e.writes) out, sym (take_at w rest ENTRY_WORDS long ∙ is))

-- who has SX has a claim
claimed : (a : CoreSession) → 0 < sx_grants 1 a → 0 < claims 1 a
claimed a has = let c = on-add 1 (λ h. h.sx) (λ h. h.x) a.held in omega arith

-- the append of the entry that was laid out
pub appended : (old start next : PassState) (e : Entry) → start ≡ record old { words = start.words } → entry_of start ≡ e → next ≡ with_view start (appending (entry_of start) start.view)
    → next ≡ record (with_view old (appending e old.view)) { words = next.words }
appended old start next e laid entry is =
    let same : next ≡ record (with_view old (appending e old.view)) { words = start.words } =
    is ∙ (ap (λ (f : Entry). with_view start (appending f start.view)) entry ∙ ap (λ (p : PassState). with_view p (appending e p.view)) laid) in
    same ∙ ap (λ (ws : List ℕ). record (with_view old (appending e old.view)) { words = ws }) (sym (ap (λ (p : PassState). p.words) same))

module _ (sizes : Sizes) (lawful : List Entry → Type 0) (p : PassState) (change : Change) (pages : List WorkPage) (may : MayAppend lawful p change pages) (grammar : (log : List Entry) → lawful log → AreInGrammar sizes.pages log) where
  pub in_grammar : IsInGrammar sizes.pages (entry_for p change pages)
  in_grammar = last_in_grammar sizes.pages p.view.memory.seen (entry_for p change pages) (grammar (p.view.memory.seen ++ entry_for p change pages ∷ []) may.legal)

  -- the entry that was laid out may be stored
  pub may_store : (words : List ℕ) → p.view.role ≡ Session p.number → p.view.memory.append ≡ None → used p.view.memory.seen + ENTRY_WORDS ≤ sizes.log_words → IsPrefix (words_of_entry (entry_for p change pages)) words
      → MayStore sizes lawful (record p { words = words })
  may_store words role closed room spelled =
      let is : entry_in words ≡ entry_for p change pages = spelled_entry (entry_for p change pages) words in_grammar.most_writes spelled in record {
        spelled = subst (λ (e : Entry). IsPrefix (words_of_entry e) words) (sym is) spelled;
        longest = room;
        index = subst (λ (e : Entry). e.structural ≡ true → (0 < sx_grants 1 p.view.session) × (x_grants 1 p.view.session ≡ 0)) (sym is) may.index;
        ready = subst (λ (e : Entry). IsReady sizes lawful p.view e) (sym is) record {
          fits = record {
            named = sym (ap session_number_of role);
            counted = refl;
            grammar = in_grammar;
            free = may.free;
            log_x = may.log_x;
            pages_x = λ q here.
                let inside = writes_at-range 0 (writes_of pages) (sizes.pages * PAGE_WORDS) q in_grammar.places here in
                (omega arith, may.pages_x (page_at q) (touches-written q (writes_of pages) here));
            index = λ spans. claimed p.view.session (may.index spans).0;
            legal = may.legal;
            longest = room;
          };
          watch = may.watched;
          begins = subst (λ (o : Option OpenAppend). Begins (entry_for p change pages) o) (sym closed) tt;
        };
      }
