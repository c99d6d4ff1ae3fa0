-- The stores of an open append, and the append itself, keep the rule.
use Rattle.std.proofs.Common.{◌≡◌, ◌≢◌, ◌⊎◌, inl, inr, ⊎_elim, ℕ, ◌+◌, ◌-◌, ◌*◌, ◌^◌, ◌<◌, ◌≤◌, true, false, cond, eqb, eq-eqb, ne_eqb, List, [], ◌∷◌, ◌++◌, map, set, drop, length, get_or, refl, sym, ap, ◌∙◌, subst, arith, length-set, length-append, append_assoc, get_or-set_same, get_or-set_other, get_or-append-add}
use Rattle.std.specs.Prelude.{slice_index, slice_index_or, sum_by, nat_lt, ◌==◌, ◌||◌, ◌&&◌, Option, Some, None}
use Rattle.std.specs.List.{AllByRecursion}
use Rattle.std.proofs.lemmas.Bool.Decides.{nat_tests}
use Rattle.std.proofs.lemmas.List.Elements.{filter-append}
use Rattle.std.proofs.Math.ListN.{get_or-append}
use mathlib.Core.Logic.{dite}
use mathlib.Core.Option.{some}
use mathlib.Core.List.{IsPrefix}
use lib.ListN.{get_elem?}
use native.Mathlib.Decide.{ℕ_discrete, dec_lt}
use Rattle.atomic_table.specs.Table.{State, keeps, stepped}
use Rattle.ib_map.specs.Writes.{stored, writes_at, touches}
use Rattle.ib_map.proofs.WriteLaws.{stored-unwritten, stored-same, written-touches}
use Rattle.ib_layout.specs.Geometry.{Sizes}
use Rattle.ib_layout.specs.Places.{drawn_place, end_place, log_place, lock_place, waiters_place, writer_place, gen_place, ex_gen_place, latches_of}
use Rattle.ib_logrec.specs.declared.entry.Entry.{Entry}
use Rattle.ib_logrec.specs.Words.{words_of_entry}
use Rattle.ib_logrec.specs.Log.{used, log_words, memory_after, by_place}
use Rattle.ib_logrec.specs.Law.{AreInGrammar}
use Rattle.ib_logrec.specs.Grammar.{IsInGrammar}
use Rattle.ib_logrec.proofs.LogLaws.{log_words-push, used-push, memory_after-push}
use Rattle.ib_logrec.proofs.EntryLaws.{length-words_of_entry}
use Rattle.ib_core.specs.declared.session.Session.{Session}
use Rattle.ib_core.specs.Sessions.{claims, holdings}
use Rattle.ib_core.specs.Good.{IsGood}
use Rattle.ib_core.specs.Debts.{debt}
use Rattle.ib_core.proofs.Elements.{at_set, set_here, set_else, same_at, sum_at}
use Rattle.ib_rule.specs.declared.view.Role.{Role}
use Rattle.ib_rule.specs.declared.view.Ended.{Ended}
use Rattle.ib_rule.specs.declared.view.View.{View}
use Rattle.ib_rule.specs.declared.memory.Since.{Since}
use Rattle.ib_rule.specs.declared.memory.Loaded.{Loaded}
use Rattle.ib_rule.specs.declared.memory.OpenAppend.{OpenAppend}
use Rattle.ib_rule.specs.declared.memory.Knowledge.{Knowledge}
use Rattle.ib_rule.specs.Memory.{conflicts, entries_of, base, page_places, latch_at, Watches, IsStable, SinceFact, LoadedFact, MayComeBehind, has, IsWriting, IsAppending, stored_in, EndedFact, Follows}
use Rattle.ib_rule.specs.Roles.{SessionsPart, sessions_in, drawn_in, ended_in, session_number_of}
use Rattle.ib_rule.specs.Views.{total, role_of, session_in_view, with_memory, is_watched}
use Rattle.ib_rule.specs.Rule.{marks_in, LatchPart, IsWriter, IsIdle, MemoryPart, RuleHolds}
use Rattle.ib_rule.specs.Stores.{stale, begun, Begins, storing_page, storing_word, appending, IsReady, AllStored}
use Rattle.ib_rule.proofs.Turning.{map_same}
use Rattle.ib_rule.proofs.Alone.{alone, one_claims, holds, closed, apart, apart_ended, drawn, numbered}
use Rattle.ib_rule.proofs.RoomLaws.{had_room-push, room-of}
use Rattle.ib_rule.proofs.Lists.{eqb_says, eqb_denies, or_says, or_denies, and_says, either_way, both_ways, nil_append, each_map, each_both, each_push, each_right, drop_front, nil_rest}

pub grammar_push : (pages : ℕ) (log : List Entry) (e : Entry) → AreInGrammar pages log → IsInGrammar pages e → AreInGrammar pages (log ++ e ∷ [])
grammar_push pages [] e all one = (one, tt)
grammar_push pages (x ∷ xs) e all one = (all.0, grammar_push pages xs e all.1 one)

pub has_more : (q x : ℕ) (xs : List ℕ) → has q (x ∷ xs) ≡ true → (x ≡ q) ⊎ (has q xs ≡ true)
has_more q x xs e = ⊎_elim (λ z. inl (eqb_says x q z)) (λ z. inr z) (or_says (eqb x q) (has q xs) e)

-- a latch that is watched has its since in the list
watch_of : (P : Since → Type 0) (l : ℕ) (ss : List Since) → is_watched l ss ≡ true → AllByRecursion P ss → (s : Since) × (s.latch ≡ l) × P s
watch_of P l [] e p = absurd (cc)
watch_of P l (s ∷ ss) e p = ⊎_elim (λ z. (s, eqb_says s.latch l z, p.0)) (λ z. watch_of P l ss z p.1) (or_says (eqb s.latch l) (is_watched l ss) e)

-- entries that are all of others and all stable against a since of the log latch are none
none_left : (n : ℕ) (s : Since) (u : List Entry) → s.latch ≡ 0 → entries_of n u ≡ [] → AllByRecursion (λ e. (e.session ≡ n) ⊎ (conflicts e s ≡ false)) u → u ≡ []
none_left n s [] zero_latch none p = refl
none_left n s (e ∷ u) zero_latch nobody p = absurd (⊎_elim
    (λ (same : e.session ≡ n). let q : cond (eqb e.session n) (e ∷ entries_of n u) (entries_of n u) ≡ e ∷ entries_of n u = ap (λ b. cond b (e ∷ entries_of n u) (entries_of n u)) (eq-eqb e.session n same) in let z : e ∷ entries_of n u ≡ [] = sym q ∙ nobody in cc)
    (λ (calm : conflicts e s ≡ false). let hit : conflicts e s ≡ true = ap (λ b. b || ((nat_lt 1 s.latch && touches (s.latch - 2) e.writes) || (e.structural && (s.claims && (s.latch == 1))))) (eq-eqb s.latch 0 zero_latch) in let z : true ≡ false = sym hit ∙ calm in cc)
    p.0)

-- loaded words that are not fresh any more say nothing
pub stale_right : (opening other : ℕ → ℕ) (a : Session) (log log' : List Entry) (xs : List Loaded) → AllByRecursion (LoadedFact opening a log) xs → AllByRecursion (LoadedFact other a log') (stale xs)
stale_right opening other a log log' [] p = tt
stale_right opening other a log log' (x ∷ xs) p = let h = p.0 in ((h.0, λ e. absurd (cc)), stale_right opening other a log log' xs p.1)

-- no view has the place stored, before a step that takes none back
none_before : (views : List View) (i : ℕ) (v w : View) (q : ℕ) → get_elem? views i ≡ some v → (stored_in w.memory.append q ≡ false → stored_in v.memory.append q ≡ false)
    → ((j : ℕ) (b : View) → get_elem? (set views i w) j ≡ some b → stored_in b.memory.append q ≡ false)
    → (j : ℕ) (b : View) → get_elem? views j ≡ some b → stored_in b.memory.append q ≡ false
none_before views i v w q at back none j b e = dite (ℕ_discrete i j)
    (λ same.
    let e' : get_elem? views i ≡ some b = subst (λ k. get_elem? views k ≡ some b) (sym same) e in
    subst (λ (u : View). stored_in u.memory.append q ≡ false) (same_at views i v b at e') (back (none i w (set_here views i v w at))))
    (λ other. none j b (set_else views i j w other ∙ e))

module _ (lawful : ℕ → List Entry → Type 0) (opening : ℕ → ℕ → ℕ → ℕ) (sizes : Sizes) (s : State (Unit {0}) View) (kept : RuleHolds lawful opening sizes s) (id : ℕ) (v : View) (at : get_elem? s.views id ≡ some v) where
  -- a store of one word of the memory, with the memory part after it
  pub stores_with : (p n : ℕ) (m : Knowledge) (cs : List (ℕ × Unit {0})) (log : List Entry) → (p ≡ end_place) ⊎ (base sizes ≤ p)
      → MemoryPart sizes (lawful sizes.pages) (by_place opening sizes.pages) (set s.words p n) log (set s.views id (with_memory m v))
      → RuleHolds lawful opening sizes (stepped s p n id cs (with_memory m v) keeps)
  stores_with p n m cs log far part =
      let w : View = with_memory m v in record {
        sized = length-set s.words p n ∙ kept.sized;
        sessions = subst (λ (z : ℕ × List Role). SessionsPart z.0 z.1) (λ j. (sym (other drawn_place (λ e. omega arith) (omega arith)) j, sym (map_same role_of s.views id v w at refl) j)) kept.sessions;
        latches = subst (λ z. LatchPart (latches_of sizes) (set s.words p n) z) (sym (map_same session_in_view s.views id v w at refl)) record {
          good = subst (λ m. IsGood (map session_in_view s.views) m) (λ j k. sym (marks_at k) j) kept.latches.good;
          counted = λ l h. let e = other (lock_place l) (λ e. omega arith) (omega arith) in let c = kept.latches.counted l h in omega arith;
          flags = λ l h. let e = other (waiters_place l) (λ e. omega arith) (omega arith) in let c = kept.latches.flags l h in omega arith;
          few = kept.latches.few;
        };
        idles = at_set (λ _ u. IsIdle u) s.views id w (kept.idles id v at) (λ j b e _. kept.idles j b e);
        paid = record {
          paid = λ k h.
              let t = sum_at (λ (u : View). total u.grants) s.views id v w at in let d = sum_at (λ (u : View). debt k u.session) s.views id v w at in
              let b = kept.paid.paid k h in
              let g = other (gen_place k) (λ e. omega arith) (omega arith) in let x = other (ex_gen_place k) (λ e. omega arith) (omega arith) in omega arith;
          bound = at_set (λ _ u. total u.grants ≤ 2 ^ 52 * sessions_in u.role) s.views id w (kept.paid.bound id v at) (λ j u e d. kept.paid.bound j u e);
        };
        writers = at_set (λ _ u. AllByRecursion (IsWriter (latches_of sizes) (set s.words p n) u) u.written) s.views id w (writes_on v v.written (kept.writers id v at)) (λ j u q _. writes_on u u.written (kept.writers j u q));
        log = log;
        memory = part;
      }
    where
      other : (q : ℕ) → q ≢ end_place → q < base sizes → slice_index (set s.words p n) q ≡ slice_index s.words q
      other q here below = get_or-set_other s.words p q n 0 (λ e. ⊎_elim (λ (one : p ≡ end_place). here (omega arith)) (λ (up : base sizes ≤ p). omega arith) far)

      marks_at : (k : ℕ) → marks_in (latches_of sizes) (set s.words p n) k ≡ marks_in (latches_of sizes) s.words k
      marks_at k = dite (dec_lt k (latches_of sizes))
          (λ h. let a = other (waiters_place k) (λ e. omega arith) (omega arith) in let b = other (gen_place k) (λ e. omega arith) (omega arith) in let c = other (ex_gen_place k) (λ e. omega arith) (omega arith) in
          λ j. record { waiters = cond (nat_lt k (latches_of sizes)) (nat_lt 0 (a j)) false; generation = cond (nat_lt k (latches_of sizes)) (b j) 0; ex_generation = cond (nat_lt k (latches_of sizes)) (c j) 0 })
          (λ h. let z : nat_lt k (latches_of sizes) ≡ false = grind (arith, nat_tests) in
          (λ j. record { waiters = cond (z j) (nat_lt 0 (slice_index (set s.words p n) (waiters_place k))) false; generation = cond {A = ℕ} (z j) (slice_index (set s.words p n) (gen_place k)) 0; ex_generation = cond {A = ℕ} (z j) (slice_index (set s.words p n) (ex_gen_place k)) 0 })
          ∙ (λ j. record { waiters = cond (sym z j) (nat_lt 0 (slice_index s.words (waiters_place k))) false; generation = cond {A = ℕ} (sym z j) (slice_index s.words (gen_place k)) 0; ex_generation = cond {A = ℕ} (sym z j) (slice_index s.words (ex_gen_place k)) 0 }))

      writes_on : (u : View) (xs : List ℕ) → AllByRecursion (IsWriter (latches_of sizes) s.words u) xs → AllByRecursion (IsWriter (latches_of sizes) (set s.words p n) u) xs
      writes_on u [] each = tt
      writes_on u (x ∷ xs) each = ((each.0.0, other (writer_place x) (λ e. omega arith) (let h = each.0.2 in omega arith) ∙ each.0.1, each.0.2), writes_on u xs each.1)

  mine : Follows sizes (lawful sizes.pages) (by_place opening sizes.pages) s.words kept.log (session_number_of v.role) v.session v.memory
  mine = kept.memory.follows id v at

  -- with a since of the log latch, all of the log is seen
  pub sees_all : 0 < session_number_of v.role → is_watched 0 v.memory.since ≡ true → v.memory.seen ≡ kept.log
  sees_all some_number watch =
      let n : ℕ = session_number_of v.role in let seen : List Entry = v.memory.seen in let log : List Entry = kept.log in
      let r = watch_of (SinceFact n v.session (length seen) log) 0 v.memory.since watch mine.since in
      let c : Since = r.0 in let fact = r.2 in
      let p = mine.seen in let u : List Entry = p.0 in
      let q = mine.mine some_number in
      let split : entries_of n seen ++ entries_of n u ≡ entries_of n seen =
      sym (filter-append (λ (e : Entry). eqb e.session n) seen u) ∙ (ap (entries_of n) p.1 ∙ (q.0 ∙ sym q.1)) in
      let nobody : entries_of n u ≡ [] = nil_rest (entries_of n seen) (entries_of n u) split in
      let d : drop c.place log ≡ drop c.place seen ++ u = ap (drop c.place) (sym p.1) ∙ drop_front seen u c.place fact.1 in
      let calm = each_right (λ (e : Entry). (e.session ≡ n) ⊎ (conflicts e c ≡ false)) (drop c.place seen) u (subst (λ l. AllByRecursion (λ (e : Entry). (e.session ≡ n) ⊎ (conflicts e c ≡ false)) l) d fact.2) in
      let empty = none_left n c u r.1 nobody calm in
      sym (ap (λ l. seen ++ l) empty ∙ nil_append seen) ∙ p.1

  -- others keep what is said of them, whatever words of the memory change, since none has an open append
  others_follow : (ws : List ℕ) → 0 < holdings 0 v.session → (j : ℕ) (b : View) → get_elem? s.views j ≡ some b → id ≢ j → Follows sizes (lawful sizes.pages) (by_place opening sizes.pages) ws kept.log (session_number_of b.role) b.session b.memory
  others_follow ws held j b e n =
      let f = kept.memory.follows j b e in
      let none = closed lawful opening sizes s kept id j v b at e n held in record {
        met = f.met;
        seen = f.seen;
        mine = f.mine;
        since = f.since;
        loaded = f.loaded;
        append = subst (λ o. IsAppending sizes (lawful sizes.pages) ws kept.log (session_number_of b.role) b.session b.memory o) (sym none) tt;
      }

  module _ (e : Entry) (ready : IsReady sizes (lawful sizes.pages) v e) where
    pub some_number : 0 < session_number_of v.role
    some_number = numbered lawful opening sizes s kept id v at ready.fits.log_x

    pub whole : v.memory.seen ≡ kept.log
    whole = sees_all some_number ready.watch

    held : 0 < holdings 0 v.session
    held = holds lawful opening sizes s kept id v at 0 ready.fits.log_x

    fits_log : MayComeBehind sizes (lawful sizes.pages) (session_number_of v.role) (length v.memory.own) v.session kept.log e
    fits_log = subst (λ l. MayComeBehind sizes (lawful sizes.pages) (session_number_of v.role) (length v.memory.own) v.session l e) whole ready.fits

    -- the open append as it stands, or one in which nothing is stored
    already : IsWriting sizes (lawful sizes.pages) s.words kept.log (session_number_of v.role) v.session v.memory (begun e v.memory.append)
    already = stands v.memory.append ready.begins mine.append
      where
        stands : (o : Option OpenAppend) → Begins e o → IsAppending sizes (lawful sizes.pages) s.words kept.log (session_number_of v.role) v.session v.memory o → IsWriting sizes (lawful sizes.pages) s.words kept.log (session_number_of v.role) v.session v.memory (begun e o)
        stands None b w = record { fits = fits_log; whole = whole; pages_done = λ q h. absurd (cc); words_done = λ j h. absurd (cc) }
        stands (Some o) b w = w

    entry_is : (begun e v.memory.append).entry ≡ e
    entry_is = same v.memory.append ready.begins
      where
        same : (o : Option OpenAppend) → Begins e o → (begun e o).entry ≡ e
        same None b = refl
        same (Some o) b = b

    before : (o : Option OpenAppend) (r : ℕ) → has r (begun e o).places ≡ false → stored_in o r ≡ false
    before None r z = refl
    before (Some o) r z = z

    pub stores_page : (q x : ℕ) (cs : List (ℕ × Unit {0})) → writes_at q e.writes ≡ true → x ≡ stored e.writes q 0 → RuleHolds lawful opening sizes (stepped s (base sizes + q) x id cs (storing_page e q v) keeps)
    stores_page q x cs here is =
        let p : ℕ = base sizes + q in let ws : List ℕ = set s.words p x in let o : OpenAppend = begun e v.memory.append in
        let at_q : writes_at q o.entry.writes ≡ true = subst (λ (f : Entry). writes_at q f.writes ≡ true) (sym entry_is) here in
        let low = (already.fits.pages_x q at_q).0 in
        let fits_in : p < length s.words = let z = kept.sized in omega arith in
        let now : slice_index ws p ≡ stored o.entry.writes q 0 = get_or-set_same s.words p x 0 fits_in ∙ (is ∙ ap (λ (f : Entry). stored f.writes q 0) (sym entry_is)) in
        let part = kept.memory in
        stores_with (base sizes + q) x (storing_page e q v).memory cs kept.log (inr (omega arith)) record {
          legal = part.legal;
          grammar = part.grammar;
          short = part.short;
          room = part.room;
          had_room = part.had_room;
          end = get_or-set_other s.words p 1 x 0 (λ z. omega arith) ∙ part.end;
          logged = λ w h. get_or-set_other s.words p (log_place sizes w) x 0 (λ z. omega arith) ∙ part.logged w h;
          paged = λ r h none.
              let none_mine = none id (storing_page e q v) (set_here s.views id v (storing_page e q v) at) in
              let two = or_denies (eqb q r) (has r o.places) none_mine in
              let differs = eqb_denies q r two.0 in
              get_or-set_other s.words p (base sizes + r) x 0 (λ z. differs (omega arith))
              ∙ part.paged r h (none_before s.views id v (storing_page e q v) r at (λ _. before v.memory.append r two.1) none);
          follows = at_set (λ _ b. Follows sizes (lawful sizes.pages) (by_place opening sizes.pages) ws kept.log (session_number_of b.role) b.session b.memory) s.views id (storing_page e q v)
              record {
                met = mine.met;
                seen = mine.seen;
                mine = mine.mine;
                since = mine.since;
                loaded = stale_right (by_place opening sizes.pages) (by_place opening sizes.pages) v.session kept.log kept.log v.memory.loaded mine.loaded;
                append = record {
                  fits = already.fits;
                  whole = whole;
                  pages_done = λ r h. dite (ℕ_discrete q r)
                      (λ same. subst (λ r. (writes_at r o.entry.writes ≡ true) × (slice_index ws (base sizes + r) ≡ stored o.entry.writes r 0)) same (at_q, now))
                      (λ other. let old = already.pages_done r (⊎_elim (λ z. absurd (other z)) (λ z. z) (has_more r q o.places h)) in
                      (old.0, get_or-set_other s.words p (base sizes + r) x 0 (λ z. other (omega arith)) ∙ old.1));
                  words_done = λ j h. let old = already.words_done j h in (old.0, get_or-set_other s.words p (log_place sizes (used kept.log + j)) x 0 (λ z. omega arith) ∙ old.1);
                };
              }
              (λ j b d n. others_follow ws held j b d n);
          ended = at_set (λ _ u. AllByRecursion (EndedFact kept.log) (ended_in u.role)) s.views id (storing_page e q v) (part.ended id v at) (λ j u e _. part.ended j u e);
          undrawn = λ n h. part.undrawn n (subst (λ rs. sum_by drawn_in rs < n) (map_same role_of s.views id v (storing_page e q v) at refl) h);
        }

    pub stores_word : (j x : ℕ) (cs : List (ℕ × Unit {0})) → j < length (words_of_entry e) → x ≡ slice_index_or (words_of_entry e) j 0
        → RuleHolds lawful opening sizes (stepped s (log_place sizes (used v.memory.seen + j)) x id cs (storing_word e j v) keeps)
    stores_word j x cs here is =
        let u : ℕ = used kept.log in
        let p : ℕ = log_place sizes (u + j) in let ws : List ℕ = set s.words p x in let o : OpenAppend = begun e v.memory.append in
        let at_j : j < length (words_of_entry o.entry) = subst (λ (f : Entry). j < length (words_of_entry f)) (sym entry_is) here in
        let fits_in : p < length s.words = let z = kept.sized in let r = room-of sizes (lawful sizes.pages) (session_number_of v.role) (length v.memory.own) v.session kept.log e fits_log in omega arith in
        let now : slice_index ws p ≡ slice_index_or (words_of_entry o.entry) j 0 = get_or-set_same s.words p x 0 fits_in ∙ (is ∙ ap (λ (f : Entry). slice_index_or (words_of_entry f) j 0) (sym entry_is)) in
        let part = kept.memory in
        subst (λ (l : List Entry). RuleHolds lawful opening sizes (stepped s (log_place sizes (used l + j)) x id cs (storing_word e j v) keeps)) (sym whole)
        (stores_with (log_place sizes (used kept.log + j)) x (storing_word e j v).memory cs kept.log (inr (omega arith)) record {
          legal = part.legal;
          grammar = part.grammar;
          short = part.short;
          room = part.room;
          had_room = part.had_room;
          end = get_or-set_other s.words p 1 x 0 (λ z. omega arith) ∙ part.end;
          logged = λ w h. get_or-set_other s.words p (log_place sizes w) x 0 (λ z. omega arith) ∙ part.logged w h;
          paged = λ r h none.
              get_or-set_other s.words p (base sizes + r) x 0 (λ z. omega arith)
              ∙ part.paged r h (none_before s.views id v (storing_word e j v) r at (λ z. before v.memory.append r z) none);
          follows = at_set (λ _ b. Follows sizes (lawful sizes.pages) (by_place opening sizes.pages) ws kept.log (session_number_of b.role) b.session b.memory) s.views id (storing_word e j v)
              record {
                met = mine.met;
                seen = mine.seen;
                mine = mine.mine;
                since = mine.since;
                loaded = stale_right (by_place opening sizes.pages) (by_place opening sizes.pages) v.session kept.log kept.log v.memory.loaded mine.loaded;
                append = record {
                  fits = already.fits;
                  whole = whole;
                  pages_done = λ r h. let old = already.pages_done r h in let low = (already.fits.pages_x r old.0).0 in
                      (old.0, get_or-set_other s.words p (base sizes + r) x 0 (λ z. omega arith) ∙ old.1);
                  words_done = λ k h. dite (ℕ_discrete j k)
                      (λ same. subst (λ k. (k < length (words_of_entry o.entry)) × (slice_index ws (log_place sizes (u + k)) ≡ slice_index_or (words_of_entry o.entry) k 0)) same (at_j, now))
                      (λ other. let old = already.words_done k (⊎_elim (λ z. absurd (other z)) (λ z. z) (has_more k j o.words h)) in
                      (old.0, get_or-set_other s.words p (log_place sizes (u + k)) x 0 (λ z. other (omega arith)) ∙ old.1));
                };
              }
              (λ k b d n. others_follow ws held k b d n);
          ended = at_set (λ _ u. AllByRecursion (EndedFact kept.log) (ended_in u.role)) s.views id (storing_word e j v) (part.ended id v at) (λ j u e _. part.ended j u e);
          undrawn = λ n h. part.undrawn n (subst (λ rs. sum_by drawn_in rs < n) (map_same role_of s.views id v (storing_word e j v) at refl) h);
        })

    all_of : (o : Option OpenAppend) → AllStored e o → ((q : ℕ) → writes_at q e.writes ≡ true → has q (begun e o).places ≡ true) × ((j : ℕ) → j < length (words_of_entry e) → has j (begun e o).words ≡ true)
    all_of None a = absurd a
    all_of (Some o) a = a

    writes : IsWriting sizes (lawful sizes.pages) s.words kept.log (session_number_of v.role) v.session v.memory (record { entry = e; places = (begun e v.memory.append).places; words = (begun e v.memory.append).words })
    writes = subst (λ (f : Entry). IsWriting sizes (lawful sizes.pages) s.words kept.log (session_number_of v.role) v.session v.memory (record { entry = f; places = (begun e v.memory.append).places; words = (begun e v.memory.append).words })) entry_is already

    pub appends : (n : ℕ) (cs : List (ℕ × Unit {0})) → n ≡ (length v.memory.seen + 1) * 2 ^ 32 + (used v.memory.seen + length (words_of_entry e)) → AllStored e v.memory.append
        → RuleHolds lawful opening sizes (stepped s end_place n id cs (appending e v) keeps)
    appends n cs end_is every =
        let w : View = appending e v in
        let ws : List ℕ = set s.words end_place n in let log : List Entry = kept.log in let log' : List Entry = log ++ e ∷ [] in
        let m : ℕ = session_number_of v.role in let op : ℕ → ℕ = by_place opening sizes.pages in
        let long = length-words_of_entry e in
        let more = used-push log e in let more_entries = length-append log (e ∷ []) in let fits_in : end_place < length s.words = let z = kept.sized in omega arith in
        let part = kept.memory in
        let same_length : length v.memory.seen ≡ length log = ap length whole in let same_used : used v.memory.seen ≡ used log = ap used whole in
        stores_with end_place n (appending e v).memory cs (kept.log ++ e ∷ []) (inl refl) record {
          legal = fits_log.legal;
          grammar = grammar_push sizes.pages log e part.grammar fits_log.grammar;
          short = let b = part.short in omega arith;
          room = let c = room-of sizes (lawful sizes.pages) m (length v.memory.own) v.session log e fits_log in omega arith;
          had_room = had_room-push sizes.log_words log e part.had_room fits_log.longest;
          end = get_or-set_same s.words end_place n 0 fits_in ∙ (omega arith);
          logged = λ k h. get_or-set_other s.words end_place (log_place sizes k) n 0 (λ z. omega arith) ∙ (log_word k h ∙ ap (λ l. get_or l k 0) (sym (log_words-push log e)));
          paged = λ q h none. get_or-set_other s.words end_place (base sizes + q) n 0 (λ z. omega arith) ∙ (page_word q h none ∙ sym (memory_after-push op log e q));
          follows = at_set (λ _ b. Follows sizes (lawful sizes.pages) (by_place opening sizes.pages) ws (kept.log ++ e ∷ []) (session_number_of b.role) b.session b.memory) s.views id (appending e v)
              record {
                met = each_map (λ xs. IsPrefix xs log) (λ xs. IsPrefix xs (log ++ e ∷ [])) v.memory.met (λ xs p. prefix_more xs p) mine.met;
                seen = ([], nil_append (v.memory.seen ++ e ∷ []) ∙ ap (λ l. l ++ e ∷ []) whole);
                mine = λ pos. let q = mine.mine pos in (grown log q.0, grown v.memory.seen q.1);
                since = each_map (SinceFact m v.session (length v.memory.seen) log) (SinceFact m v.session (length (v.memory.seen ++ e ∷ [])) log') v.memory.since
                    (λ c p. let early = p.1 in (p.0, (let q = length-append v.memory.seen (e ∷ []) in omega arith), longer m c (omega arith) p.2 (inl fits_log.named))) mine.since;
                loaded = stale_right op op v.session log log' v.memory.loaded mine.loaded;
                append = tt;
              }
              (λ j b d n.
              let f = kept.memory.follows j b d in
              let none = closed lawful opening sizes s kept id j v b at d n held in record {
                met = each_map (λ xs. IsPrefix xs log) (λ xs. IsPrefix xs (log ++ e ∷ [])) b.memory.met (λ xs p. prefix_more xs p) f.met;
                seen = prefix_more b.memory.seen f.seen;
                mine = λ pos. let q = f.mine pos in (not_grown (session_number_of b.role) log (apart lawful opening sizes s kept id j v b at d n some_number) ∙ q.0, q.1);
                since = each_map (SinceFact (session_number_of b.role) b.session (length b.memory.seen) log) (SinceFact (session_number_of b.role) b.session (length b.memory.seen) log') b.memory.since
                    (λ c p. let early = p.1 in (p.0, early, longer (session_number_of b.role) c (below b.memory.seen f.seen c early) p.2 (inr (calm j b d n c p.0)))) f.since;
                loaded = each_map (LoadedFact op b.session log) (LoadedFact op b.session log') b.memory.loaded (λ x p. (p.0, λ fresh. p.1 fresh ∙ sym (untouched j b d n x.place p.0))) f.loaded;
                append = subst (λ o. IsAppending sizes (lawful sizes.pages) ws log' (session_number_of b.role) b.session b.memory o) (sym none) tt;
              });
          ended = at_set (λ _ u. AllByRecursion (EndedFact (kept.log ++ e ∷ [])) (ended_in u.role)) s.views id (appending e v) (ended_more id v at) (λ j u d _. ended_more j u d);
          undrawn = λ k h. let h' : sum_by drawn_in (map role_of s.views) < k = subst (λ rs. sum_by drawn_in rs < k) (map_same role_of s.views id v (appending e v) at refl) h in
              not_grown k log (λ q. let z = drawn lawful opening sizes s kept id v at some_number in omega arith) ∙ part.undrawn k h';
        }
      where
        prefix_more : (xs : List Entry) → IsPrefix xs kept.log → IsPrefix xs (kept.log ++ e ∷ [])
        prefix_more xs p = (p.0 ++ e ∷ [], sym (append_assoc xs p.0 (e ∷ [])) ∙ ap (λ l. l ++ e ∷ []) p.1)

        log_word : (k : ℕ) → k < used (kept.log ++ e ∷ []) → slice_index s.words (log_place sizes k) ≡ get_or (log_words kept.log ++ words_of_entry e) k 0
        log_word k h = dite (dec_lt k (used kept.log))
            (λ low. kept.memory.logged k low ∙ sym (get_or-append (log_words kept.log) (words_of_entry e) 0 k low))
            (λ up.
            let high : used kept.log ≤ k = omega arith in
            let j : ℕ = k - used kept.log in let sum : used kept.log + j ≡ k = omega arith in
            let small : j < length (words_of_entry e) = let a = used-push kept.log e in let b = length-words_of_entry e in omega arith in
            let done = writes.words_done j ((all_of v.memory.append every).1 j small) in
            subst (λ k. slice_index s.words (log_place sizes k) ≡ get_or (log_words kept.log ++ words_of_entry e) k 0) sum (done.1 ∙ sym (get_or-append-add (log_words kept.log) (words_of_entry e) j 0)))

        page_word : (q : ℕ) → q < page_places sizes → ((j : ℕ) (b : View) → get_elem? (set s.views id (appending e v)) j ≡ some b → stored_in b.memory.append q ≡ false)
            → slice_index s.words (base sizes + q) ≡ stored e.writes q (memory_after (by_place opening sizes.pages) kept.log q)
        page_word q h none = both_ways (writes_at q e.writes)
            (λ yes. let done = writes.pages_done q ((all_of v.memory.append every).0 q yes) in done.1 ∙ stored-same e.writes q 0 (memory_after (by_place opening sizes.pages) kept.log q) yes)
            (λ no.
            let unstored : stored_in v.memory.append q ≡ false = before v.memory.append q (either_way (has q (begun e v.memory.append).places) (λ z. let y = (writes.pages_done q z).0 in let x : true ≡ false = sym y ∙ no in absurd (cc))) in
            kept.memory.paged q h (none_before s.views id v (appending e v) q at (λ _. unstored) none) ∙ sym (stored-unwritten e.writes q (memory_after (by_place opening sizes.pages) kept.log q) no))

        longer : (n : ℕ) (c : Since) → c.place ≤ length kept.log → IsStable n kept.log c → (e.session ≡ n) ⊎ (conflicts e c ≡ false) → IsStable n (kept.log ++ e ∷ []) c
        longer n c early p q = subst (λ l. AllByRecursion (λ (e : Entry). (e.session ≡ n) ⊎ (conflicts e c ≡ false)) l) (sym (drop_front kept.log (e ∷ []) c.place early)) (each_push (λ (e : Entry). (e.session ≡ n) ⊎ (conflicts e c ≡ false)) (drop c.place kept.log) e p q)

        below : (xs : List Entry) → IsPrefix xs kept.log → (c : Since) → c.place ≤ length xs → c.place ≤ length kept.log
        below xs p c early = let q = length-append xs p.0 in let r = ap length p.1 in omega arith

        grown : (l : List Entry) → entries_of (session_number_of v.role) l ≡ v.memory.own → entries_of (session_number_of v.role) (l ++ e ∷ []) ≡ v.memory.own ++ e ∷ []
        grown l q = filter-append (λ (x : Entry). eqb x.session (session_number_of v.role)) l (e ∷ []) ∙ (ap (λ x. x ++ entries_of (session_number_of v.role) (e ∷ [])) q ∙ ap (λ b. v.memory.own ++ cond b (e ∷ []) []) (eq-eqb e.session (session_number_of v.role) fits_log.named))

        not_grown : (n : ℕ) (l : List Entry) → session_number_of v.role ≢ n → entries_of n (l ++ e ∷ []) ≡ entries_of n l
        not_grown n l d = filter-append (λ (x : Entry). eqb x.session n) l (e ∷ []) ∙ (ap (λ b. entries_of n l ++ cond b (e ∷ []) []) (ne_eqb e.session n (λ q. d (sym fits_log.named ∙ q))) ∙ nil_append (entries_of n l))

        ended_more : (j : ℕ) (b : View) → get_elem? s.views j ≡ some b → AllByRecursion (EndedFact (kept.log ++ e ∷ [])) (ended_in b.role)
        ended_more j b d = each_both (EndedFact kept.log) (λ (x : Ended). session_number_of v.role ≢ x.number) (EndedFact (kept.log ++ e ∷ [])) (ended_in b.role)
            (λ x p other. (prefix_more x.seen p.0, not_grown x.number kept.log other ∙ p.1, p.2))
            (kept.memory.ended j b d) (apart_ended lawful opening sizes s kept id j v b at d some_number)

        untouched : (j : ℕ) (b : View) → get_elem? s.views j ≡ some b → id ≢ j → (q : ℕ) → 0 < holdings (latch_at q) b.session → memory_after (by_place opening sizes.pages) (kept.log ++ e ∷ []) q ≡ memory_after (by_place opening sizes.pages) kept.log q
        untouched j b d n q has_it = memory_after-push (by_place opening sizes.pages) kept.log e q ∙ stored-unwritten e.writes q (memory_after (by_place opening sizes.pages) kept.log q)
            (either_way (writes_at q e.writes) (λ yes. let x = (fits_log.pages_x q yes).1 in let z = alone lawful opening sizes s kept id j v b at d n fits_log.free (latch_at q) x in omega arith))

        calm : (j : ℕ) (b : View) → get_elem? s.views j ≡ some b → id ≢ j → (c : Since) → Watches b.session c → conflicts e c ≡ false
        calm j b d n c w = either_way (conflicts e c) (λ hit. ⊎_elim
            (λ (z : (c.latch == 0) ≡ true). let has_it = w.held in let q : holdings c.latch b.session ≡ 0 = subst (λ l. holdings l b.session ≡ 0) (sym (eqb_says c.latch 0 z)) (alone lawful opening sizes s kept id j v b at d n fits_log.free 0 fits_log.log_x) in omega arith)
            (λ more. ⊎_elim
            (λ (z : (nat_lt 1 c.latch && touches (c.latch - 2) e.writes) ≡ true).
            let both = and_says (nat_lt 1 c.latch) (touches (c.latch - 2) e.writes) z in
            let high : 1 < c.latch = let h = both.0 in grind (arith, nat_tests) in
            let t = written-touches (c.latch - 2) e.writes both.1 in let has_it = w.held in
            let x = (fits_log.pages_x t.0 t.1).1 in
            let here : latch_at t.0 ≡ c.latch = let k = t.2 in omega arith in
            let q : holdings c.latch b.session ≡ 0 = subst (λ l. holdings l b.session ≡ 0) here (alone lawful opening sizes s kept id j v b at d n fits_log.free (latch_at t.0) x) in omega arith)
            (λ rest.
            let x = and_says e.structural (c.claims && (c.latch == 1)) rest in let y = and_says c.claims (c.latch == 1) x.1 in
            let none = one_claims lawful opening sizes s kept id j v b at d n 1 (fits_log.index x.0) in
            let q : claims c.latch b.session ≡ 0 = subst (λ l. claims l b.session ≡ 0) (sym (eqb_says c.latch 1 y.1)) none in
            let z : true ≡ nat_lt 0 (claims c.latch b.session) = sym y.0 ∙ w.class in
            let u : true ≡ false = z ∙ ap (nat_lt 0) q in absurd (cc))
            (or_says (nat_lt 1 c.latch && touches (c.latch - 2) e.writes) (e.structural && (c.claims && (c.latch == 1))) more))
            (or_says (c.latch == 0) ((nat_lt 1 c.latch && touches (c.latch - 2) e.writes) || (e.structural && (c.claims && (c.latch == 1)))) hit))
