-- A commit: what is asked of it is what the append asks, and what it comes to.
use Rattle.std.proofs.Common.{◌≡◌, ℕ, ◌+◌, ◌<◌, ◌≤◌, true, false, List, [], ◌∷◌, ◌++◌, length, refl, sym, ap, ◌∙◌, subst, arith}
use Rattle.std.specs.Prelude.{Option, None, Some, IfSome, slice_index, Result, Ok, Err, IfOk, IfErr}
use mathlib.Core.List.{IsPrefix}
use Rattle.std.specs.List.{All, AllByRecursion, Contains}
use Rattle.std.proofs.lemmas.List.Elements.{All-contains, All-contains_itself, All-weaker, filter-append}
use Rattle.std.proofs.lemmas.Bool.{eq-eqb}
use Rattle.ib_map.specs.declared.TheConstants.{PAGE_WORDS}
use Rattle.ib_map.specs.declared.call.Change.{Change}
use Rattle.ib_map.specs.Writes.{stored, word_place}
use Rattle.ib_levels.specs.declared.level.Level.TheVariants.{Log}
use Rattle.ib_levels.specs.declared.level.Mode.TheVariants.{Sx, X}
use Rattle.ib_levels.specs.Holding.{on}
use Rattle.ib_page.specs.Work.{IsWork, WorkPage}
use Rattle.ib_page.specs.Writes.{writes_of}
use Rattle.ib_page.proofs.StoreLaws.{leads_to}
use Rattle.ib_layout.specs.Geometry.{Sizes}
use Rattle.ib_core.specs.declared.phase.Phase.TheVariants.{Free}
use Rattle.ib_core.specs.declared.session.Session.{Session as CoreSession}
use Rattle.ib_core.specs.Good.{IsProper}
use Rattle.ib_core.specs.Sessions.{holdings, sx_grants, x_grants}
use Rattle.ib_core.specs.Takings.{count_of}
use Rattle.ib_core.proofs.OnLatch.{held_by_grant}
use Rattle.ib_logrec.specs.declared.entry.Entry.{Entry}
use Rattle.ib_logrec.specs.Log.{memory_after, used}
use Rattle.ib_logrec.specs.Words.{words_of_entry}
use Rattle.ib_logrec.proofs.LogLaws.{memory_after-push}
use Rattle.ib_rule.specs.declared.looks.Grants.{Grants}
use Rattle.ib_rule.specs.declared.memory.Knowledge.{Knowledge}
use Rattle.ib_rule.specs.declared.view.Role.{Role}
use Rattle.ib_rule.specs.declared.view.Role.TheVariants.{Session}
use Rattle.ib_rule.specs.declared.view.View.{View}
use Rattle.ib_rule.specs.Memory.{LoadedFact, entries_of}
use Rattle.ib_rule.specs.Pass.{PassState, with_view}
use Rattle.ib_rule.specs.Roles.{session_number_of}
use Rattle.ib_rule.specs.Space.{SpaceState}
use Rattle.ib_rule.specs.Stores.{IsHarmless, IsLook, appending}
use Rattle.ib_rule.specs.Views.{reaching}
use Rattle.ib_rule.proofs.Watching.{watched_after}
use Rattle.ib_latch.specs.Tries.{HasTakenGrant, held_with}
use Rattle.ib_frames.specs.Appends.{IsLaidOut, MayAppend, entry_by, entry_for}
use Rattle.ib_frames.specs.Reads.{AreRight, IsLoadedImage}
use Rattle.ib_mtr.specs.Commits.{HasCommitted, HasEnded, HasRead, IsFull, MayCommit, commit_entry, commit_grants, one_end_more}
use Rattle.ib_mtr.specs.Loads.{IsPageAfter}
use Rattle.ib_mtr.specs.Mtr.{IsMtr}
use Rattle.ib_mtr.proofs.Grants.{more_grant}
use Rattle.ib_mtr.proofs.Images.{of_each}

-- what a look tells is of what the session had seen and made, and of the latches that it watched
pub look_before : (sizes : Sizes) (lawful : List Entry → Type 0) (v w : View) (log : List Entry) → w.role ≡ v.role → w.memory ≡ v.memory → IsLook sizes lawful w log → IsLook sizes lawful v log
look_before sizes lawful v w log role memory look = record {
  others = look.others;
  longer = ap (λ (m : Knowledge). m.seen ++ look.others) (sym memory) ∙ look.longer;
  harmless = subst (λ (m : Knowledge). AllByRecursion (IsHarmless (session_number_of v.role) m.since) look.others) memory
      (subst (λ (r : Role). AllByRecursion (IsHarmless (session_number_of r) w.memory.since) look.others) role look.harmless);
  legal = look.legal;
  room = look.room;
  mine = ap (λ (r : Role). entries_of (session_number_of r) log) (sym role) ∙ look.mine ∙ ap (λ (m : Knowledge). m.own) memory;
}

-- a mini-transaction that ended from a later state of its pass
pub record IsLater (p q : PassState) : Type 0 where
  pub table : q.table ≡ p.table
  pub sizes : q.sizes ≡ p.sizes
  pub number : q.number ≡ p.number
  pub role : q.view.role ≡ p.view.role
  pub met : q.view.memory.met ≡ p.view.memory.met
  pub looks : p.view.looks.count ≤ q.view.looks.count

pub ended_later : (p p3 q : PassState) (g g3 : Grants) (seen seen3 own own3 : List Entry) (ends ends3 : List ℕ) → IsLater p p3 → g3 ≡ g → seen3 ≡ seen → own3 ≡ own → ends3 ≡ ends
    → HasEnded p3 g3 seen3 own3 ends3 q → HasEnded p g seen own ends q
ended_later p p3 q g g3 seen seen3 own own3 ends ends3 later gs ss os es ended = record {
  pass = ended.pass ∙ (λ j. record { table = later.table j; sizes = later.sizes j; number = later.number j; view = q.view; has_scratch = true; is_working = false; work = []; memo = []; words = q.words });
  role = ended.role ∙ later.role;
  session = ended.session;
  grants = ended.grants ∙ gs;
  written = ended.written;
  looks = let a = ended.looks in let b = later.looks in omega arith;
  memory = ended.memory ∙ (λ j. record { met = later.met j; seen = ss j; own = os j; ends = es j; since = []; loaded = []; append = None });
}

-- X on the log latch more, and nothing else
module _ (a b : CoreSession) (proper : IsProper a) (same : b.held ≡ held_with X 0 Log a) where
  x_as : (l : ℕ) → x_grants l a ≤ x_grants l b
  x_as l = let m = more_grant X l X 0 Log a proper in let s = ap (on l (count_of X)) same in omega arith

  pub x_on_log : 0 < x_grants 0 b
  x_on_log = let m = more_grant X 0 X 0 Log a proper in let s = ap (on 0 (count_of X)) same in omega arith

  x_index : x_grants 1 b ≡ x_grants 1 a
  x_index = let m = more_grant X 1 X 0 Log a proper in let s = ap (on 1 (count_of X)) same in omega arith

  sx_index : sx_grants 1 b ≡ sx_grants 1 a
  sx_index = let m = more_grant Sx 1 X 0 Log a proper in let s = ap (on 1 (count_of Sx)) same in omega arith

-- the pass p, with X on the log latch the pass p1, and after a look at the log's end the pass p2
module _ (sizes : Sizes) (lawful : List Entry → Type 0) (opening : ℕ → ℕ) (change : Change) (p p1 p2 : PassState) (proper : IsProper p.view.session) (role : p.view.role ≡ Session p.number) (role1 : p1.view.role ≡ Session p1.number)
    (memo1 : p1 ≡ record p { view = p1.view; memo = p1.memo }) (taken : HasTakenGrant X (held_with X 0 Log p.view.session) Free p.view p1.view) (counts : p.view.looks.count ≤ p1.view.looks.count)
    (looks : IsLook sizes lawful p1.view p2.view.memory.seen) (is : p2 ≡ with_view p1 (reaching p2.view.memory.seen p1.view)) where
  log : List Entry
  log = p2.view.memory.seen

  same_number : p1.number ≡ p.number
  same_number = ap (λ (q : PassState). q.number) memo1

  same_role : p1.view.role ≡ p.view.role
  same_role = role1 ∙ ap Session same_number ∙ sym role

  pub looked : IsLook sizes lawful p.view p2.view.memory.seen
  looked = look_before sizes lawful p.view p1.view p2.view.memory.seen same_role taken.memory looks

  pub same_work : p2.work ≡ p.work
  same_work = ap (λ (q : PassState). q.work) is ∙ ap (λ (q : PassState). q.work) memo1

  number2 : p2.number ≡ p.number
  number2 = ap (λ (q : PassState). q.number) is ∙ same_number

  words2 : p2.words ≡ p.words
  words2 = ap (λ (q : PassState). q.words) is ∙ ap (λ (q : PassState). q.words) memo1

  own2 : p2.view.memory.own ≡ p.view.memory.own
  own2 = ap (λ (q : PassState). q.view.memory.own) is ∙ ap (λ (m : Knowledge). m.own) taken.memory

  ends2 : p2.view.memory.ends ≡ one_end_more p (length p2.view.memory.seen)
  ends2 = ap (λ (q : PassState). q.view.memory.ends) is ∙ ap (λ (m : Knowledge). m.ends ++ length p2.view.memory.seen ∷ []) taken.memory

  grants2 : p2.view.grants ≡ commit_grants p
  grants2 = ap (λ (q : PassState). q.view.grants) is ∙ taken.grants

  pub later2 : IsLater p p2
  later2 = record {
    table = ap (λ (q : PassState). q.table) is ∙ ap (λ (q : PassState). q.table) memo1;
    sizes = ap (λ (q : PassState). q.sizes) is ∙ ap (λ (q : PassState). q.sizes) memo1;
    number = number2;
    role = ap (λ (q : PassState). q.view.role) is ∙ same_role;
    met = ap (λ (q : PassState). q.view.memory.met) is ∙ ap (λ (m : Knowledge). m.met) taken.memory;
    looks = let c = ap (λ (q : PassState). q.view.looks.count) is in omega arith;
  }

  pub same_entry : entry_for p2 change p2.work ≡ commit_entry p change
  same_entry = λ j. entry_by (number2 j) (length (own2 j) + 1) change (same_work j)

  -- an entry that was laid out before stands there still
  pub laid_after : (laid : Option ℕ) → IfSome laid (IsLaidOut p change p.work) → IfSome laid (IsLaidOut p2 change p2.work)
  laid_after None is = tt
  laid_after (Some writes) is = record {
    spelled = subst (λ (e : Entry). IsPrefix (words_of_entry e) p2.words) (sym same_entry) (subst (IsPrefix (words_of_entry (commit_entry p change))) (sym words2) is.spelled);
    count = is.count ∙ ap (λ (ws : List WorkPage). length (writes_of ws)) (sym same_work);
  }

  pub may_append : MayCommit lawful p change → MayAppend lawful p2 change p2.work
  may_append may =
      let held : p2.view.session.held ≡ held_with X 0 Log p.view.session = ap (λ (q : PassState). q.view.session.held) is ∙ ap (λ (a : CoreSession). a.held) taken.session in
      let on_log = x_on_log p.view.session p2.view.session proper held in
      let session1 : p2.view.session ≡ p1.view.session = ap (λ (q : PassState). q.view.session) is in
      let harmless = subst (λ (n : ℕ). AllByRecursion (IsHarmless n p.view.memory.since) looked.others) (ap session_number_of role) looked.harmless in
      let legal = may.legal looked.others harmless (subst lawful (sym looked.longer) looked.legal) in record {
        free = ap (λ (q : PassState). q.view.session.phase) is ∙ ap (λ (a : CoreSession). a.phase) taken.session;
        log_x = on_log;
        watched = ap (λ (q : PassState). Rattle.ib_rule.specs.Views.is_watched 0 q.view.memory.since) is
            ∙ watched_after p2.view.memory.seen p1.view 0 (subst (λ (a : CoreSession). 0 < holdings 0 a) session1 (held_by_grant 0 (λ h. h.x) p2.view.session.held on_log));
        pages_x = λ page here.
            let old = may.pages_x page (subst (λ (ws : List WorkPage). Rattle.ib_map.specs.Writes.touches page (writes_of ws) ≡ true) same_work here) in
            let more = x_as p.view.session p2.view.session proper held (page + 2) in omega arith;
        index = λ spans.
            let old = may.index (subst (λ (ws : List WorkPage). Rattle.ib_map.specs.Writes.spans_pages (writes_of ws) ≡ true) same_work spans) in
            let sx = sx_index p.view.session p2.view.session proper held in let x = x_index p.view.session p2.view.session proper held in
            let had = old.0 in let none = old.1 in (omega arith, omega arith);
        legal = subst (λ (e : Entry). lawful (p2.view.memory.seen ++ e ∷ [])) (sym same_entry) (subst (λ (xs : List Entry). lawful (xs ++ commit_entry p change ∷ [])) looked.longer legal);
      }

  -- a page of the work set that was loaded, after the entry
  module _ (read : All (λ w. IsLoadedImage p2.view.memory.loaded w.page w.before) p2.work) (right : AreRight opening p2.view) (work : IsWork p2.work) where
    was : (w : WorkPage) → Contains p2.work w → (index : ℕ) → index < PAGE_WORDS → slice_index w.before index ≡ memory_after opening p2.view.memory.seen (word_place w.page index)
    was w has index within =
        let loaded = All-contains (λ w. IsLoadedImage p2.view.memory.loaded w.page w.before) p2.work w read has index within in
        (of_each (LoadedFact opening p2.view.session p2.view.memory.seen) p2.view.memory.loaded loaded.0 _ right loaded.1 loaded.2).1 refl

    page_after : (w : WorkPage) → Contains p2.work w → IsPageAfter opening (p2.view.memory.seen ++ entry_for p2 change p2.work ∷ []) w.page w.changed
    page_after w has index within =
        let place = word_place w.page index in
        sym (memory_after-push opening p2.view.memory.seen (entry_for p2 change p2.work) (word_place w.page index)
        ∙ (ap (λ (x : ℕ). stored (writes_of p2.work) (word_place w.page index) x) (sym (was w has index within)) ∙ leads_to p2.work w index work.ascends has within))

    pages_after : All (λ w. IsPageAfter opening (p2.view.memory.seen ++ commit_entry p change ∷ []) w.page w.changed) p.work
    pages_after =
        subst (λ (ws : List WorkPage). All (λ w. IsPageAfter opening (p2.view.memory.seen ++ commit_entry p change ∷ []) w.page w.changed) ws) same_work
        (subst (λ (e : Entry). All (λ w. IsPageAfter opening (p2.view.memory.seen ++ e ∷ []) w.page w.changed) p2.work) same_entry
        (All-weaker (Contains p2.work) (λ w. IsPageAfter opening (p2.view.memory.seen ++ entry_for p2 change p2.work ∷ []) w.page w.changed) page_after p2.work (All-contains_itself p2.work)))

    -- the pass p3 after the append, and q after the end
    pub committed : (p3 q : PassState) (answer : ℕ) → MayCommit lawful p change → p3 ≡ record (with_view p2 (appending (entry_for p2 change p2.work) p2.view)) { words = p3.words }
        → answer ≡ length p2.view.memory.seen → used p3.view.memory.seen ≤ sizes.log_words
        → used p2.view.memory.seen + Rattle.ib_rule.specs.declared.pass.TheConstants.ENTRY_WORDS ≤ sizes.log_words
        → HasEnded p3 p3.view.grants p3.view.memory.seen p3.view.memory.own p3.view.memory.ends q → HasCommitted sizes lawful opening change p answer q
    committed p3 q answer may is3 place room wide ended =
        let e = commit_entry p change in
        let seen3 : p3.view.memory.seen ≡ p2.view.memory.seen ++ commit_entry p change ∷ [] =
        ap (λ (q : PassState). q.view.memory.seen) is3 ∙ ap (λ (e : Entry). p2.view.memory.seen ++ e ∷ []) same_entry in
        let own3 : p3.view.memory.own ≡ p.view.memory.own ++ commit_entry p change ∷ [] =
        ap (λ (q : PassState). q.view.memory.own) is3 ∙ (λ j. own2 j ++ same_entry j ∷ []) in
        let ends3 : p3.view.memory.ends ≡ one_end_more p answer =
        ap (λ (q : PassState). q.view.memory.ends) is3 ∙ (ends2 ∙ ap (one_end_more p) (sym place)) in
        let later3 : IsLater p p3 = record {
          table = ap (λ (q : PassState). q.table) is3 ∙ later2.table;
          sizes = ap (λ (q : PassState). q.sizes) is3 ∙ later2.sizes;
          number = ap (λ (q : PassState). q.number) is3 ∙ later2.number;
          role = ap (λ (q : PassState). q.view.role) is3 ∙ later2.role;
          met = ap (λ (q : PassState). q.view.memory.met) is3 ∙ later2.met;
          looks = let c = ap (λ (q : PassState). q.view.looks.count) is3 in let l = later2.looks in omega arith;
        } in
        let append = may_append may in record {
          log = p2.view.memory.seen;
          looked = looked;
          place = place;
          ended = ended_later p p3 q (commit_grants p) p3.view.grants _ p3.view.memory.seen _ p3.view.memory.own _ p3.view.memory.ends later3
              (ap (λ (q : PassState). q.view.grants) is3 ∙ grants2) seen3 own3 ends3 ended;
          legal = subst (λ (e : Entry). lawful (p2.view.memory.seen ++ e ∷ [])) same_entry append.legal;
          mine = filter-append (λ e. Rattle.std.specs.Prelude.◌==◌ e.session p.number) p2.view.memory.seen (commit_entry p change ∷ [])
              ∙ (λ j. mine j ++ itself j);
          room = subst (λ (xs : List Entry). used xs ≤ sizes.log_words) seen3 room;
          wide = wide;
          pages = pages_after;
        }
      where
        mine : entries_of p.number p2.view.memory.seen ≡ p.view.memory.own
        mine = ap (λ (r : Role). entries_of (session_number_of r) p2.view.memory.seen) (sym role) ∙ looked.mine

        itself : entries_of p.number (commit_entry p change ∷ []) ≡ commit_entry p change ∷ []
        itself = ap (λ b. Rattle.std.proofs.Common.cond b (commit_entry p change ∷ []) []) (eq-eqb p.number p.number refl)

  -- .. or after the log was found full
  pub full : (q : PassState) (f : Rattle.ib_frames.specs.declared.appends.LogFull.LogFull) → f.used ≡ used p2.view.memory.seen → f.cap ≡ sizes.log_words
      → sizes.log_words < used p2.view.memory.seen + Rattle.ib_rule.specs.declared.pass.TheConstants.ENTRY_WORDS
      → HasEnded p2 p2.view.grants p2.view.memory.seen p2.view.memory.own p2.view.memory.ends q → IsFull sizes lawful p f q
  full q f words cap short ended = record {
    log = p2.view.memory.seen;
    looked = looked;
    words = words;
    cap = cap;
    short = short;
    ended = ended_later p p2 q (commit_grants p) p2.view.grants _ p2.view.memory.seen _ p2.view.memory.own _ p2.view.memory.ends later2 grants2 refl own2 ends2 ended;
  }

-- an end without a change, after a look
pub read_only : (sizes : Sizes) (lawful : List Entry → Type 0) (p p2 q : PassState) (answer : ℕ) → IsLook sizes lawful p.view p2.view.memory.seen → p2 ≡ with_view p (reaching p2.view.memory.seen p.view)
    → answer ≡ length p2.view.memory.seen → HasEnded p2 p2.view.grants p2.view.memory.seen p2.view.memory.own p2.view.memory.ends q → q.view.looks.count ≡ p2.view.looks.count → q.view.looks.waits ≡ p2.view.looks.waits
    → HasRead sizes lawful p answer q
read_only sizes lawful p p2 q answer look is place ended looks waits =
    let later : IsLater p p2 = record {
      table = ap (λ (q : PassState). q.table) is;
      sizes = ap (λ (q : PassState). q.sizes) is;
      number = ap (λ (q : PassState). q.number) is;
      role = ap (λ (q : PassState). q.view.role) is;
      met = ap (λ (q : PassState). q.view.memory.met) is;
      looks = let c = ap (λ (q : PassState). q.view.looks.count) is in omega arith;
    } in record {
      log = p2.view.memory.seen;
      looked = look;
      place = place;
      ended = ended_later p p2 q p.view.grants p2.view.grants _ p2.view.memory.seen _ p2.view.memory.own _ p2.view.memory.ends later (ap (λ (q : PassState). q.view.grants) is) refl
          (ap (λ (q : PassState). q.view.memory.own) is) (ap (λ (q : PassState). q.view.memory.ends) is ∙ ap (one_end_more p) (sym place)) ended;
      looks = looks ∙ ap (λ (q : PassState). q.view.looks.count) is;
      waits = waits ∙ ap (λ (q : PassState). q.view.looks.waits) is;
    }

-- what is said of a pass says nothing of its words for an entry: a mini-transaction works in it ..
pub mtr_laid : (space : SpaceState) (p q : PassState) → q ≡ record p { words = q.words } → IsMtr space p → IsMtr space q
mtr_laid space p q same m = subst (IsMtr space) (sym same) (record {
  own = record { table = m.own.table; sizes = m.own.sizes; closed = m.own.closed };
  works = m.works;
  free = m.free;
  proper = m.proper;
  exact = m.exact;
  known = m.known;
  held = m.held;
  read = m.read;
})

-- .. it may commit ..
pub may_commit_laid : (lawful : List Entry → Type 0) (p : PassState) (words : List ℕ) (change : Change) → MayCommit lawful p change → MayCommit lawful (record p { words = words }) change
may_commit_laid lawful p words change may = record { grows = may.grows; log = may.log; pages_x = may.pages_x; index = may.index; legal = may.legal }

pub ended_laid : (p : PassState) (words : List ℕ) (g : Grants) (seen own : List Entry) (ends : List ℕ) (q : PassState) → HasEnded (record p { words = words }) g seen own ends q → HasEnded p g seen own ends q
ended_laid p words g seen own ends q h = record { pass = h.pass; role = h.role; session = h.session; grants = h.grants; written = h.written; looks = h.looks; memory = h.memory }

-- .. it committed ..
pub committed_laid : (sizes : Sizes) (lawful : List Entry → Type 0) (opening : ℕ → ℕ) (change : Change) (p : PassState) (words : List ℕ) (place : ℕ) (q : PassState)
    → HasCommitted sizes lawful opening change (record p { words = words }) place q → HasCommitted sizes lawful opening change p place q
committed_laid sizes lawful opening change p words place q h = record {
  log = h.log;
  looked = h.looked;
  place = h.place;
  ended = ended_laid p words _ _ _ _ q h.ended;
  legal = h.legal;
  mine = h.mine;
  room = h.room;
  wide = h.wide;
  pages = h.pages;
}

-- .. and the log was full
pub full_laid : (sizes : Sizes) (lawful : List Entry → Type 0) (p : PassState) (words : List ℕ) (f : Rattle.ib_frames.specs.declared.appends.LogFull.LogFull) (q : PassState)
    → IsFull sizes lawful (record p { words = words }) f q → IsFull sizes lawful p f q
full_laid sizes lawful p words f q h = record { log = h.log; looked = h.looked; words = h.words; cap = h.cap; short = h.short; ended = ended_laid p words _ _ _ _ q h.ended }

-- what is so of an answer of either kind, where something else is
pub each_ok : {A B : Type 0} {P Q : A → Type 0} (r : Result A B) → ((x : A) → P x → Q x) → IfOk r P → IfOk r Q
each_ok (Ok x) so is = so x is
each_ok (Err e) so is = tt

pub each_err : {A B : Type 0} {P Q : B → Type 0} (r : Result A B) → ((e : B) → P e → Q e) → IfErr r P → IfErr r Q
each_err (Ok x) so is = tt
each_err (Err e) so is = so e is
