-- What is asked before a commit: which pages of a work set are written, and what a commit needs beside.
use Rattle.std.proofs.Common.{◌≡◌, ◌≢◌, ℕ, zero, suc, ◌+◌, ◌^◌, ◌<◌, ◌≤◌, Bool, true, false, List, [], ◌∷◌, ◌++◌, Option, Some, None, length, get_or, refl, sym, ap, ◌∙◌, subst, arith, inl, inr}
use Rattle.std.specs.Prelude.{IsTrue, IsSomeAnd, nat_le, ◌↔◌, ◌==◌, not, slice_get}
use Rattle.std.specs.List.{All, list_any}
use Rattle.std.proofs.lemmas.Bool.{cases_lt, cases_eq, eq-eqb, ne_eqb, eqb-true, or_cases, or_left, or_right, leb-true, and_parts}
use Rattle.std.proofs.lemmas.List.{get_or_default}
use Rattle.std.proofs.lemmas.List.Elements.{All-weaker}
use Rattle.std.proofs.lemmas.Option.{slice_get-get_or}
use Rattle.ib_map.specs.declared.TheConstants.{LEAST_PAGES, MOST_PAGES}
use Rattle.ib_map.specs.declared.call.Change.{Change}
use Rattle.ib_map.specs.declared.write.Write.{Write}
use Rattle.ib_map.specs.Space.{has_pages}
use Rattle.ib_map.specs.Writes.{page_at, spans_pages, touches}
use Rattle.ib_layout.specs.declared.geometry.TheConstants.{LEAST_LOG_WORDS, MOST_LOG_WORDS}
use Rattle.ib_layout.specs.Geometry.{has_log}
use Rattle.ib_core.specs.declared.session.Session.{Session}
use Rattle.ib_core.specs.Sessions.{holdings, x_grants}
use Rattle.ib_logrec.specs.declared.entry.Entry.{Entry}
use Rattle.ib_logrec.specs.declared.entry.TheConstants.{MOST_SESSIONS}
use Rattle.ib_logrec.specs.Grammar.{IsInGrammar}
use Rattle.ib_logrec.specs.Law.{AllowsAny}
use Rattle.ib_page.specs.Work.{IsWork, PagesAscend, WorkPage, changed_of}
use Rattle.ib_page.specs.Writes.{writes_of}
use Rattle.ib_page.proofs.StoreLaws.{changed_stands, page-ge, untouched, writes_rise}
use Rattle.ib_rule.specs.Pass.{PassState}
use Rattle.ib_rule.specs.Space.{SpaceState}
use Rattle.ib_mtr.specs.Commits.{MayCommit, MayCommitAny, commit_entry}
use Rattle.ib_mtr.specs.Mtr.{IsMtr}
use Rattle.ib_mtr.proofs.Held.{held_known}

-- the page where none is
abbrev pub no_page : WorkPage
no_page = record { page = 0; before = []; changed = [] }

-- the page at a place of a work set, and whether it is written
abbrev pub number_at : List WorkPage → ℕ → ℕ
number_at ps k = (get_or ps k no_page).page

abbrev pub is_written : List WorkPage → ℕ → Bool
is_written ps k = touches (number_at ps k) (writes_of ps)

-- a page that is written stands in the work set
pub written_stands : (ps : List WorkPage) (page : ℕ) → touches page (writes_of ps) ≡ true → (k : ℕ) × (k < length ps) × (number_at ps k ≡ page)
written_stands ps page some = by_image (changed_of page ps) refl
  where
    by_image : (o : Option (List ℕ)) → changed_of page ps ≡ o → (k : ℕ) × (k < length ps) × (number_at ps k ≡ page)
    by_image None is = let both : true ≡ false = sym some ∙ untouched ps page is in absurd (cc)
    by_image (Some image) is =
        let any = changed_stands ps page image is in
        (any.0, any.2, ap (λ (w : WorkPage). w.page) (get_or_default ps any.0 no_page any.1 any.2 ∙ any.3) ∙ any.4.0)

-- where X is held on each page of the work set that is written, it is on each page that is written
pub all_owned : (ps : List WorkPage) (n : ℕ) (a : Session) → length ps ≤ n → ((k : ℕ) → k < n → is_written ps k ≡ true → 0 < x_grants (number_at ps k + 2) a) → (page : ℕ) → touches page (writes_of ps) ≡ true → 0 < x_grants (page + 2) a
all_owned ps n a whole owned page some =
    let at = written_stands ps page some in let within = at.1 in
    subst (λ (m : ℕ). 0 < x_grants (m + 2) a) at.2 (owned at.0 (omega arith) (ap (λ m. touches m (writes_of ps)) at.2 ∙ some))

-- pages at two places are two pages
pages_apart : (low : ℕ) (ps : List WorkPage) (i j : ℕ) → PagesAscend low ps → i < j → j < length ps → number_at ps i < number_at ps j
pages_apart low [] i j ascends lt within = absurd (omega arith)
pages_apart low (p ∷ ps) i zero ascends lt within = absurd (omega arith)
pages_apart low (p ∷ ps) zero (suc j) ascends lt within = let above = page-ge (p.page + 1) ps j no_page ascends.1 (omega arith) in omega arith
pages_apart low (p ∷ ps) (suc i) (suc j) ascends lt within = pages_apart (p.page + 1) ps i j ascends.1 (omega arith) (omega arith)

-- two pages that are written
other_written : (n a : ℕ) (ws : List Write) → touches a ws ≡ true → a ≢ n → list_any (λ w. not (page_at w.place == n)) ws ≡ true
other_written n a [] some apart = cc
other_written n a (w ∷ ws) some apart = elim (or_cases _ _ some) [
  | inl here ↦ or_left _ _ (ap not (ne_eqb (page_at w.place) n (λ e. apart (sym (eqb-true (page_at w.place) a here) ∙ e))))
  | inr behind ↦ or_right _ _ (other_written n a ws behind apart)
]

pub spans_two : (ws : List Write) (a b : ℕ) → touches a ws ≡ true → touches b ws ≡ true → a ≢ b → spans_pages ws ≡ true
spans_two [] a b one two apart = cc
spans_two (w ∷ ws) a b one two apart = elim (cases_eq a (page_at w.place)) [
  | inl same ↦ elim (or_cases _ _ two) [
    | inl here ↦ absurd (apart (same ∙ eqb-true (page_at w.place) b here))
    | inr behind ↦ other_written (page_at w.place) b ws behind (λ e. apart (same ∙ sym e))
  ]
  | inr other ↦ elim (or_cases _ _ one) [
    | inl here ↦ absurd (other (sym (eqb-true (page_at w.place) a here)))
    | inr behind ↦ other_written (page_at w.place) a ws behind other
  ]
]

-- .. and one alone
one_written : (n : ℕ) (ws : List Write) → ((page : ℕ) → touches page ws ≡ true → page ≡ n) → list_any (λ w. not (page_at w.place == n)) ws ≡ false
one_written n [] alone = refl
one_written n (w ∷ ws) alone =
    let here : page_at w.place ≡ n = alone (page_at w.place) (or_left _ _ (eq-eqb (page_at w.place) (page_at w.place) refl)) in
    rw (eq-eqb (page_at w.place) n here) (one_written n ws (λ page behind. alone page (or_right _ _ behind)))

pub spans_one : (ws : List Write) → ((a b : ℕ) → touches a ws ≡ true → touches b ws ≡ true → a ≡ b) → spans_pages ws ≡ false
spans_one [] alone = refl
spans_one (w ∷ ws) alone = one_written (page_at w.place) ws (λ page behind. alone page (page_at w.place) (or_right _ _ behind) (or_left _ _ (eq-eqb (page_at w.place) (page_at w.place) refl)))

-- of the first n pages none is written, or one alone
abbrev pub NoneWritten : List WorkPage → ℕ → Type 0
NoneWritten ps n = (k : ℕ) → k < n → is_written ps k ≡ false

pub record OneWritten (ps : List WorkPage) (n : ℕ) : Type 0 where
  pub at : ℕ
  pub before : at < n
  pub is : is_written ps at ≡ true
  pub alone : (k : ℕ) → k < n → is_written ps k ≡ true → k ≡ at

abbrev pub AreWritten : Bool → List WorkPage → ℕ → Type 0
AreWritten false ps n = NoneWritten ps n
AreWritten true ps n = OneWritten ps n

module _ (ps : List WorkPage) where
  -- what is said of the page at a place
  pub said_at : (n : ℕ) (r : Bool) → n < length ps → IsSomeAnd (slice_get ps n) (λ w. IsTrue r ↔ (touches w.page (writes_of ps) ≡ true)) → r ≡ is_written ps n
  said_at n r within said = same r (is_written ps n) (subst (λ o. IsSomeAnd o (λ w. IsTrue r ↔ (touches w.page (writes_of ps) ≡ true))) (slice_get-get_or ps n no_page within) said)
    where
      same : (r b : Bool) → IsTrue r ↔ (b ≡ true) → r ≡ b
      same true b both = sym (both.0 refl)
      same false true both = both.1 refl
      same false false both = refl

  -- one page further
  pub not_further : (b : Bool) (n : ℕ) → is_written ps n ≡ false → AreWritten b ps n → AreWritten b ps (n + 1)
  not_further false n not_this are = λ k lt. elim (cases_lt k n) [
    | inl earlier ↦ are k earlier
    | inr late ↦ let same : n ≡ k = omega arith in subst (λ (m : ℕ). is_written ps m ≡ false) same not_this
  ]
  not_further true n not_this are = record {
    at = are.at;
    before = let b = are.before in omega arith;
    is = are.is;
    alone = λ k lt some. elim (cases_lt k n) [
      | inl earlier ↦ are.alone k earlier some
      | inr late ↦ let same : k ≡ n = omega arith in let both : true ≡ false = sym some ∙ (ap (is_written ps) same ∙ not_this) in absurd (cc)
    ];
  }

  pub first_found : (n : ℕ) → is_written ps n ≡ true → NoneWritten ps n → OneWritten ps (n + 1)
  first_found n this none = record {
    at = n;
    before = omega arith;
    is = this;
    alone = λ k lt some. elim (cases_lt k n) [
      | inl earlier ↦ let both : true ≡ false = sym some ∙ none k earlier in absurd (cc)
      | inr late ↦ omega arith
    ];
  }

  -- a second one
  pub second_found : (n : ℕ) → PagesAscend 0 ps → n < length ps → is_written ps n ≡ true → OneWritten ps n → spans_pages (writes_of ps) ≡ true
  second_found n ascends within this one =
      let apart = pages_apart 0 ps one.at n ascends one.before within in
      spans_two (writes_of ps) (number_at ps one.at) (number_at ps n) one.is this (λ e. omega arith)

  -- no second one
  pub no_second : (b : Bool) → AreWritten b ps (length ps) → spans_pages (writes_of ps) ≡ false
  no_second false none = spans_one (writes_of ps) (λ a b some _.
      let at = written_stands ps a some in
      let both : true ≡ false = sym some ∙ (ap (λ n. touches n (writes_of ps)) (sym at.2) ∙ none at.0 at.1) in absurd (cc))
  no_second true one = spans_one (writes_of ps) (λ a b some more.
      let i = written_stands ps a some in let j = written_stands ps b more in
      let is_i = one.alone i.0 i.1 (ap (λ n. touches n (writes_of ps)) i.2 ∙ some) in
      let is_j = one.alone j.0 j.1 (ap (λ n. touches n (writes_of ps)) j.2 ∙ more) in
      sym i.2 ∙ (ap (number_at ps) (is_i ∙ sym is_j) ∙ j.2))

-- the pages of a work set are pages of the space
pub pages_known : (space : SpaceState) (p : PassState) → IsMtr space p → All (λ w. w.page < space.sizes.pages) p.work
pages_known space p mtr = All-weaker (λ w. 0 < holdings (w.page + 2) p.view.session) (λ w. w.page < space.sizes.pages)
    (λ w held. let known = held_known p.memo p.view.session mtr.exact mtr.proper (space.sizes.pages + 2) (w.page + 2) mtr.known held in omega arith) p.work mtr.held

-- .. of which it has few
pub few_pages : (space : SpaceState) (p : PassState) → has_pages space.sizes.pages ≡ true → IsMtr space p → All (λ w. w.page < MOST_PAGES) p.work
few_pages space p has mtr =
    let few : space.sizes.pages ≤ MOST_PAGES = leb-true space.sizes.pages MOST_PAGES (and_parts (nat_le LEAST_PAGES space.sizes.pages) (nat_le space.sizes.pages MOST_PAGES) has).1 in
    All-weaker (λ w. w.page < space.sizes.pages) (λ w. w.page < MOST_PAGES) (λ w known. omega arith) p.work (pages_known space p mtr)

-- the number of a next entry is one of an entry: each has a word at least, and a log has few
pub few_entries : (own seen used words : ℕ) → own ≤ seen → seen ≤ used → used ≤ words → has_log words ≡ true → own + 1 < 2 ^ 32
few_entries own seen used words mine short room has =
    let few : words ≤ MOST_LOG_WORDS = leb-true words MOST_LOG_WORDS (and_parts (nat_le LEAST_LOG_WORDS words) (nat_le words MOST_LOG_WORDS) has).1 in omega arith

-- what is asked is enough where the law allows each entry in the grammar
module _ (space : SpaceState) (lawful : List Entry → Type 0) (p : PassState) (mtr : IsMtr space p) (work : IsWork p.work) (number : (1 ≤ p.number) × (p.number ≤ MOST_SESSIONS)) (made : length p.view.memory.own + 1 < 2 ^ 32)
    (change : Change) (allows : AllowsAny space.sizes.pages lawful) (any : MayCommitAny p) where
  entry_in_grammar : IsInGrammar space.sizes.pages (commit_entry p change)
  entry_in_grammar = record {
    session = number.0;
    most_session = number.1;
    number = omega arith;
    most_number = made;
    writes = any.changes;
    most_writes = any.few;
    places = writes_rise 0 space.sizes.pages p.work work.ascends (pages_known space p mtr);
    structural = refl;
  }

  pub enough : MayCommit lawful p change
  enough = record {
    grows = any.grows;
    log = any.log;
    pages_x = any.pages_x;
    index = any.index;
    legal = λ others harmless legal. allows (p.view.memory.seen ++ others) (commit_entry p change) legal entry_in_grammar;
  }
