-- Where a session's records stand in a history in which nobody else changed anything: each at what the session had seen.
use Rattle.std.proofs.Common.{◌≡◌, ◌≢◌, ◌∙◌, ℕ, ◌+◌, ◌≤◌, List, [], ◌∷◌, Option, Some, None, length, refl, ap, arith, inl, inr, length-append}
use Rattle.std.specs.List.{filter_map}
use Rattle.std.proofs.lemmas.Bool.{cases_Bool, cases_eq}
use Rattle.ib_map.specs.Map.{is_made}
use Rattle.ib_map.specs.History.{History, changes_of}
use Rattle.ib_map.specs.Replies.{FullRecord, Fits}
use Rattle.ib_map.specs.Runs.{AreAnswers, change_made, reach_after}
use Rattle.ib_map.specs.declared.call.Change.{Change}
use Rattle.ib_map.proofs.FitsLaws.{reach_after-le}
use Rattle.ib_map.proofs.HistoryLaws.{changes_of-append, changes_of-own}

-- how many changes the records say were made
abbrev pub made : List FullRecord → ℕ
made rs = length (filter_map change_made rs)

-- a record that made a change takes a place
made-first : (r : FullRecord) (rs : List FullRecord) → made (r ∷ rs) + r.place ≤ reach_after r + made rs
made-first r rs = elim (cases_Bool (is_made r.reply)) [
  | inl done_so ↦
      let after : reach_after r ≡ r.place + 1 = rw done_so refl in
      let most : made (r ∷ rs) ≤ made rs + 1 = one (change_made r) refl in
      omega arith
  | inr not_so ↦
      let after : reach_after r ≡ r.place = rw not_so refl in
      let none : change_made r ≡ None = rw not_so refl in
      let same : made (r ∷ rs) ≡ made rs = ap length (nothing none) in
      omega arith
]
  where
    nothing : change_made r ≡ None → filter_map change_made (r ∷ rs) ≡ filter_map change_made rs
    nothing none = rw none refl

    something : (change : Change) → change_made r ≡ Some change → filter_map change_made (r ∷ rs) ≡ change ∷ filter_map change_made rs
    something change some = rw some refl

    one : (o : Option Change) → change_made r ≡ o → made (r ∷ rs) ≤ made rs + 1
    one None is = let same = ap length (nothing is) in omega arith
    one (Some change) is = let same = ap length (something change is) in omega arith

-- the changes of the records to come have room in the history
made-room : (h : History) (session reach : ℕ) (rs : List FullRecord) → reach ≤ length h → AreAnswers (Fits h session) reach rs → reach + made rs ≤ length h
made-room h session reach [] le are = omega arith
made-room h session reach (r ∷ rs) le are =
    let first = made-first r rs in
    let seen = are.1 in
    let rest = made-room h session (reach_after r) rs (reach_after-le h session reach r are.0) are.3 in
    omega arith

-- where they fill it, a record stands at what its session has seen, and so does the next
pub at-reach : (h : History) (session reach : ℕ) (r : FullRecord) (rs : List FullRecord) → AreAnswers (Fits h session) reach (r ∷ rs) → reach + made (r ∷ rs) ≡ length h
    → (r.place ≡ reach) × (reach_after r + made rs ≡ length h)
at-reach h session reach r rs are full =
    let first = made-first r rs in
    let seen = are.1 in
    let rest = made-room h session (reach_after r) rs (reach_after-le h session reach r are.0) are.3 in
    (omega arith, omega arith)

-- a history in which nobody else changed anything
pub all-own : (h : History) (session : ℕ) → ((other : ℕ) → other ≢ session → length (changes_of other h) ≡ 0) → length (changes_of session h) ≡ length h
all-own [] session others = refl
all-own (entry ∷ h) session others = elim (cases_eq entry.session session) [
  | inl same ↦
      let own : length (changes_of session (entry ∷ [])) ≡ 1 = ap length (changes_of-own session [] entry same) in
      let rest = all-own h session (λ other apart. let none = others other apart in let parts = split other in omega arith) in
      let parts = split session in
      omega arith
  | inr apart ↦
      let none = others entry.session apart in
      let own : length (changes_of entry.session (entry ∷ [])) ≡ 1 = ap length (changes_of-own entry.session [] entry refl) in
      let parts = split entry.session in
      absurd (omega arith)
]
  where
    split : (other : ℕ) → length (changes_of other (entry ∷ h)) ≡ length (changes_of other (entry ∷ [])) + length (changes_of other h)
    split other = ap length (changes_of-append other (entry ∷ []) h) ∙ length-append (changes_of other (entry ∷ [])) (changes_of other h)
