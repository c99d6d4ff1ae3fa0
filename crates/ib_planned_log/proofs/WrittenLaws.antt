-- A kept entry raises the clock of each page that it writes by one, and of no other.
use Rattle.std.specs.List.{AllByRecursion}
use Rattle.std.proofs.Common.{◌≡◌, ◌≢◌, ℕ, ◌+◌, ◌*◌, ◌<◌, ◌≤◌, ◌∙◌, Bool, true, false, cond, List, [], ◌∷◌, ◌++◌, get_or, refl, sym, ap, arith, inl, inr}
use Rattle.std.proofs.lemmas.Bool.{eq-eqb, ne_eqb, eqb-true, or_cases}
use Rattle.ib_map.specs.declared.TheConstants.{PAGE_WORDS}
use Rattle.ib_map.specs.declared.write.Write.{Write}
use Rattle.ib_map.specs.Writes.{PlacesRise, stored, touches, word_place, page_at, index_at}
use Rattle.ib_map.proofs.WriteLaws.{stored-unwritten, writes_at-below}
use Rattle.ib_logrec.specs.declared.entry.Entry.{Entry}
use Rattle.ib_logrec.specs.Grammar.{IsInGrammar}
use Rattle.ib_logrec.specs.Log.{memory_after, by_place}
use Rattle.ib_logrec.proofs.LogLaws.{memory_after-push}
use Rattle.ib_walk.specs.Pages.{PageState}
use Rattle.ib_walk.specs.Words.{bits_of}
use Rattle.ib_walk.proofs.ImageLaws.{word_of_image}
use Rattle.ib_walk.proofs.WalkLaws.{AllByRecursion-right}
use Rattle.ib_plans.specs.Marks.{ticked}
use Rattle.ib_tree.specs.Clocks.{CountsWrites}
use Rattle.ib_tree.specs.Logs.{pages_after}
use Rattle.ib_tree.specs.TreeLog.{opening}
use Rattle.ib_tree.proofs.LogLaws.{pages_after-untouched}
use Rattle.ib_planned_log.specs.Kept.{Planned, plan_of, IsKeptLog, IsPlannedEntry}

-- a word on the page that the writes leave another
record HasDiffering (low : ℕ) (ws : List Write) (words : ℕ → ℕ) (page : ℕ) : Type 0 where
  pub place : ℕ
  pub here : page_at place ≡ page
  pub from : low ≤ place
  pub differs : stored ws place (words place) ≢ words place

-- of writes that each change a word, one on a page that they touch leaves another word there
some-differs : (low : ℕ) (ws : List Write) (end : ℕ) (words : ℕ → ℕ) (page : ℕ) → PlacesRise low ws end → AllByRecursion (λ w. words w.place ≢ w.value) ws → touches page ws ≡ true → HasDiffering low ws words page
some-differs low [] end words page rise differ some = absurd cc
some-differs low (w ∷ ws) end words page rise differ some = elim (or_cases _ _ some) [
  | inl is ↦ record {
    place = w.place;
    here = eqb-true (page_at w.place) page is;
    from = rise.0;
    differs = λ same. differ.0 (sym same ∙ rw (eq-eqb w.place w.place refl) (stored-unwritten ws w.place w.value (writes_at-below (w.place + 1) ws end w.place rise.2 (omega arith))));
  }
  | inr later ↦
      let rest = some-differs (w.place + 1) ws end words page rise.2 differ.1 later in
      let above = rest.from in let low_ = rise.0 in
      record { place = rest.place; here = rest.here; from = omega arith; differs = λ same. rest.differs (let no = ne_eqb w.place rest.place (omega arith) in rw no at same) }
]

module _ (pages : ℕ) (front : List Entry) (e : Entry) (kept : IsKeptLog pages (front ++ e ∷ [])) where
  abbrev start : ℕ → ℕ
  start = by_place opening pages

  abbrev plan : Planned
  plan = plan_of 1 (pages_after start front) (bits_of pages (memory_after start front)) pages e.change

  grammar : IsInGrammar pages e
  grammar = let lawful = kept.lawful in (AllByRecursion-right (IsInGrammar pages) front (e ∷ []) lawful.grammar).0

  p : IsPlannedEntry pages start front e
  p = kept.planned_are front e [] refl

  -- a page that is written is one that the plan touches: each other page is as it was, word for word
  touched-written : (page : ℕ) → touches page e.writes ≡ true → plan.touched page ≡ true
  touched-written page written = go (plan.touched page) refl
    where
      go : (b : Bool) → plan.touched page ≡ b → plan.touched page ≡ true
      go true is = is
      go false is =
          let w = some-differs 0 e.writes (pages * PAGE_WORDS) (memory_after start front) page grammar.places p.differ written in
          let same = p.step.kept page is in
          let index = index_at w.place in
          let lt : index < PAGE_WORDS = omega arith in
          let at : word_place page index ≡ w.place = (let here = w.here in omega arith) in
          let now = word_of_image (memory_after start (front ++ e ∷ [])) page index lt in
          let was = word_of_image (memory_after start front) page index lt in
          absurd (w.differs (sym (memory_after-push start front e w.place) ∙ (ap (memory_after start (front ++ e ∷ [])) (sym at) ∙ (sym now ∙ (ap (λ ws. get_or ws index 0) same ∙ (was ∙ ap (memory_after start front) at))))))

  clock-rises : (page : ℕ) → page ≢ 0 → (pages_after start (front ++ e ∷ []) page).clock ≡ (pages_after start front page).clock + cond {A = ℕ} (touches page e.writes) 1 0
  clock-rises page ne = go (touches page e.writes) refl
    where
      go : (b : Bool) → touches page e.writes ≡ b → (pages_after start (front ++ e ∷ []) page).clock ≡ (pages_after start front page).clock + cond {A = ℕ} (touches page e.writes) 1 0
      go false is =
          let none = ap (λ b. cond {A = ℕ} b 1 0) is in
          let same = ap (λ (q : PageState). q.clock) (pages_after-untouched start front e page is) in omega arith
      go true is =
          let one = ap (λ b. cond {A = ℕ} b 1 0) is in
          let ticks = ap (λ (q : PageState). q.clock) (p.step.pages_are page ne) in
          let mark = touched-written page is in
          let clock : (ticked (pages_after start front) plan.touched plan.memory page).clock ≡ (pages_after start front page).clock + 1 = rw mark refl in omega arith

pub CountsWrites-kept : (pages : ℕ) → CountsWrites (IsKeptLog pages) (by_place opening pages)
CountsWrites-kept pages = λ front e page ne kept. clock-rises pages front e kept page ne
