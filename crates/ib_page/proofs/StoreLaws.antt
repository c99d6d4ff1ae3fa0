-- What the writes of a work set are, and what they leave at each place.
use Rattle.std.proofs.Common.{◌≡◌, ◌≢◌, ℕ, zero, suc, ◌+◌, ◌*◌, ◌<◌, ◌≤◌, Bool, true, false, eqb, ltb-true, lt-ltb, ◌⊎◌, ◌∙◌, [], ◌∷◌, ◌++◌, List, Option, Some, None, length, get_or, refl, ap, sym, subst, inl, inr, arith}
use Rattle.std.specs.Prelude.{◌↔◌, ◌||◌, IsTrue, IsSomeAnd, nat_lt, slice_get}
use Rattle.std.specs.List.{All, Any, Contains}
use Rattle.std.proofs.lemmas.Bool.{cases_lt, cases_eq, eq-eqb, ne_eqb, or_parts}
use Rattle.std.proofs.lemmas.List.Elements.{All-head, All-tail, Contains-append_left, Contains-append_right, Contains-append_cases}
use Rattle.std.proofs.lemmas.List.Folds.{list_any-append}
use Rattle.std.proofs.lemmas.Option.{get_or_from_slice_get, slice_get_within}
use Rattle.ib_map.specs.declared.TheConstants.{PAGE_WORDS}
use Rattle.ib_map.specs.declared.write.Write.{Write}
use Rattle.ib_map.specs.Writes.{word_place, page_at, stored, touches, PlacesRise}
use Rattle.ib_map.proofs.WriteLaws.{page_at-word, stored-append, stored-unwritten, writes_at-untouched}
use Rattle.ib_page.specs.Work.{WorkPage, PagesAscend, changed_of, before_of}
use Rattle.ib_page.specs.Writes.{word_write, writes_below, page_writes, writes_of, word_in}
use Rattle.ib_page.proofs.WriteLaws.{writes_none, writes_more, writes_more_same}
use Rattle.ib_page.proofs.BufferLaws.{AreOn, writes_on}

-- one word more, where the number is a successor
writes_suc : (page : ℕ) (before changed : List ℕ) (n : ℕ) → writes_below page before changed (suc n) ≡ writes_below page before changed n ++ word_write page before changed n
writes_suc page before changed n = ap (λ k. writes_below page before changed k) (let e : suc n ≡ n + 1 = omega arith in e) ∙ writes_more page before changed n

-- a word is stored where it differs
stored_other : (page : ℕ) (before changed : List ℕ) (n index word : ℕ) → n ≢ index → stored (word_write page before changed n) (word_place page index) word ≡ word
stored_other page before changed n index word apart = elim (cases_eq (get_or before n 0) (get_or changed n 0)) [
  | inl same ↦ rw (eq-eqb (get_or before n 0) (get_or changed n 0) same) refl
  | inr differ ↦ rw (ne_eqb (get_or before n 0) (get_or changed n 0) differ) (rw (ne_eqb (word_place page n) (word_place page index) (λ e. apart (omega arith))) refl)
]

stored_here : (page : ℕ) (before changed : List ℕ) (n : ℕ) → stored (word_write page before changed n) (word_place page n) (get_or before n 0) ≡ get_or changed n 0
stored_here page before changed n = elim (cases_eq (get_or before n 0) (get_or changed n 0)) [
  | inl same ↦ rw (eq-eqb (get_or before n 0) (get_or changed n 0) same) same
  | inr differ ↦ rw (ne_eqb (get_or before n 0) (get_or changed n 0) differ) (rw (eq-eqb (word_place page n) (word_place page n) refl) refl)
]

stored_before : (page : ℕ) (before changed : List ℕ) (n index word : ℕ) → n ≤ index → stored (writes_below page before changed n) (word_place page index) word ≡ word
stored_before page before changed zero index word le = ap (λ ws. stored ws (word_place page index) word) (writes_none page before changed)
stored_before page before changed (suc n) index word le =
    ap (λ ws. stored ws (word_place page index) word) (writes_suc page before changed n)
    ∙ (stored-append (writes_below page before changed n) (word_write page before changed n) (word_place page index) word
    ∙ (ap (λ w. stored (word_write page before changed n) (word_place page index) w) (stored_before page before changed n index word (omega arith))
    ∙ stored_other page before changed n index word (λ e. omega arith)))

stored_own : (page : ℕ) (before changed : List ℕ) (n index : ℕ) → index < n → stored (writes_below page before changed n) (word_place page index) (get_or before index 0) ≡ get_or changed index 0
stored_own page before changed zero index lt = absurd (omega arith)
stored_own page before changed (suc n) index lt =
    ap (λ ws. stored ws (word_place page index) (get_or before index 0)) (writes_suc page before changed n)
    ∙ (stored-append (writes_below page before changed n) (word_write page before changed n) (word_place page index) (get_or before index 0)
    ∙ elim (cases_lt index n) [
      | inl earlier ↦ ap (λ w. stored (word_write page before changed n) (word_place page index) w) (stored_own page before changed n index earlier) ∙ stored_other page before changed n index (get_or changed index 0) (λ e. omega arith)
      | inr late ↦
          let same : index ≡ n = omega arith in
          ap (λ w. stored (word_write page before changed n) (word_place page index) w) (stored_before page before changed n index (get_or before index 0) (omega arith))
          ∙ subst (λ (k : ℕ). stored (word_write page before changed n) (word_place page k) (get_or before k 0) ≡ get_or changed k 0) (sym same) (stored_here page before changed n)
    ])

-- which pages are written
on_touches : (page other : ℕ) (ws : List Write) → page ≢ other → AreOn page ws → touches other ws ≡ false
on_touches page other [] apart h = refl
on_touches page other (w ∷ ws) apart h = let at = h.0 in rw (ne_eqb (page_at w.place) other (λ e. apart (omega arith))) (on_touches page other ws apart h.1)

page_untouched : (p : WorkPage) (page : ℕ) → p.page ≢ page → touches page (page_writes p) ≡ false
page_untouched p page apart = on_touches p.page page (page_writes p) apart (writes_on p.page p.before p.changed PAGE_WORDS (omega arith))

touches-append : (page : ℕ) (xs ys : List Write) → touches page xs ≡ false → touches page ys ≡ false → touches page (xs ++ ys) ≡ false
touches-append page xs ys none nothing = list_any-append (λ (w : Write). eqb (page_at w.place) page) xs ys ∙ (ap (λ b. b || touches page ys) none ∙ nothing)

touches-right : (page : ℕ) (xs ys : List Write) → touches page (xs ++ ys) ≡ false → touches page ys ≡ false
touches-right page xs ys none = (or_parts (touches page xs) (touches page ys) (sym (list_any-append (λ (w : Write). eqb (page_at w.place) page) xs ys) ∙ none)).1

pub untouched : (ps : List WorkPage) (page : ℕ) → changed_of page ps ≡ None → touches page (writes_of ps) ≡ false
untouched [] page absent = refl
untouched (p ∷ ps) page absent = elim (cases_eq p.page page) [
  | inl same ↦ let bad = rw (eq-eqb p.page page same) at absent in cc
  | inr apart ↦ touches-append page (page_writes p) (writes_of ps) (page_untouched p page apart) (untouched ps page (rw (ne_eqb p.page page apart) at absent))
]

above_absent : (low : ℕ) (ps : List WorkPage) (page : ℕ) → PagesAscend low ps → page < low → changed_of page ps ≡ None
above_absent low [] page h lt = refl
above_absent low (p ∷ ps) page h lt = rw (ne_eqb p.page page (λ e. (let le = h.0 in omega arith))) (above_absent (p.page + 1) ps page h.1 (let le = h.0 in omega arith))

pub page-ge : (low : ℕ) (ps : List WorkPage) (k : ℕ) (d : WorkPage) → PagesAscend low ps → k < length ps → low ≤ (get_or ps k d).page
page-ge low [] k d h lt = absurd (omega arith)
page-ge low (p ∷ ps) zero d h lt = h.0
page-ge low (p ∷ ps) (suc k) d h lt = let rest = page-ge (p.page + 1) ps k d h.1 (omega arith) in let first = h.0 in omega arith

unwritten : (ws : List Write) (page index word : ℕ) → index < PAGE_WORDS → touches page ws ≡ false → stored ws (word_place page index) word ≡ word
unwritten ws page index word lt none =
    stored-unwritten ws (word_place page index) word (writes_at-untouched (word_place page index) ws (ap (λ n. touches n ws) (page_at-word page index lt) ∙ none))

-- the writes lead from the images as read to those as changed
pub leads : (low : ℕ) (ps : List WorkPage) (k : ℕ) (d : WorkPage) (index : ℕ) → PagesAscend low ps → k < length ps → index < PAGE_WORDS
    → stored (writes_of ps) (word_place (get_or ps k d).page index) (get_or (get_or ps k d).before index 0) ≡ get_or (get_or ps k d).changed index 0
leads low [] k d index h lt within = absurd (omega arith)
leads low (p ∷ ps) zero d index h lt within =
    stored-append (page_writes p) (writes_of ps) (word_place p.page index) (get_or p.before index 0)
    ∙ (ap (λ w. stored (writes_of ps) (word_place p.page index) w) (stored_own p.page p.before p.changed PAGE_WORDS index within)
    ∙ unwritten (writes_of ps) p.page index (get_or p.changed index 0) within (untouched ps p.page (above_absent (p.page + 1) ps p.page h.1 (omega arith))))
leads low (p ∷ ps) (suc k) d index h lt within =
    let q = get_or ps k d in
    let above = page-ge (p.page + 1) ps k d h.1 (omega arith) in
    stored-append (page_writes p) (writes_of ps) (word_place q.page index) (get_or q.before index 0)
    ∙ (ap (λ w. stored (writes_of ps) (word_place q.page index) w) (unwritten (page_writes p) q.page index (get_or q.before index 0) within (page_untouched p q.page (λ e. omega arith)))
    ∙ leads (p.page + 1) ps k d index h.1 (omega arith) within)

-- a page is written where its images differ
same_unwritten : (page : ℕ) (before changed : List ℕ) (n : ℕ) → ((index : ℕ) → index < n → get_or before index 0 ≡ get_or changed index 0) → writes_below page before changed n ≡ []
same_unwritten page before changed zero same = writes_none page before changed
same_unwritten page before changed (suc n) same =
    ap (λ k. writes_below page before changed k) (let e : suc n ≡ n + 1 = omega arith in e)
    ∙ (writes_more_same page before changed n (same n (omega arith)) ∙ same_unwritten page before changed n (λ i lt. same i (omega arith)))

-- a page without writes of its own is not written
none_untouched : (low : ℕ) (ps : List WorkPage) (k : ℕ) (d : WorkPage) → PagesAscend low ps → k < length ps → page_writes (get_or ps k d) ≡ [] → touches (get_or ps k d).page (writes_of ps) ≡ false
none_untouched low [] k d h lt none = absurd (omega arith)
none_untouched low (p ∷ ps) zero d h lt none =
    touches-append p.page (page_writes p) (writes_of ps) (ap (λ ws. touches p.page ws) none) (untouched ps p.page (above_absent (p.page + 1) ps p.page h.1 (omega arith)))
none_untouched low (p ∷ ps) (suc k) d h lt none =
    let above = page-ge (p.page + 1) ps k d h.1 (omega arith) in
    touches-append (get_or ps k d).page (page_writes p) (writes_of ps) (page_untouched p (get_or ps k d).page (λ e. omega arith)) (none_untouched (p.page + 1) ps k d h.1 (omega arith) none)

pub same_untouched : (low : ℕ) (ps : List WorkPage) (k : ℕ) (d : WorkPage) → PagesAscend low ps → k < length ps
    → ((index : ℕ) → index < PAGE_WORDS → get_or (get_or ps k d).before index 0 ≡ get_or (get_or ps k d).changed index 0) → touches (get_or ps k d).page (writes_of ps) ≡ false
same_untouched low ps k d h lt same = let p = get_or ps k d in none_untouched low ps k d h lt (same_unwritten p.page p.before p.changed PAGE_WORDS same)

pub leads_to : (ps : List WorkPage) (p : WorkPage) (index : ℕ) → PagesAscend 0 ps → Contains ps p → index < PAGE_WORDS → stored (writes_of ps) (word_place p.page index) (get_or p.before index 0) ≡ get_or p.changed index 0
leads_to ps p index h among lt =
    subst (λ (q : WorkPage). stored (writes_of ps) (word_place q.page index) (get_or q.before index 0) ≡ get_or q.changed index 0) among.2 (leads 0 ps among.0 p index h among.1 lt)

pub written_exactly : (ps : List WorkPage) (p : WorkPage) → PagesAscend 0 ps → Contains ps p
    → (touches p.page (writes_of ps) ≡ false) ↔ ((index : ℕ) → index < PAGE_WORDS → get_or p.before index 0 ≡ get_or p.changed index 0)
written_exactly ps p h among = (
  λ none index lt. sym (unwritten (writes_of ps) p.page index (get_or p.before index 0) lt none) ∙ leads_to ps p index h among lt,
  λ same. subst (λ (q : WorkPage). touches q.page (writes_of ps) ≡ false) among.2
      (same_untouched 0 ps among.0 p h among.1 (λ index lt. subst (λ (q : WorkPage). get_or q.before index 0 ≡ get_or q.changed index 0) (sym among.2) (same index lt))),
)

-- .. exactly where it has writes of its own
pub touched_exactly : (ps : List WorkPage) (p : WorkPage) → PagesAscend 0 ps → Contains ps p → IsTrue (nat_lt 0 (length (page_writes p))) ↔ (touches p.page (writes_of ps) ≡ true)
touched_exactly ps p h among = (λ some. is_touched some (touches p.page (writes_of ps)) refl, λ some. has_writes some (cases_eq (length (page_writes p)) 0))
  where
    is_touched : IsTrue (nat_lt 0 (length (page_writes p))) → (b : Bool) → touches p.page (writes_of ps) ≡ b → touches p.page (writes_of ps) ≡ true
    is_touched some true is = is
    is_touched some false is =
        let none : length (page_writes p) ≡ 0 = ap length (same_unwritten p.page p.before p.changed PAGE_WORDS ((written_exactly ps p h among).0 is)) in
        let lt = ltb-true 0 (length (page_writes p)) some in absurd (omega arith)

    empty : (ws : List Write) → length ws ≡ 0 → ws ≡ []
    empty [] none = refl
    empty (w ∷ ws) none = absurd (omega arith)

    has_writes : touches p.page (writes_of ps) ≡ true → (length (page_writes p) ≡ 0) ⊎ (length (page_writes p) ≢ 0) → IsTrue (nat_lt 0 (length (page_writes p)))
    has_writes some (inl none) =
        let bare : touches p.page (writes_of ps) ≡ false = subst (λ (q : WorkPage). touches q.page (writes_of ps) ≡ false) among.2
        (none_untouched 0 ps among.0 p h among.1 (ap (λ (q : WorkPage). page_writes q) among.2 ∙ empty (page_writes p) none)) in
        let both : true ≡ false = sym some ∙ bare in absurd (cc)
    has_writes some (inr has) = lt-ltb 0 (length (page_writes p)) (omega arith)

-- .. as the page at a place
pub touched_at : (ps : List WorkPage) (k n : ℕ) (p : WorkPage) → PagesAscend 0 ps → slice_get ps k ≡ Some p → n ≡ length (page_writes p) → IsSomeAnd (slice_get ps k) (λ w. IsTrue (nat_lt 0 n) ↔ (touches w.page (writes_of ps) ≡ true))
touched_at ps k n p h at many =
    let there : Contains ps p = (k, slice_get_within ps k p at, get_or_from_slice_get ps k p p at) in
    subst (λ o. IsSomeAnd o (λ w. IsTrue (nat_lt 0 n) ↔ (touches w.page (writes_of ps) ≡ true))) (sym at)
    (subst (λ (m : ℕ). IsTrue (nat_lt 0 m) ↔ (touches p.page (writes_of ps) ≡ true)) (sym many) (touched_exactly ps p h there))

-- the places ascend
PlacesRise-lower : (under low end : ℕ) (ws : List Write) → under ≤ low → PlacesRise low ws end → PlacesRise under ws end
PlacesRise-lower under low end [] le h = tt
PlacesRise-lower under low end (w ∷ ws) le h = (let first = h.0 in omega arith, h.1, h.2)

PlacesRise-append : (low middle end : ℕ) (vs ws : List Write) → low ≤ middle → middle ≤ end → PlacesRise low vs middle → PlacesRise middle ws end → PlacesRise low (vs ++ ws) end
PlacesRise-append low middle end [] ws le within before behind = PlacesRise-lower low middle end ws le behind
PlacesRise-append low middle end (v ∷ vs) ws le within before behind =
    let lt = before.1 in
    (before.0, omega arith, PlacesRise-append (v.place + 1) middle end vs ws (omega arith) within before.2 behind)

word_rises : (page : ℕ) (before changed : List ℕ) (n : ℕ) → PlacesRise (word_place page n) (word_write page before changed n) (word_place page (n + 1))
word_rises page before changed n = elim (cases_eq (get_or before n 0) (get_or changed n 0)) [
  | inl same ↦ rw (eq-eqb (get_or before n 0) (get_or changed n 0) same) tt
  | inr differ ↦ rw (ne_eqb (get_or before n 0) (get_or changed n 0) differ) (omega arith, omega arith, tt)
]

page_rises : (page : ℕ) (before changed : List ℕ) (n : ℕ) → PlacesRise (word_place page 0) (writes_below page before changed n) (word_place page n)
page_rises page before changed zero = subst (λ (ws : List Write). PlacesRise (word_place page 0) ws (word_place page 0)) (sym (writes_none page before changed)) tt
page_rises page before changed (suc n) =
    subst (λ (ws : List Write). PlacesRise (word_place page 0) ws (word_place page (suc n))) (sym (writes_suc page before changed n))
    (PlacesRise-append (word_place page 0) (word_place page n) (word_place page (suc n)) (writes_below page before changed n) (word_write page before changed n) (omega arith) (omega arith) (page_rises page before changed n)
    (subst (λ (k : ℕ). PlacesRise (word_place page n) (word_write page before changed n) (word_place page k)) (let e : n + 1 ≡ suc n = omega arith in e) (word_rises page before changed n)))

pub writes_rise : (low end : ℕ) (ps : List WorkPage) → PagesAscend low ps → All (λ p. p.page < end) ps → PlacesRise (low * PAGE_WORDS) (writes_of ps) (end * PAGE_WORDS)
writes_rise low end [] ascend within = tt
writes_rise low end (p ∷ ps) ascend within =
    let lt : p.page < end = All-head (λ (q : WorkPage). q.page < end) p ps within in
    let le = ascend.0 in
    let last : word_place p.page PAGE_WORDS ≡ (p.page + 1) * PAGE_WORDS = omega arith in
    let first : low * PAGE_WORDS ≤ word_place p.page 0 = omega arith in
    PlacesRise-append (low * PAGE_WORDS) ((p.page + 1) * PAGE_WORDS) (end * PAGE_WORDS) (page_writes p) (writes_of ps) (omega arith) (omega arith)
    (PlacesRise-lower (low * PAGE_WORDS) (word_place p.page 0) ((p.page + 1) * PAGE_WORDS) (page_writes p) first
    (subst (λ (k : ℕ). PlacesRise (word_place p.page 0) (page_writes p) k) last (page_rises p.page p.before p.changed PAGE_WORDS)))
    (writes_rise (p.page + 1) end ps ascend.1 (All-tail (λ (q : WorkPage). q.page < end) p ps within))

-- a page's images stand beside it in the list
Any-here : (P : WorkPage → Type 0) (p : WorkPage) (ps : List WorkPage) → P p → Any P (p ∷ ps)
Any-here P p ps h = (0, p, omega arith, refl, h)

Any-behind : (P : WorkPage → Type 0) (p : WorkPage) (ps : List WorkPage) → Any P ps → Any P (p ∷ ps)
Any-behind P p ps h = let lt = h.2 in (suc h.0, h.1, omega arith, h.3, h.4)

pub changed_stands : (ps : List WorkPage) (page : ℕ) (image : List ℕ) → changed_of page ps ≡ Some image → Any (λ p. (p.page ≡ page) × (p.changed ≡ image)) ps
changed_stands [] page image at = cc
changed_stands (p ∷ ps) page image at = elim (cases_eq p.page page) [
  | inl same ↦ let here = rw (eq-eqb p.page page same) at at in Any-here (λ q. (q.page ≡ page) × (q.changed ≡ image)) p ps (same, cc)
  | inr apart ↦ Any-behind (λ q. (q.page ≡ page) × (q.changed ≡ image)) p ps (changed_stands ps page image (rw (ne_eqb p.page page apart) at at))
]

pub before_stands : (ps : List WorkPage) (page : ℕ) (image : List ℕ) → before_of page ps ≡ Some image → Any (λ p. (p.page ≡ page) × (p.before ≡ image)) ps
before_stands [] page image at = cc
before_stands (p ∷ ps) page image at = elim (cases_eq p.page page) [
  | inl same ↦ let here = rw (eq-eqb p.page page same) at at in Any-here (λ q. (q.page ≡ page) × (q.before ≡ image)) p ps (same, cc)
  | inr apart ↦ Any-behind (λ q. (q.page ≡ page) × (q.before ≡ image)) p ps (before_stands ps page image (rw (ne_eqb p.page page apart) at at))
]

pub images_at : (low : ℕ) (ps : List WorkPage) (k : ℕ) (d : WorkPage) → PagesAscend low ps → k < length ps
    → (changed_of (get_or ps k d).page ps ≡ Some (get_or ps k d).changed) × (before_of (get_or ps k d).page ps ≡ Some (get_or ps k d).before)
images_at low [] k d h lt = absurd (omega arith)
images_at low (p ∷ ps) zero d h lt = rw (eq-eqb p.page p.page refl) (refl, refl)
images_at low (p ∷ ps) (suc k) d h lt =
    let above = page-ge (p.page + 1) ps k d h.1 (omega arith) in
    let rest = images_at (p.page + 1) ps k d h.1 (omega arith) in
    rw (ne_eqb p.page (get_or ps k d).page (λ e. omega arith)) rest

pub changed_there : (ps : List WorkPage) (page : ℕ) (image : List ℕ) → PagesAscend 0 ps → Any (λ p. (p.page ≡ page) × (p.changed ≡ image)) ps → changed_of page ps ≡ Some image
changed_there ps page image h any =
    let at = (images_at 0 ps any.0 any.1 h any.2).0 in
    let moved : changed_of any.1.page ps ≡ Some any.1.changed = subst (λ (q : WorkPage). changed_of q.page ps ≡ Some q.changed) any.3 at in
    ap (λ n. changed_of n ps) (sym any.4.0) ∙ (moved ∙ ap (λ (v : List ℕ). Some v) any.4.1)

pub before_there : (ps : List WorkPage) (page : ℕ) (image : List ℕ) → PagesAscend 0 ps → Any (λ p. (p.page ≡ page) × (p.before ≡ image)) ps → before_of page ps ≡ Some image
before_there ps page image h any =
    let at = (images_at 0 ps any.0 any.1 h any.2).1 in
    let moved : before_of any.1.page ps ≡ Some any.1.before = subst (λ (q : WorkPage). before_of q.page ps ≡ Some q.before) any.3 at in
    ap (λ n. before_of n ps) (sym any.4.0) ∙ (moved ∙ ap (λ (v : List ℕ). Some v) any.4.1)

-- which words are written: those that differ, each as it is changed to
pub record IsWrite (page : ℕ) (before changed : List ℕ) (n : ℕ) (write : Write) : Type 0 where
  pub index : ℕ
  pub in_range : index < n
  pub place : write.place ≡ word_place page index
  pub value : write.value ≡ get_or changed index 0
  pub differs : get_or before index 0 ≢ get_or changed index 0

only_written : (page : ℕ) (before changed : List ℕ) (n : ℕ) (write : Write) → Contains (writes_below page before changed n) write → IsWrite page before changed n write
only_written page before changed zero write h = let none = subst (λ (ws : List Write). Contains ws write) (writes_none page before changed) h in absurd (let lt = none.1 in omega arith)
only_written page before changed (suc n) write h =
    elim (Contains-append_cases (writes_below page before changed n) (word_write page before changed n) write (subst (λ (ws : List Write). Contains ws write) (writes_suc page before changed n) h)) [
      | inl earlier ↦
          let rest = only_written page before changed n write earlier in let lt = rest.in_range in
          record { index = rest.index; in_range = omega arith; place = rest.place; value = rest.value; differs = rest.differs }
      | inr last ↦ elim (cases_eq (get_or before n 0) (get_or changed n 0)) [
        | inl same ↦ let none = rw (eq-eqb (get_or before n 0) (get_or changed n 0) same) at last in absurd (let lt = none.1 in omega arith)
        | inr differ ↦
            let one = rw (ne_eqb (get_or before n 0) (get_or changed n 0) differ) at last in
            let is = the_one (record { place = word_place page n; value = get_or changed n 0 }) write one in
            record { index = n; in_range = omega arith; place = ap (λ (w : Write). w.place) (sym is); value = ap (λ (w : Write). w.value) (sym is); differs = differ }
      ]
    ]
  where
    the_one : (w v : Write) → Contains (w ∷ []) v → w ≡ v
    the_one w v (zero, lt, at) = at
    the_one w v (suc k, lt, at) = absurd (omega arith)

is_written : (page : ℕ) (before changed : List ℕ) (n index : ℕ) → index < n → get_or before index 0 ≢ get_or changed index 0 → Contains (writes_below page before changed n) (record { place = word_place page index; value = get_or changed index 0 })
is_written page before changed zero index lt differs = absurd (omega arith)
is_written page before changed (suc n) index lt differs =
    let w : Write = record { place = word_place page index; value = get_or changed index 0 } in
    subst (λ (ws : List Write). Contains ws w) (sym (writes_suc page before changed n)) (elim (cases_lt index n) [
      | inl earlier ↦ Contains-append_left (writes_below page before changed n) (word_write page before changed n) w (is_written page before changed n index earlier differs)
      | inr late ↦
          let same : index ≡ n = omega arith in
          Contains-append_right (writes_below page before changed n) (word_write page before changed n) w
          (subst (λ (k : ℕ). Contains (word_write page before changed k) w) same (rw (ne_eqb (get_or before index 0) (get_or changed index 0) differs) (0, omega arith, refl)))
    ])

abbrev pub IsWriteOn : Write → WorkPage → Type 0
IsWriteOn write p = IsWrite p.page p.before p.changed PAGE_WORDS write

writes_only : (ps : List WorkPage) (write : Write) → Contains (writes_of ps) write → Any (IsWriteOn write) ps
writes_only [] write h = absurd (let lt = h.1 in omega arith)
writes_only (p ∷ ps) write h = elim (Contains-append_cases (page_writes p) (writes_of ps) write h) [
  | inl here ↦ Any-here (IsWriteOn write) p ps (only_written p.page p.before p.changed PAGE_WORDS write here)
  | inr behind ↦ Any-behind (IsWriteOn write) p ps (writes_only ps write behind)
]

writes_there : (ps : List WorkPage) (write : Write) (k : ℕ) (d : WorkPage) → k < length ps → Contains (page_writes (get_or ps k d)) write → Contains (writes_of ps) write
writes_there [] write k d lt h = absurd (omega arith)
writes_there (p ∷ ps) write zero d lt h = Contains-append_left (page_writes p) (writes_of ps) write h
writes_there (p ∷ ps) write (suc k) d lt h = Contains-append_right (page_writes p) (writes_of ps) write (writes_there ps write k d (omega arith) h)

pub word_written : (ps : List WorkPage) (page index word : ℕ) → PagesAscend 0 ps → index < PAGE_WORDS → Contains (writes_of ps) (record { place = word_place page index; value = word })
    → (word_in (changed_of page ps) index ≡ Some word) × (word_in (before_of page ps) index ≢ Some word)
word_written ps page index word h lt among =
    let any = writes_only ps (record { place = word_place page index; value = word }) among in
    let is = any.4 in let within = is.in_range in let place = is.place in
    let at = images_at 0 ps any.0 any.1 h any.2 in
    let changed : changed_of any.1.page ps ≡ Some any.1.changed = subst (λ (q : WorkPage). changed_of q.page ps ≡ Some q.changed) any.3 at.0 in
    let before : before_of any.1.page ps ≡ Some any.1.before = subst (λ (q : WorkPage). before_of q.page ps ≡ Some q.before) any.3 at.1 in
    let same_page : any.1.page ≡ page = omega arith in
    let same_index : is.index ≡ index = omega arith in (
      ap (λ n. word_in (changed_of n ps) index) (sym same_page) ∙ (ap (λ o. word_in o index) changed ∙ ap (λ (n : ℕ). Some n) (ap (λ i. get_or any.1.changed i 0) (sym same_index) ∙ sym is.value)),
      λ bad.
          let read : Some (get_or any.1.before index 0) ≡ Some word = sym (ap (λ n. word_in (before_of n ps) index) (sym same_page) ∙ ap (λ o. word_in o index) before) ∙ bad in
          is.differs (ap (λ i. get_or any.1.before i 0) same_index ∙ ((let e : get_or any.1.before index 0 ≡ word = cc in e) ∙ is.value)),
    )

some_word : (o : Option (List ℕ)) (index word : ℕ) → word_in o index ≡ Some word → (image : List ℕ) × (o ≡ Some image) × (get_or image index 0 ≡ word)
some_word None index word h = cc
some_word (Some image) index word h = (image, refl, cc)

pub word_there : (ps : List WorkPage) (page index word : ℕ) → PagesAscend 0 ps → index < PAGE_WORDS → word_in (changed_of page ps) index ≡ Some word → (word_in (before_of page ps) index ≢ Some word)
    → Contains (writes_of ps) (record { place = word_place page index; value = word })
word_there ps page index word h lt now then =
    let got = some_word (changed_of page ps) index word now in
    let any = changed_stands ps page got.0 got.1 in
    let q = get_or ps any.0 any.1 in
    let same_page : q.page ≡ page = ap (λ (p : WorkPage). p.page) any.3 ∙ any.4.0 in
    let changed : get_or q.changed index 0 ≡ word = ap (λ (p : WorkPage). get_or p.changed index 0) any.3 ∙ (ap (λ (v : List ℕ). get_or v index 0) any.4.1 ∙ got.2) in
    let before = (images_at 0 ps any.0 any.1 h any.2).1 in
    let differs : get_or q.before index 0 ≢ get_or q.changed index 0 = λ e. then (ap (λ n. word_in (before_of n ps) index) (sym same_page) ∙ (ap (λ o. word_in o index) before ∙ ap (λ (n : ℕ). Some n) (e ∙ changed))) in
    let there = writes_there ps (record { place = word_place q.page index; value = get_or q.changed index 0 }) any.0 any.1 any.2 (is_written q.page q.before q.changed PAGE_WORDS index lt differs) in
    subst (λ (n : ℕ). Contains (writes_of ps) (record { place = word_place n index; value = word })) same_page
    (subst (λ (n : ℕ). Contains (writes_of ps) (record { place = word_place q.page index; value = n })) changed there)
