-- The writes of several pages, one page after another.
use Rattle.std.proofs.Common.{◌≡◌, ℕ, zero, suc, ◌+◌, ◌*◌, ◌<◌, ◌≤◌, true, false, ◌∙◌, [], ◌∷◌, ◌++◌, List, length, take, drop, get_or, ltb, refl, ap, sym, subst, inl, inr, arith, append-nil, length-append}
use Rattle.std.specs.Prelude.{◌&&◌, ◌||◌, not, ◌==◌}
use Rattle.std.specs.List.{list_any}
use Rattle.std.proofs.lemmas.Bool.{cases_eq, cases_lt, eq-eqb, ne_eqb, lt-ltb, le-ltb}
use Rattle.std.proofs.lemmas.Grind.{flat_map-append}
use Rattle.std.proofs.lemmas.List.{map-append}
use Rattle.std.proofs.lemmas.List.Folds.{list_any-append}
use Rattle.ib_map.specs.declared.TheConstants.{PAGE_WORDS}
use Rattle.ib_map.specs.declared.write.Write.{Write}
use Rattle.ib_map.specs.Writes.{page_at, write_words, spans_pages}
use Rattle.ib_page.specs.declared.work.Slot.{Slot}
use Rattle.ib_page.specs.Rooms.{pages_in, work_page_in, image_in, changed_in, SlotsAscend}
use Rattle.ib_page.specs.Writes.{word_write, writes_below, page_writes, writes_of}
use Rattle.ib_page.proofs.RoomLaws.{page-le}
use Rattle.ib_map.proofs.WriteLaws.{page_at-word, length-write_words, write_words-append}
use Rattle.ib_page.proofs.WriteLaws.{writes_none, writes_more, put_more}

-- one page more
take-more : (ss : List Slot) (i : ℕ) (d : Slot) → i < length ss → take (i + 1) ss ≡ take i ss ++ get_or ss i d ∷ []
take-more [] i d lt = absurd (omega arith)
take-more (s ∷ ss) zero d lt = refl
take-more (s ∷ ss) (suc i) d lt = ap (λ k. take k (s ∷ ss)) (let e : suc i + 1 ≡ suc (i + 1) = omega arith in e) ∙ ap (λ ts. s ∷ ts) (take-more ss i d (omega arith))

pub writes_of-more : (before changed : List (List ℕ)) (ss : List Slot) (i : ℕ) (d : Slot) → i < length ss
    → writes_of (pages_in before changed (take (i + 1) ss)) ≡ writes_of (pages_in before changed (take i ss)) ++ page_writes (work_page_in before changed (get_or ss i d))
writes_of-more before changed ss i d lt =
    ap (λ ts. writes_of (pages_in before changed ts)) (take-more ss i d lt)
    ∙ (ap (λ ps. writes_of ps) (map-append (work_page_in before changed) (take i ss) (get_or ss i d ∷ []))
    ∙ (flat_map-append page_writes (pages_in before changed (take i ss)) (pages_in before changed (get_or ss i d ∷ []))
    ∙ ap (λ ws. writes_of (pages_in before changed (take i ss)) ++ ws) (append-nil (page_writes (work_page_in before changed (get_or ss i d))))))

-- no more writes in front than there are
pub writes_of-le : (before changed : List (List ℕ)) (ss : List Slot) (n : ℕ) → length (writes_of (pages_in before changed (take n ss))) ≤ length (writes_of (pages_in before changed ss))
writes_of-le before changed [] zero = omega arith
writes_of-le before changed [] (suc n) = omega arith
writes_of-le before changed (s ∷ ss) zero = omega arith
writes_of-le before changed (s ∷ ss) (suc n) =
    let rest = writes_of-le before changed ss n in
    let all = length-append (page_writes (work_page_in before changed s)) (writes_of (pages_in before changed ss)) in
    let some = length-append (page_writes (work_page_in before changed s)) (writes_of (pages_in before changed (take n ss))) in
    omega arith

-- the words of one page behind those of others
pub buffer_more : (ws vs : List Write) (out before after : List ℕ) (count : ℕ) → count ≡ length ws → before ≡ write_words ws ++ drop (2 * count) out
    → after ≡ take (2 * count) before ++ write_words vs ++ drop (2 * (count + length vs)) before → after ≡ write_words (ws ++ vs) ++ drop (2 * (count + length vs)) out
buffer_more ws vs out before after count many stands put =
    let long : length (write_words ws) ≡ 2 * count = omega (arith, length-write_words ws) in
    let two : 2 * (count + length vs) ≡ 2 * count + 2 * length vs = omega arith in
    put ∙ (ap (λ k. take (2 * count) before ++ write_words vs ++ drop k before) two
    ∙ (put_more (write_words ws) before out (write_words vs) (2 * count) (2 * length vs) stands long
    ∙ (ap (λ us. us ++ drop (2 * count + 2 * length vs) out) (sym (write_words-append ws vs)) ∙ ap (λ k. write_words (ws ++ vs) ++ drop k out) (sym two))))

-- all writes lie on this page, or on pages before it
abbrev pub AreOn : ℕ → List Write → Type 0
AreOn page [] = Unit {0}
AreOn page (w ∷ ws) = (page_at w.place ≡ page) × AreOn page ws

abbrev pub AreBefore : ℕ → List Write → Type 0
AreBefore page [] = Unit {0}
AreBefore page (w ∷ ws) = (page_at w.place < page) × AreBefore page ws

pub AreOn-append : (page : ℕ) (xs ys : List Write) → AreOn page xs → AreOn page ys → AreOn page (xs ++ ys)
AreOn-append page [] ys h k = k
AreOn-append page (x ∷ xs) ys h k = (h.0, AreOn-append page xs ys h.1 k)

AreBefore-append : (page : ℕ) (xs ys : List Write) → AreBefore page xs → AreBefore page ys → AreBefore page (xs ++ ys)
AreBefore-append page [] ys h k = k
AreBefore-append page (x ∷ xs) ys h k = (h.0, AreBefore-append page xs ys h.1 k)

AreOn-before : (page later : ℕ) (ws : List Write) → page < later → AreOn page ws → AreBefore later ws
AreOn-before page later [] lt h = tt
AreOn-before page later (w ∷ ws) lt h = (let at = h.0 in omega arith, AreOn-before page later ws lt h.1)

pub writes_on : (page : ℕ) (before changed : List ℕ) (n : ℕ) → n ≤ PAGE_WORDS → AreOn page (writes_below page before changed n)
writes_on page before changed zero le = subst (λ (ws : List Write). AreOn page ws) (sym (writes_none page before changed)) tt
writes_on page before changed (suc n) le =
    let more : writes_below page before changed (suc n) ≡ writes_below page before changed n ++ word_write page before changed n =
    ap (λ k. writes_below page before changed k) (let e : suc n ≡ n + 1 = omega arith in e) ∙ writes_more page before changed n in
    subst (λ (ws : List Write). AreOn page ws) (sym more) (AreOn-append page (writes_below page before changed n) (word_write page before changed n) (writes_on page before changed n (omega arith)) last)
  where
    last : AreOn page (word_write page before changed n)
    last = elim (cases_eq (get_or before n 0) (get_or changed n 0)) [
      | inl same ↦ rw (eq-eqb (get_or before n 0) (get_or changed n 0) same) tt
      | inr differ ↦ rw (ne_eqb (get_or before n 0) (get_or changed n 0) differ) (page_at-word page n (omega arith), tt)
    ]

pub writes_before : (before changed : List (List ℕ)) (low : ℕ) (ss : List Slot) (i : ℕ) (d : Slot) → SlotsAscend low ss → i < length ss → AreBefore (get_or ss i d).page (writes_of (pages_in before changed (take i ss)))
writes_before before changed low [] i d h lt = absurd (omega arith)
writes_before before changed low (s ∷ ss) zero d h lt = tt
writes_before before changed low (s ∷ ss) (suc i) d h lt =
    let above = page-le (s.page + 1) ss i d h.1 (omega arith) in
    AreBefore-append (get_or ss i d).page (page_writes (work_page_in before changed s)) (writes_of (pages_in before changed (take i ss)))
    (AreOn-before s.page (get_or ss i d).page (page_writes (work_page_in before changed s)) (omega arith) (writes_on s.page (image_in before s.room) (changed_in before changed s) PAGE_WORDS (omega arith)))
    (writes_before before changed (s.page + 1) ss i d h.1 (omega arith))

-- writes on one page do not span pages, and behind writes on others they do
on_one : (page : ℕ) (ws : List Write) → AreOn page ws → list_any (λ w. not (page_at w.place == page)) ws ≡ false
on_one page [] h = refl
on_one page (w ∷ ws) h = rw (eq-eqb (page_at w.place) page h.0) (on_one page ws h.1)

on_another : (page other : ℕ) (ws : List Write) → other < page → AreOn page ws → list_any (λ w. not (page_at w.place == other)) ws ≡ ltb 0 (length ws)
on_another page other [] lt h = refl
on_another page other (w ∷ ws) lt h = let at = h.0 in rw (ne_eqb (page_at w.place) other (λ e. omega arith)) (sym (lt-ltb 0 (suc (length ws)) (omega arith)))

pub spans_more : (page : ℕ) (ws vs : List Write) (count end : ℕ) → AreBefore page ws → AreOn page vs → count ≡ length ws → end ≡ count + length vs
    → spans_pages (ws ++ vs) ≡ (spans_pages ws || (ltb 0 count && ltb count end))
spans_more page [] [] count end before on many ends = rw many refl
spans_more page [] (v ∷ vs) count end before on many ends = rw many (on_one (page_at v.place) vs (subst (λ (n : ℕ). AreOn n vs) (sym on.0) on.1))
spans_more page (w ∷ ws) vs count end before on many ends =
    let later : list_any (λ v. not (page_at v.place == page_at w.place)) vs ≡ ltb 0 (length vs) = on_another page (page_at w.place) vs before.0 on in
    let some : ltb 0 count ≡ true = lt-ltb 0 count (omega arith) in
    let ended : ltb count end ≡ ltb 0 (length vs) = elim (cases_lt 0 (length vs)) [
      | inl lt ↦ lt-ltb count end (omega arith) ∙ sym (lt-ltb 0 (length vs) lt)
      | inr none ↦ le-ltb count end (omega arith) ∙ sym (le-ltb 0 (length vs) none)
    ] in
    list_any-append (λ v. not (page_at v.place == page_at w.place)) ws vs
    ∙ (ap (λ b. list_any (λ v. not (page_at v.place == page_at w.place)) ws || b) (later ∙ sym ended)
    ∙ ap (λ b. list_any (λ v. not (page_at v.place == page_at w.place)) ws || (b && ltb count end)) (sym some))
