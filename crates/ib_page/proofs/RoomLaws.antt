-- Slots and their rooms: what each change of them makes of the pages that they hold.
use Rattle.std.proofs.Common.{◌≡◌, ◌≢◌, ℕ, zero, suc, ◌+◌, ◌<◌, ◌≤◌, true, false, cond, eqb, ltb, ◌∙◌, [], ◌∷◌, ◌++◌, List, Option, Some, None, IsSome, IsSomeAnd, slice_get, take, drop, length, get_or, set, refl, ap, sym, arith, subst, inl, inr}
use Rattle.std.specs.List.{All, insert, remove, count_by, prefix_len}
use Rattle.std.proofs.Math.Numerals.{one-add}
use Rattle.std.proofs.lemmas.Bool.{cases_lt, cases_eq, eq-eqb, ne_eqb, lt-ltb, le-ltb}
use Rattle.std.specs.Option.{option_map}
use Rattle.std.proofs.lemmas.Option.{slice_get-map, slice_get_read}
use Rattle.std.proofs.lemmas.List.{take_at, get_or_default, get_or-set_same, get_or-set_other, length-set, length-map, length_push}
use Rattle.std.proofs.lemmas.List.Elements.{All-head, All-tail}
use Rattle.std.proofs.lemmas.List.Sums.{sum_by-cons, sum_by-insert, sum_by_push, prefix_len_is, prefix_len-le-length}
use Rattle.std.proofs.lemmas.List.Edits.{length-insert, length-remove}
use Rattle.ib_page.specs.declared.work.TheConstants.{MOST_WORK_PAGES}
use Rattle.ib_page.specs.declared.work.Slot.{Slot}
use Rattle.ib_page.specs.Work.{WorkPage, PagesAscend, IsWork, changed_of, before_of, with_read, without_page, with_changed}
use Rattle.ib_page.specs.Rooms.{image_in, changed_in, work_page_in, pages_in, SlotsAscend, times_used, times_kept, IsRoomed}

-- 1 where a slot has this room
abbrev here : ℕ → Slot → ℕ
here room s = cond (eqb s.room room) 1 0

-- how many slots stand before a page
abbrev pub place_in : ℕ → List Slot → ℕ
place_in page slots = prefix_len (λ s. ltb s.page page) slots

used_first : (room : ℕ) (s : Slot) (ss : List Slot) → times_used room (s ∷ ss) ≡ here room s + times_used room ss
used_first room s ss = sum_by-cons (here room) s ss

is_here : (room : ℕ) (s : Slot) → s.room ≡ room → here room s ≡ 1
is_here room s same = ap (λ b. cond {A = ℕ} b 1 0) (eq-eqb s.room room same)

-- the room of a slot is used
pub used_at : (ss : List Slot) (i : ℕ) (d : Slot) → i < length ss → 1 ≤ times_used (get_or ss i d).room ss
used_at [] i d lt = absurd (omega arith)
used_at (s ∷ ss) zero d lt = let split = used_first s.room s ss in let one = is_here s.room s refl in omega arith
used_at (s ∷ ss) (suc i) d lt =
    let rest = used_at ss i d (omega arith) in
    let split = used_first (get_or ss i d).room s ss in
    omega arith

-- a slot has none of the rooms that are not used
not_used : (room : ℕ) (s : Slot) (ss : List Slot) → times_used room (s ∷ ss) ≡ 0 → (s.room ≢ room) × (times_used room ss ≡ 0)
not_used room s ss none = let split = used_first room s ss in (λ same. (let one = is_here room s same in omega arith), omega arith)

pub room-lt : (ss : List Slot) (before changed : List (List ℕ)) (spare : List ℕ) (i : ℕ) (d : Slot) → IsRoomed ss before changed spare → i < length ss → (get_or ss i d).room < MOST_WORK_PAGES
room-lt ss before changed spare i d h lt = elim (cases_lt (get_or ss i d).room MOST_WORK_PAGES) [
  | inl within ↦ within
  | inr over ↦ absurd (let none = h.no_other (get_or ss i d).room over in let some = used_at ss i d lt in omega arith)
]

-- a slot that is there is the one with its page
pub page-le : (low : ℕ) (ss : List Slot) (i : ℕ) (d : Slot) → SlotsAscend low ss → i < length ss → low ≤ (get_or ss i d).page
page-le low [] i d h lt = absurd (omega arith)
page-le low (s ∷ ss) zero d h lt = h.0
page-le low (s ∷ ss) (suc i) d h lt = let rest = page-le (s.page + 1) ss i d h.1 (omega arith) in let first = h.0 in omega arith

pub changed_of-at : (before changed : List (List ℕ)) (low : ℕ) (ss : List Slot) (i page : ℕ) (d : Slot) → SlotsAscend low ss → i < length ss → (get_or ss i d).page ≡ page
    → changed_of page (pages_in before changed ss) ≡ Some (changed_in before changed (get_or ss i d))
changed_of-at before changed low [] i page d h lt same = absurd (omega arith)
changed_of-at before changed low (s ∷ ss) zero page d h lt same = rw (eq-eqb s.page page same) refl
changed_of-at before changed low (s ∷ ss) (suc i) page d h lt same =
    let above = page-le (s.page + 1) ss i d h.1 (omega arith) in
    rw (ne_eqb s.page page (λ e. omega arith)) (changed_of-at before changed (s.page + 1) ss i page d h.1 (omega arith) same)

pub before_of-at : (before changed : List (List ℕ)) (low : ℕ) (ss : List Slot) (i page : ℕ) (d : Slot) → SlotsAscend low ss → i < length ss → (get_or ss i d).page ≡ page
    → before_of page (pages_in before changed ss) ≡ Some (image_in before (get_or ss i d).room)
before_of-at before changed low [] i page d h lt same = absurd (omega arith)
before_of-at before changed low (s ∷ ss) zero page d h lt same = rw (eq-eqb s.page page same) refl
before_of-at before changed low (s ∷ ss) (suc i) page d h lt same =
    let above = page-le (s.page + 1) ss i d h.1 (omega arith) in
    rw (ne_eqb s.page page (λ e. omega arith)) (before_of-at before changed (s.page + 1) ss i page d h.1 (omega arith) same)

pub changed_of-absent : (before changed : List (List ℕ)) (ss : List Slot) (page : ℕ) → All (λ s. s.page ≢ page) ss → changed_of page (pages_in before changed ss) ≡ None
changed_of-absent before changed [] page apart = refl
changed_of-absent before changed (s ∷ ss) page apart =
    rw (ne_eqb s.page page (All-head (λ (t : Slot). t.page ≢ page) s ss apart)) (changed_of-absent before changed ss page (All-tail (λ (t : Slot). t.page ≢ page) s ss apart))

pub before_of-absent : (before changed : List (List ℕ)) (ss : List Slot) (page : ℕ) → All (λ s. s.page ≢ page) ss → before_of page (pages_in before changed ss) ≡ None
before_of-absent before changed [] page apart = refl
before_of-absent before changed (s ∷ ss) page apart =
    rw (ne_eqb s.page page (All-head (λ (t : Slot). t.page ≢ page) s ss apart)) (before_of-absent before changed ss page (All-tail (λ (t : Slot). t.page ≢ page) s ss apart))

-- what every work set is
pub pages_ascend : (before changed : List (List ℕ)) (low : ℕ) (ss : List Slot) → SlotsAscend low ss → PagesAscend low (pages_in before changed ss)
pages_ascend before changed low [] h = tt
pages_ascend before changed low (s ∷ ss) h = (h.0, pages_ascend before changed (s.page + 1) ss h.1)

pub is_work : (ss : List Slot) (before changed : List (List ℕ)) (spare : List ℕ) → IsRoomed ss before changed spare → IsWork (pages_in before changed ss)
is_work ss before changed spare h =
    let long = length-map ss (work_page_in before changed) in let rooms = h.rooms in
    record { ascends = pages_ascend before changed 0 ss h.ascends; few = omega arith }

-- a room that is not used may have any image
work_page_in-before : (before changed : List (List ℕ)) (s : Slot) (room : ℕ) (image : List ℕ) → s.room ≢ room → work_page_in (set before room image) changed s ≡ work_page_in before changed s
work_page_in-before before changed s room image apart =
    ap (λ (v : List ℕ). let p : WorkPage = record { page = s.page; before = v; changed = cond s.edited (image_in changed s.room) v } in p) (get_or-set_other before room s.room image [] apart)

work_page_in-changed : (before changed : List (List ℕ)) (s : Slot) (room : ℕ) (image : List ℕ) → s.room ≢ room → work_page_in before (set changed room image) s ≡ work_page_in before changed s
work_page_in-changed before changed s room image apart =
    ap (λ (v : List ℕ). let p : WorkPage = record { page = s.page; before = image_in before s.room; changed = cond s.edited v (image_in before s.room) } in p) (get_or-set_other changed room s.room image [] apart)

pub pages_in-before : (before changed : List (List ℕ)) (ss : List Slot) (room : ℕ) (image : List ℕ) → times_used room ss ≡ 0 → pages_in (set before room image) changed ss ≡ pages_in before changed ss
pages_in-before before changed [] room image none = refl
pages_in-before before changed (s ∷ ss) room image none =
    let apart = not_used room s ss none in
    ap (λ p. p ∷ pages_in (set before room image) changed ss) (work_page_in-before before changed s room image apart.0)
    ∙ ap (λ ps. work_page_in before changed s ∷ ps) (pages_in-before before changed ss room image apart.1)

pub pages_in-changed : (before changed : List (List ℕ)) (ss : List Slot) (room : ℕ) (image : List ℕ) → times_used room ss ≡ 0 → pages_in before (set changed room image) ss ≡ pages_in before changed ss
pages_in-changed before changed [] room image none = refl
pages_in-changed before changed (s ∷ ss) room image none =
    let apart = not_used room s ss none in
    ap (λ p. p ∷ pages_in before (set changed room image) ss) (work_page_in-changed before changed s room image apart.0)
    ∙ ap (λ ps. work_page_in before changed s ∷ ps) (pages_in-changed before changed ss room image apart.1)

-- the slot of an edited page
abbrev pub edited_slot : Slot → Slot
edited_slot s = record { page = s.page; room = s.room; edited = true }

-- an edited page has the image of its own room, and nothing else changes
pub edit_changes : (before changed : List (List ℕ)) (low : ℕ) (ss : List Slot) (i page : ℕ) (image : List ℕ) (d : Slot) → SlotsAscend low ss → i < length ss → (get_or ss i d).page ≡ page
    → (get_or ss i d).room < length changed → times_used (get_or ss i d).room ss ≤ 1
    → pages_in before (set changed (get_or ss i d).room image) (set ss i (edited_slot (get_or ss i d))) ≡ with_changed page image (pages_in before changed ss)
edit_changes before changed low [] i page image d h lt same within once = absurd (omega arith)
edit_changes before changed low (s ∷ ss) zero page image d h lt same within once =
    let split = used_first s.room s ss in
    let one = is_here s.room s refl in
    let first : work_page_in before (set changed s.room image) (edited_slot s) ≡ record { page = s.page; before = image_in before s.room; changed = image } =
    ap (λ (v : List ℕ). let p : WorkPage = record { page = s.page; before = image_in before s.room; changed = v } in p) (get_or-set_same changed s.room image [] within) in
    rw (eq-eqb s.page page same) (ap (λ p. p ∷ pages_in before (set changed s.room image) ss) first
    ∙ ap (λ ps. (let p : WorkPage = record { page = s.page; before = image_in before s.room; changed = image } in p) ∷ ps) (pages_in-changed before changed ss s.room image (omega arith)))
edit_changes before changed low (s ∷ ss) (suc i) page image d h lt same within once =
    let room = (get_or ss i d).room in
    let split = used_first room s ss in
    let some = used_at ss i d (omega arith) in
    let apart : s.room ≢ room = λ e. (let one = is_here room s e in omega arith) in
    let above = page-le (s.page + 1) ss i d h.1 (omega arith) in
    rw (ne_eqb s.page page (λ e. omega arith)) (ap (λ p. p ∷ pages_in before (set changed room image) (set ss i (edited_slot (get_or ss i d)))) (work_page_in-changed before changed s room image apart)
    ∙ ap (λ ps. work_page_in before changed s ∷ ps) (edit_changes before changed (s.page + 1) ss i page image d h.1 (omega arith) same within (omega arith)))

-- a page that is read into a room that is not used
pub insert_reads : (before changed : List (List ℕ)) (ss : List Slot) (page room : ℕ) (image : List ℕ) → room < length before → times_used room ss ≡ 0
    → pages_in (set before room image) changed (insert ss (place_in page ss) (record { page = page; room = room; edited = false })) ≡ with_read page image (pages_in before changed ss)
insert_reads before changed [] page room image within none =
    ap (λ (v : List ℕ). (let p : WorkPage = record { page = page; before = v; changed = v } in p) ∷ []) (get_or-set_same before room image [] within)
insert_reads before changed (s ∷ ss) page room image within none = elim (cases_lt s.page page) [
  | inl lt ↦
      let apart = not_used room s ss none in
      rw (lt-ltb s.page page lt, one-add (place_in page ss)) (ap (λ p. p ∷ pages_in (set before room image) changed (insert ss (place_in page ss) (record { page = page; room = room; edited = false }))) (work_page_in-before before changed s room image apart.0)
      ∙ ap (λ ps. work_page_in before changed s ∷ ps) (insert_reads before changed ss page room image within apart.1))
  | inr ge ↦ rw (le-ltb s.page page ge) (ap (λ (v : List ℕ). (let p : WorkPage = record { page = page; before = v; changed = v } in p) ∷ pages_in (set before room image) changed (s ∷ ss)) (get_or-set_same before room image [] within)
      ∙ ap (λ ps. (let p : WorkPage = record { page = page; before = image; changed = image } in p) ∷ ps) (pages_in-before before changed (s ∷ ss) room image none))
]

-- the pages without one
pub remove_leaves : (before changed : List (List ℕ)) (low : ℕ) (ss : List Slot) (i page : ℕ) (d : Slot) → SlotsAscend low ss → i < length ss → (get_or ss i d).page ≡ page
    → pages_in before changed (remove ss i) ≡ without_page page (pages_in before changed ss)
remove_leaves before changed low [] i page d h lt same = absurd (omega arith)
remove_leaves before changed low (s ∷ ss) zero page d h lt same = rw (eq-eqb s.page page same) refl
remove_leaves before changed low (s ∷ ss) (suc i) page d h lt same =
    let above = page-le (s.page + 1) ss i d h.1 (omega arith) in
    rw (ne_eqb s.page page (λ e. omega arith)) (ap (λ ps. work_page_in before changed s ∷ ps) (remove_leaves before changed (s.page + 1) ss i page d h.1 (omega arith) same))

-- the order of pages after each change
SlotsAscend-lower : (under low : ℕ) (ss : List Slot) → under ≤ low → SlotsAscend low ss → SlotsAscend under ss
SlotsAscend-lower under low [] le h = tt
SlotsAscend-lower under low (s ∷ ss) le h = (omega arith, h.1)

SlotsAscend-insert : (before changed : List (List ℕ)) (low : ℕ) (ss : List Slot) (q : Slot) → SlotsAscend low ss → low ≤ q.page → changed_of q.page (pages_in before changed ss) ≡ None → SlotsAscend low (insert ss (place_in q.page ss) q)
SlotsAscend-insert before changed low [] q h le none = (le, tt)
SlotsAscend-insert before changed low (s ∷ ss) q h le none = elim (cases_eq s.page q.page) [
  | inl same ↦ let bad = rw (eq-eqb s.page q.page same) at none in cc
  | inr differs ↦ elim (cases_lt s.page q.page) [
    | inl lt ↦ rw (lt-ltb s.page q.page lt, one-add (place_in q.page ss)) (h.0, SlotsAscend-insert before changed (s.page + 1) ss q h.1 (omega arith) (rw (ne_eqb s.page q.page differs) at none))
    | inr ge ↦ rw (le-ltb s.page q.page ge) (le, (omega (arith, differs), h.1))
  ]
]

SlotsAscend-remove : (low : ℕ) (ss : List Slot) (i : ℕ) → SlotsAscend low ss → SlotsAscend low (remove ss i)
SlotsAscend-remove low [] zero h = tt
SlotsAscend-remove low [] (suc i) h = tt
SlotsAscend-remove low (s ∷ ss) zero h = SlotsAscend-lower low (s.page + 1) ss (omega arith) h.1
SlotsAscend-remove low (s ∷ ss) (suc i) h = (h.0, SlotsAscend-remove (s.page + 1) ss i h.1)

SlotsAscend-left : (low : ℕ) (ss ts : List Slot) → SlotsAscend low (ss ++ ts) → SlotsAscend low ss
SlotsAscend-left low [] ts h = tt
SlotsAscend-left low (s ∷ ss) ts h = (h.0, SlotsAscend-left (s.page + 1) ss ts h.1)

SlotsAscend-set : (low : ℕ) (ss : List Slot) (i : ℕ) (q d : Slot) → q.page ≡ (get_or ss i d).page → SlotsAscend low ss → SlotsAscend low (set ss i q)
SlotsAscend-set low [] zero q d same h = tt
SlotsAscend-set low [] (suc i) q d same h = tt
SlotsAscend-set low (s ∷ ss) zero q d same h = subst (λ (n : ℕ). (low ≤ n) × SlotsAscend (n + 1) ss) (sym same) h
SlotsAscend-set low (s ∷ ss) (suc i) q d same h = (h.0, SlotsAscend-set (s.page + 1) ss i q d same h.1)

-- the rooms that are used after each change
times_used-set : (ss : List Slot) (i r : ℕ) (q d : Slot) → q.room ≡ (get_or ss i d).room → i < length ss → times_used r (set ss i q) ≡ times_used r ss
times_used-set [] i r q d same lt = absurd (omega arith)
times_used-set (s ∷ ss) zero r q d same lt = used_first r q ss ∙ (ap (λ n. cond {A = ℕ} (eqb n r) 1 0 + times_used r ss) same ∙ sym (used_first r s ss))
times_used-set (s ∷ ss) (suc i) r q d same lt = used_first r s (set ss i q) ∙ (ap (λ n. here r s + n) (times_used-set ss i r q d same (omega arith)) ∙ sym (used_first r s ss))

-- the rooms after an edit
pub kept_edited : (ss : List Slot) (before changed changes : List (List ℕ)) (spare : List ℕ) (i : ℕ) (d : Slot) → IsRoomed ss before changed spare → i < length ss → length changes ≡ length changed
    → IsRoomed (set ss i (edited_slot (get_or ss i d))) before changes spare
kept_edited ss before changed changes spare i d h lt long =
    let size = h.changed_size in let rooms = h.rooms in
    record {
      ascends = SlotsAscend-set 0 ss i (edited_slot (get_or ss i d)) d refl h.ascends;
      once = λ r within. ap (λ n. n + count_by (λ (k : ℕ). eqb k r) spare) (times_used-set ss i r (edited_slot (get_or ss i d)) d refl lt) ∙ h.once r within;
      no_other = λ r over. ap (λ n. n + count_by (λ (k : ℕ). eqb k r) spare) (times_used-set ss i r (edited_slot (get_or ss i d)) d refl lt) ∙ h.no_other r over;
      before_size = h.before_size;
      changed_size = omega arith;
      rooms = omega (arith, length-set ss i (edited_slot (get_or ss i d)));
    }

-- the last spare room is one of the rooms, and not used
pub spare_room : (ss : List Slot) (before changed : List (List ℕ)) (spare rest : List ℕ) (room : ℕ) → IsRoomed ss before changed spare → spare ≡ rest ++ room ∷ [] → (room < MOST_WORK_PAGES) × (times_used room ss ≡ 0)
spare_room ss before changed spare rest room h popped =
    let one_here : count_by (λ (n : ℕ). eqb n room) spare ≡ count_by (λ (n : ℕ). eqb n room) rest + 1 =
    ap (λ (ns : List ℕ). count_by (λ (n : ℕ). eqb n room) ns) popped ∙ (sum_by_push (λ (n : ℕ). cond (eqb n room) 1 0) rest room ∙ ap (λ b. count_by (λ (n : ℕ). eqb n room) rest + cond b 1 0) (eq-eqb room room refl)) in
    let within : room < MOST_WORK_PAGES = elim (cases_lt room MOST_WORK_PAGES) [
      | inl lt ↦ lt
      | inr over ↦ absurd (let none = h.no_other room over in omega arith)
    ] in
    (within, let once = h.once room within in omega arith)

pub kept_read : (ss : List Slot) (before befores changed : List (List ℕ)) (spare rest : List ℕ) (page room : ℕ) → IsRoomed ss before changed spare → spare ≡ rest ++ room ∷ [] → changed_of page (pages_in before changed ss) ≡ None → length befores ≡ length before
    → IsRoomed (insert ss (place_in page ss) (record { page = page; room = room; edited = false })) befores changed rest
kept_read ss before befores changed spare rest page room h popped none long =
    let q : Slot = record { page = page; room = room; edited = false } in
    let le : place_in page ss ≤ length ss = prefix_len-le-length (λ (s : Slot). ltb s.page page) ss in
    let longer = length-insert ss (place_in page ss) q le in
    let shorter : length spare ≡ length rest + 1 = ap length popped ∙ length_push rest room in
    let rooms = h.rooms in
    let size = h.before_size in
    let same : (r : ℕ) → times_kept r (insert ss (place_in page ss) q) rest ≡ times_kept r ss spare = λ r.
    (let more = sum_by-insert (here r) ss (place_in page ss) q in
    let fewer : count_by (λ (n : ℕ). eqb n r) spare ≡ count_by (λ (n : ℕ). eqb n r) rest + cond {A = ℕ} (eqb room r) 1 0 = ap (λ (ns : List ℕ). count_by (λ (n : ℕ). eqb n r) ns) popped ∙ sum_by_push (λ (n : ℕ). cond (eqb n r) 1 0) rest room in
    omega arith) in
    record {
      ascends = SlotsAscend-insert before changed 0 ss q h.ascends (omega arith) none;
      once = λ r within. same r ∙ h.once r within;
      no_other = λ r over. same r ∙ h.no_other r over;
      before_size = omega arith;
      changed_size = h.changed_size;
      rooms = omega arith;
    }

pub kept_removed : (ss : List Slot) (before changed : List (List ℕ)) (spare : List ℕ) (i : ℕ) (d : Slot) → IsRoomed ss before changed spare → i < length ss → IsRoomed (remove ss i) before changed (spare ++ (get_or ss i d).room ∷ [])
kept_removed ss before changed spare i d h lt =
    let room = (get_or ss i d).room in
    let shorter = length-remove ss i lt in
    let longer = length_push spare room in
    let rooms = h.rooms in
    let same : (r : ℕ) → times_kept r (remove ss i) (spare ++ room ∷ []) ≡ times_kept r ss spare = λ r.
    (let out : cond {A = ℕ} (eqb room r) 1 0 + times_used r (remove ss i) ≡ times_used r ss = remove_used r ss i d lt in
    let back : count_by (λ (n : ℕ). eqb n r) (spare ++ room ∷ []) ≡ count_by (λ (n : ℕ). eqb n r) spare + cond {A = ℕ} (eqb room r) 1 0 = sum_by_push (λ (n : ℕ). cond (eqb n r) 1 0) spare room in
    omega arith) in
    record {
      ascends = SlotsAscend-remove 0 ss i h.ascends;
      once = λ r within. same r ∙ h.once r within;
      no_other = λ r over. same r ∙ h.no_other r over;
      before_size = h.before_size;
      changed_size = h.changed_size;
      rooms = omega arith;
    }
  where
    remove_used : (r : ℕ) (ss : List Slot) (i : ℕ) (d : Slot) → i < length ss → cond {A = ℕ} (eqb (get_or ss i d).room r) 1 0 + times_used r (remove ss i) ≡ times_used r ss
    remove_used r [] i d lt = absurd (omega arith)
    remove_used r (s ∷ ss) zero d lt = sym (used_first r s ss)
    remove_used r (s ∷ ss) (suc i) d lt =
        let rest = remove_used r ss i d (omega arith) in
        let split = used_first r s ss in
        let split_rest = used_first r s (remove ss i) in
        omega arith

pub kept_popped : (ss rest : List Slot) (before changed : List (List ℕ)) (spare : List ℕ) (s : Slot) → IsRoomed ss before changed spare → ss ≡ rest ++ s ∷ [] → IsRoomed rest before changed (spare ++ s.room ∷ [])
kept_popped ss rest before changed spare s h popped =
    let long : length ss ≡ length rest + 1 = ap length popped ∙ length_push rest s in
    let longer = length_push spare s.room in
    let rooms = h.rooms in
    let same : (r : ℕ) → times_kept r rest (spare ++ s.room ∷ []) ≡ times_kept r ss spare = λ r.
    (let out : times_used r ss ≡ times_used r rest + here r s = ap (λ (ts : List Slot). times_used r ts) popped ∙ sum_by_push (here r) rest s in
    let back : count_by (λ (n : ℕ). eqb n r) (spare ++ s.room ∷ []) ≡ count_by (λ (n : ℕ). eqb n r) spare + cond {A = ℕ} (eqb s.room r) 1 0 = sum_by_push (λ (n : ℕ). cond (eqb n r) 1 0) spare s.room in
    omega arith) in
    record {
      ascends = SlotsAscend-left 0 rest (s ∷ []) (subst (λ (ts : List Slot). SlotsAscend 0 ts) popped h.ascends);
      once = λ r within. same r ∙ h.once r within;
      no_other = λ r over. same r ∙ h.no_other r over;
      before_size = h.before_size;
      changed_size = h.changed_size;
      rooms = omega arith;
    }

-- a new work set: all rooms are spare
pub kept_new : (before changed : List (List ℕ)) (spare : List ℕ) → length before ≡ MOST_WORK_PAGES → length changed ≡ MOST_WORK_PAGES → length spare ≡ MOST_WORK_PAGES
    → ((r : ℕ) → count_by (λ (k : ℕ). eqb k r) spare ≡ cond {A = ℕ} (ltb r MOST_WORK_PAGES) 1 0) → IsRoomed [] before changed spare
kept_new before changed spare many many_changed all once = record {
  ascends = tt;
  once = λ r lt. (let now = once r in let one : cond {A = ℕ} (ltb r MOST_WORK_PAGES) 1 0 ≡ 1 = ap (λ b. cond {A = ℕ} b 1 0) (lt-ltb r MOST_WORK_PAGES lt) in omega arith);
  no_other = λ r over. (let now = once r in let none : cond {A = ℕ} (ltb r MOST_WORK_PAGES) 1 0 ≡ 0 = ap (λ b. cond {A = ℕ} b 1 0) (le-ltb r MOST_WORK_PAGES over) in omega arith);
  before_size = many;
  changed_size = many_changed;
  rooms = omega arith;
}

-- one more room is spare
pub once_more : (ns : List ℕ) (n r : ℕ) → count_by (λ (k : ℕ). eqb k r) ns ≡ cond {A = ℕ} (ltb r n) 1 0 → count_by (λ (k : ℕ). eqb k r) (ns ++ n ∷ []) ≡ cond {A = ℕ} (ltb r (n + 1)) 1 0
once_more ns n r h =
    let pushed : count_by (λ (k : ℕ). eqb k r) (ns ++ n ∷ []) ≡ count_by (λ (k : ℕ). eqb k r) ns + cond {A = ℕ} (eqb n r) 1 0 = sum_by_push (λ (k : ℕ). cond (eqb k r) 1 0) ns n in
    elim (cases_eq n r) [
      | inl same ↦
          let a : cond {A = ℕ} (eqb n r) 1 0 ≡ 1 = ap (λ b. cond {A = ℕ} b 1 0) (eq-eqb n r same) in
          let b : cond {A = ℕ} (ltb r n) 1 0 ≡ 0 = ap (λ b. cond {A = ℕ} b 1 0) (le-ltb r n (omega arith)) in
          let d : cond {A = ℕ} (ltb r (n + 1)) 1 0 ≡ 1 = ap (λ b. cond {A = ℕ} b 1 0) (lt-ltb r (n + 1) (omega arith)) in
          omega arith
      | inr differs ↦
          let a : cond {A = ℕ} (eqb n r) 1 0 ≡ 0 = ap (λ b. cond {A = ℕ} b 1 0) (ne_eqb n r differs) in
          elim (cases_lt r n) [
            | inl lt ↦
                let b : cond {A = ℕ} (ltb r n) 1 0 ≡ 1 = ap (λ b. cond {A = ℕ} b 1 0) (lt-ltb r n lt) in
                let d : cond {A = ℕ} (ltb r (n + 1)) 1 0 ≡ 1 = ap (λ b. cond {A = ℕ} b 1 0) (lt-ltb r (n + 1) (omega arith)) in
                omega arith
            | inr ge ↦
                let b : cond {A = ℕ} (ltb r n) 1 0 ≡ 0 = ap (λ b. cond {A = ℕ} b 1 0) (le-ltb r n ge) in
                let d : cond {A = ℕ} (ltb r (n + 1)) 1 0 ≡ 0 = ap (λ b. cond {A = ℕ} b 1 0) (le-ltb r (n + 1) (omega (arith, differs))) in
                omega arith
          ]
    ]

-- the place of a page by what stands before it and at it
pub place_in-is : (page : ℕ) (ss : List Slot) (n : ℕ) (d : Slot) → n ≤ length ss → ((k : ℕ) → k < n → (get_or ss k d).page < page) → (n < length ss → page ≤ (get_or ss n d).page) → n ≡ place_in page ss
place_in-is page ss n d le below above =
    sym (prefix_len_is (λ (s : Slot). ltb s.page page) ss n d le (λ k lt. lt-ltb _ _ (below k lt)) (λ lt. le-ltb _ _ (above lt)))

-- what was read from a place of a list
pub image_read : (images : List (List ℕ)) (room : ℕ) (image : List ℕ) → room < length images → image ≡ get_or images room image → image ≡ image_in images room
image_read images room image lt at = at ∙ sym (get_or_default images room [] image lt)

pub room_at-lt : (ss : List Slot) (before changed : List (List ℕ)) (spare : List ℕ) (i : ℕ) (s : Slot) → IsRoomed ss before changed spare → i < length ss → s ≡ get_or ss i s → s.room < MOST_WORK_PAGES
room_at-lt ss before changed spare i s h lt at = subst (λ (t : Slot). t.room < MOST_WORK_PAGES) (sym at) (room-lt ss before changed spare i s h lt)

pub found_slot : (ss : List Slot) (i page : ℕ) (d : Slot) → IsSomeAnd (slice_get ss i) (λ s. s.page ≡ page) → (i < length ss) × ((get_or ss i d).page ≡ page)
found_slot [] i page d h = absurd h
found_slot (s ∷ ss) zero page d h = (omega arith, h)
found_slot (s ∷ ss) (suc i) page d h = let rest = found_slot ss i page d h in (let lt = rest.0 in omega arith, rest.1)

pub found_slot-lt : (ss : List Slot) (i page : ℕ) → IsSomeAnd (slice_get ss i) (λ s. s.page ≡ page) → i < length ss
found_slot-lt ss i page found = (found_slot ss i page (record { page = 0; room = 0; edited = false }) found).0

pub index-lt : (before changed : List (List ℕ)) (ss : List Slot) (ps : List WorkPage) (i : ℕ) → pages_in before changed ss ≡ ps → i < length ps → i < length ss
index-lt before changed ss ps i view lt = let long = length-map ss (work_page_in before changed) in let same = ap length view in omega arith

-- the page at a place
pub page_read : (before changed : List (List ℕ)) (ss : List Slot) (ps : List WorkPage) (i : ℕ) (s : Slot) (image latest : List ℕ) → pages_in before changed ss ≡ ps → i < length ss → s ≡ get_or ss i s
    → image ≡ image_in before s.room → latest ≡ changed_in before changed s → slice_get ps i ≡ Some (record { page = s.page; before = image; changed = latest })
page_read before changed ss ps i s image latest view lt at is now =
    ap (λ qs. slice_get qs i) (sym view) ∙ (slice_get-map (work_page_in before changed) ss i ∙ (ap (λ o. option_map (work_page_in before changed) o) (slice_get_read ss (length ss) i s refl lt at) ∙ (cc)))

-- the images of a page that is found, and of one that is not
pub image_found : (before changed : List (List ℕ)) (ss : List Slot) (ps : List WorkPage) (i page : ℕ) (s : Slot) (image : List ℕ) → pages_in before changed ss ≡ ps → SlotsAscend 0 ss → IsSomeAnd (slice_get ss i) (λ t. t.page ≡ page)
    → s ≡ get_or ss i s → image ≡ changed_in before changed s → changed_of page ps ≡ Some image
image_found before changed ss ps i page s image view ascends found at is =
    let here_it = found_slot ss i page s found in
    ap (λ qs. changed_of page qs) (sym view) ∙ (changed_of-at before changed 0 ss i page s ascends here_it.0 here_it.1 ∙ ap (λ (v : List ℕ). Some v) (ap (λ t. changed_in before changed t) (sym at) ∙ sym is))

pub before_found : (before changed : List (List ℕ)) (ss : List Slot) (ps : List WorkPage) (i page : ℕ) (s : Slot) (image : List ℕ) → pages_in before changed ss ≡ ps → SlotsAscend 0 ss → IsSomeAnd (slice_get ss i) (λ t. t.page ≡ page)
    → s ≡ get_or ss i s → image ≡ image_in before s.room → before_of page ps ≡ Some image
before_found before changed ss ps i page s image view ascends found at is =
    let here_it = found_slot ss i page s found in
    ap (λ qs. before_of page qs) (sym view) ∙ (before_of-at before changed 0 ss i page s ascends here_it.0 here_it.1 ∙ ap (λ (v : List ℕ). Some v) (ap (λ t. image_in before t.room) (sym at) ∙ sym is))

-- a page whose test finds it
pub is_found : (before changed : List (List ℕ)) (ss : List Slot) (ps : List WorkPage) (page : ℕ) (o : Option ℕ) → pages_in before changed ss ≡ ps → IsSome (changed_of page ps) → (o ≡ None → All (λ s. s.page ≢ page) ss) → IsSome o
is_found before changed ss ps page None view there absent =
    let nothing : IsSome {T = List ℕ} None = subst IsSome (ap (λ qs. changed_of page qs) (sym view) ∙ changed_of-absent before changed ss page (absent refl)) there in cc
is_found before changed ss ps page (Some i) view there absent = refl

-- a vector of which all elements were lent and left as `xs`
pub all_lent : (images xs : List (List ℕ)) (n : ℕ) → length images ≡ n → length xs ≡ n → take n (xs ++ drop (length xs) images) ≡ xs
all_lent images xs n long same = take_at xs (drop (length xs) images) n same

set-twice : (images : List (List ℕ)) (room : ℕ) (x y : List ℕ) → set (set images room x) room y ≡ set images room y
set-twice [] zero x y = refl
set-twice [] (suc room) x y = refl
set-twice (image ∷ images) zero x y = refl
set-twice (image ∷ images) (suc room) x y = ap (λ zs. image ∷ zs) (set-twice images room x y)

-- what an edit makes of the pages and of their rooms, from a slot that was read
module _ (before changed : List (List ℕ)) (ss : List Slot) (spare : List ℕ) (ps : List WorkPage) (i page : ℕ) (s : Slot) (h : IsRoomed ss before changed spare) (view : pages_in before changed ss ≡ ps)
    (found : IsSomeAnd (slice_get ss i) (λ t. t.page ≡ page)) (at : s ≡ get_or ss i s) where
  pub edit-lt : i < length ss
  edit-lt = (found_slot ss i page s found).0

  pub edit_room-lt : s.room < MOST_WORK_PAGES
  edit_room-lt = room_at-lt ss before changed spare i s h edit-lt at

  pub edit_kept : (copies : List (List ℕ)) (w : List ℕ) → copies ≡ set changed s.room (changed_in before changed s) → IsRoomed (set ss i (edited_slot s)) before (set copies s.room w) spare
  edit_kept copies w is =
      let long : length (set copies s.room w) ≡ length changed = length-set copies s.room w ∙ (ap length is ∙ length-set changed s.room (changed_in before changed s)) in
      subst (λ (t : Slot). IsRoomed (set ss i (edited_slot t)) before (set copies s.room w) spare) (sym at) (kept_edited ss before changed (set copies s.room w) spare i s h edit-lt long)

  pub edit_gives : (copies : List (List ℕ)) (w : List ℕ) → copies ≡ set changed s.room (changed_in before changed s) → pages_in before (set copies s.room w) (set ss i (edited_slot s)) ≡ with_changed page w ps
  edit_gives copies w is =
      let lt = room-lt ss before changed spare i s h edit-lt in
      let size = h.changed_size in
      let once = h.once (get_or ss i s).room lt in
      let made = edit_changes before changed 0 ss i page w s h.ascends edit-lt (found_slot ss i page s found).1 (omega arith) (omega arith) in
      ap (λ cs. pages_in before cs (set ss i (edited_slot s))) (ap (λ cs. set cs s.room w) is ∙ set-twice changed s.room (changed_in before changed s) w)
      ∙ (subst (λ (t : Slot). pages_in before (set changed t.room w) (set ss i (edited_slot t)) ≡ with_changed page w (pages_in before changed ss)) (sym at) made ∙ ap (λ qs. with_changed page w qs) view)

  pub edit_image : (copies : List (List ℕ)) (image : List ℕ) → copies ≡ set changed s.room (changed_in before changed s) → image ≡ get_or copies s.room image → changed_of page ps ≡ Some image
  edit_image copies image is read =
      let lt = edit_room-lt in let size = h.changed_size in
      image_found before changed ss ps i page s image view h.ascends found at
      (read ∙ (ap (λ cs. get_or cs s.room image) is ∙ get_or-set_same changed s.room (changed_in before changed s) image (omega arith)))

  pub remove_kept : IsRoomed (remove ss i) before changed (spare ++ s.room ∷ [])
  remove_kept = subst (λ (t : Slot). IsRoomed (remove ss i) before changed (spare ++ t.room ∷ [])) (sym at) (kept_removed ss before changed spare i s h edit-lt)

  pub remove_gives : pages_in before changed (remove ss i) ≡ without_page page ps
  remove_gives = remove_leaves before changed 0 ss i page s h.ascends edit-lt (found_slot ss i page s found).1 ∙ ap (λ qs. without_page page qs) view

-- what reading a page in makes of the pages and of their rooms
module _ (before changed : List (List ℕ)) (ss : List Slot) (spare rest : List ℕ) (ps : List WorkPage) (page room i : ℕ) (slots : List Slot) (h : IsRoomed ss before changed spare) (view : pages_in before changed ss ≡ ps)
    (absent : changed_of page ps ≡ None) (popped : spare ≡ rest ++ room ∷ []) (at : i ≡ place_in page ss) (inserted : slots ≡ insert ss i (record { page = page; room = room; edited = false })) where
  read_slots : slots ≡ insert ss (place_in page ss) (record { page = page; room = room; edited = false })
  read_slots = inserted ∙ ap (λ k. insert ss k (record { page = page; room = room; edited = false })) at

  pub read_kept : (w : List ℕ) → IsRoomed slots (set before room w) changed rest
  read_kept w = subst (λ (ts : List Slot). IsRoomed ts (set before room w) changed rest) (sym read_slots)
      (kept_read ss before (set before room w) changed spare rest page room h popped (ap (λ qs. changed_of page qs) view ∙ absent) (length-set before room w))

  pub read_gives : (w : List ℕ) → pages_in (set before room w) changed slots ≡ with_read page w ps
  read_gives w =
      let free = spare_room ss before changed spare rest room h popped in
      let lt = free.0 in let size = h.before_size in
      ap (λ ts. pages_in (set before room w) changed ts) read_slots
      ∙ (insert_reads before changed ss page room w (omega arith) free.1 ∙ ap (λ qs. with_read page w qs) view)
