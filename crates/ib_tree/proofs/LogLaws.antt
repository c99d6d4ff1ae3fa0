-- What a lawful log and one entry behind it say of the memory and of the map.
use Rattle.std.proofs.Common.{◌≡◌, ◌≢◌, ℕ, ◌*◌, ◌<◌, ◌⊎◌, inl, inr, true, false, List, [], ◌∷◌, ◌++◌, length, Option, Some, None, refl, sym, ap, subst, ◌∙◌, arith, append_assoc}
use Rattle.std.specs.Prelude.{is_some, cond}
use Rattle.ib_map.specs.Keys.{end_rank}
use Rattle.ib_map.specs.Pairs.{Pairs, Rises, put, value_at}
use Rattle.ib_map.specs.Map.{answer_of, effect_of, is_made, delete_answer, key_of}
use Rattle.ib_map.specs.History.{map_with, map_after, IsLegalHistory}
use Rattle.ib_map.specs.Writes.{touches, word_place, PlacesRise}
use Rattle.ib_map.specs.declared.TheConstants.{PAGE_WORDS}
use Rattle.ib_map.specs.declared.call.Change.{Change}
use Rattle.ib_map.specs.declared.call.Change.TheVariants.{Insert, Delete}
use Rattle.ib_map.specs.declared.write.Write.{Write}
use Rattle.ib_map.proofs.HistoryLaws.{map_with-push, map_after-append, map_after-length, slice_get-last}
use Rattle.ib_map.proofs.PairLaws.{value_at-put, value_at-without}
use Rattle.ib_map.proofs.WriteLaws.{page_at-word, written-touches, writes_at-range}
use Rattle.ib_logrec.specs.declared.entry.Entry.{Entry}
use Rattle.ib_logrec.specs.Grammar.{IsInGrammar}
use Rattle.ib_logrec.specs.Log.{memory_after, history_of, logged, map_of}
use Rattle.ib_logrec.proofs.LogLaws.{memory_after-untouched, history_of-push, length-history_of}
use Rattle.ib_walk.specs.Trees.{content_of}
use Rattle.ib_walk.specs.Words.{image_of, pages_of, IsLawfulMemory}
use Rattle.ib_validate.specs.Patch.{slice}
use Rattle.ib_tree.specs.Logs.{pages_after, IsTreeEntry, IsLawfulLog}
use Rattle.ib_walk.proofs.ImageLaws.{image_of-same, pages_of-same}
use Rattle.ib_walk.proofs.WalkLaws.{AllByRecursion-append}
use Rattle.ib_tree.proofs.SliceLaws.{IsOutside, slice-put, slice-without}

-- a log is empty, or an entry behind a log
pub last-entry : (log : List Entry) → (log ≡ []) ⊎ ((front : List Entry) × (e : Entry) × (log ≡ front ++ e ∷ []))
last-entry [] = inl refl
last-entry (x ∷ xs) = elim (last-entry xs) [
  | inl none ↦ inr ([], x, ap (λ ys. x ∷ ys) none)
  | inr r ↦ inr (x ∷ r.0, r.1, ap (λ ys. x ∷ ys) r.2)
]

-- over a lawful opening memory whose first tree is empty
module _ (pages roots : ℕ) (opening : ℕ → ℕ) (opens : IsLawfulMemory pages roots opening) (empty : content_of (pages_of opening) 1 ≡ []) where
  pub IsLawfulMemory-after : (log : List Entry) → IsLawfulLog pages roots opening log → IsLawfulMemory pages roots (memory_after opening log)
  IsLawfulMemory-after log lawful = elim (last-entry log) [
    | inl none ↦ subst (λ es. IsLawfulMemory pages roots (memory_after opening es)) (sym none) opens
    | inr r ↦ subst (λ es. IsLawfulMemory pages roots (memory_after opening es)) (sym r.2) (let a = lawful.entries r.0 r.1 [] r.2 in a.lawful)
  ]

  pub content_of-after : (log : List Entry) → IsLawfulLog pages roots opening log → content_of (pages_after opening log) 1 ≡ map_of log
  content_of-after log lawful = elim (last-entry log) [
    | inl none ↦ subst (λ es. content_of (pages_after opening es) 1 ≡ map_of es) (sym none) empty
    | inr r ↦ subst (λ es. content_of (pages_after opening es) 1 ≡ map_of es) (sym r.2) (let a = lawful.entries r.0 r.1 [] r.2 in a.content)
  ]

-- an entry changes no page that it doesn't write
pub image_of-untouched : (opening : ℕ → ℕ) (front : List Entry) (e : Entry) (page : ℕ) → touches page e.writes ≡ false
    → image_of (memory_after opening (front ++ e ∷ [])) page ≡ image_of (memory_after opening front) page
image_of-untouched opening front e page none =
    image_of-same (memory_after opening front) (memory_after opening (front ++ e ∷ [])) page (λ index lt.
    memory_after-untouched opening front e (word_place page index) (ap (λ p. touches p e.writes) (page_at-word page index lt) ∙ none))

pub pages_after-untouched : (opening : ℕ → ℕ) (front : List Entry) (e : Entry) (page : ℕ) → touches page e.writes ≡ false
    → pages_after opening (front ++ e ∷ []) page ≡ pages_after opening front page
pages_after-untouched opening front e page none =
    pages_of-same (memory_after opening front) (memory_after opening (front ++ e ∷ [])) page (λ index lt.
    memory_after-untouched opening front e (word_place page index) (ap (λ p. touches p e.writes) (page_at-word page index lt) ∙ none))

-- the pages that writes in the space touch are pages of the space
pub touches-within : (pages : ℕ) (ws : List Write) → PlacesRise 0 ws (pages * PAGE_WORDS) → (page : ℕ) → touches page ws ≡ true → page < pages
touches-within pages ws rise page touched =
    let w = written-touches page ws touched in
    let r = writes_at-range 0 ws (pages * PAGE_WORDS) w.0 rise w.1 in
    let a = r.1 in let b = w.2 in omega arith

pub map_of-with : (log : List Entry) → map_of log ≡ map_with [] (history_of log)
map_of-with log = ap (map_after (history_of log)) (sym (length-history_of log)) ∙ map_after-length (history_of log)

pub map_of-push : (front : List Entry) (e : Entry) → map_of (front ++ e ∷ []) ≡ effect_of (map_of front) e.change
map_of-push front e =
    map_of-with (front ++ e ∷ []) ∙ (ap (map_with []) (history_of-push front e) ∙ (map_with-push [] (history_of front) (logged e) ∙ ap (λ m. effect_of m e.change) (sym (map_of-with front))))

-- the last change of a legal history is made by the map before it
pub made-last : (front : List Entry) (e : Entry) → IsLegalHistory (history_of (front ++ e ∷ [])) → is_made (answer_of (map_of front) e.change) ≡ true
made-last front e legal =
    let h = subst IsLegalHistory (history_of-push front e) legal in
    let r = h (length (history_of front)) (logged e) (slice_get-last (history_of front) (logged e)) in
    let a = map_after-append (history_of front) (logged e ∷ []) (length (history_of front)) (omega arith) in
    let b : map_of front ≡ map_after (history_of front ++ logged e ∷ []) (length (history_of front)) = ap (map_after (history_of front)) (sym (length-history_of front)) ∙ sym a in
    subst (λ m. is_made (answer_of m e.change) ≡ true) (sym b) r.made

-- a change leaves every range that its key is outside of
pub slice-effect_of : (m : Pairs) (change : Change) (low high : ℕ) → IsOutside (key_of change) low high → slice (effect_of m change) low high ≡ slice m low high
slice-effect_of m (Insert key value) low high out =
    elim (is_some (value_at key m)) as (λ b. slice (cond b m (put key value m)) low high ≡ slice m low high) [ true ↦ refl | false ↦ slice-put key value m low high out ]
slice-effect_of m (Delete key) low high out = slice-without key m low high out

-- a change that is made changes what stands at its key
pub value_at-effect_of : (m : Pairs) (change : Change) → Rises 0 m end_rank → is_made (answer_of m change) ≡ true → value_at (key_of change) (effect_of m change) ≢ value_at (key_of change) m
value_at-effect_of m (Insert key value) rises made same = go (value_at key m) refl made same
  where
    go : (o : Option ℕ) → value_at key m ≡ o → is_made (answer_of m (Insert key value)) ≡ true → value_at key (effect_of m (Insert key value)) ≡ value_at key m → ⊥
    go None is made same =
        let a : value_at key (effect_of m (Insert key value)) ≡ Some value = rw is (value_at-put key value m) in
        let b = sym a ∙ (same ∙ is) in cc
    go (Some v) is made same = let a : is_made (answer_of m (Insert key value)) ≡ false = rw is refl in let b = sym a ∙ made in cc
value_at-effect_of m (Delete key) rises made same =
    let none = value_at-without key 0 m end_rank rises in
    let a : value_at key m ≡ None = sym same ∙ none in
    let b : is_made (delete_answer (value_at key m)) ≡ false = rw a refl in
    let c = sym b ∙ made in cc

push_injective : (xs ys : List Entry) (x y : Entry) → xs ++ x ∷ [] ≡ ys ++ y ∷ [] → (xs ≡ ys) × (x ≡ y)
push_injective [] [] x y same = (refl, (cc))
push_injective [] (b ∷ []) x y same = absurd ((cc))
push_injective [] (b ∷ c ∷ bs) x y same = absurd ((cc))
push_injective (a ∷ []) [] x y same = absurd ((cc))
push_injective (a ∷ c ∷ as') [] x y same = absurd ((cc))
push_injective (a ∷ as') (b ∷ bs) x y same =
    let r = push_injective as' bs x y (cc) in let e = r.0 in let first : a ≡ b = cc in ((cc), r.1)

-- a lawful log with a tree's entry behind it is lawful
pub IsLawfulLog-push : (pages roots : ℕ) (opening : ℕ → ℕ) (front : List Entry) (e : Entry) → IsLawfulLog pages roots opening front → IsInGrammar pages e
    → IsLegalHistory (history_of (front ++ e ∷ [])) → IsTreeEntry pages roots opening front e → IsLawfulLog pages roots opening (front ++ e ∷ [])
IsLawfulLog-push pages roots opening front e lawful grammar legal entry = record {
  grammar = AllByRecursion-append (IsInGrammar pages) front (e ∷ []) lawful.grammar (grammar, tt);
  legal = legal;
  entries = each;
}
  where
    each : (xs : List Entry) (x : Entry) (back : List Entry) → front ++ e ∷ [] ≡ xs ++ x ∷ back → IsTreeEntry pages roots opening xs x
    each xs x back is = elim (last-entry back) [
      | inl none ↦
          let r = push_injective front xs e x (is ∙ ap (λ ys. xs ++ x ∷ ys) none) in
          subst (λ y. IsTreeEntry pages roots opening xs y) r.1 (subst (λ ys. IsTreeEntry pages roots opening ys e) r.0 entry)
      | inr b ↦
          let r = push_injective front (xs ++ x ∷ b.0) e b.1 (is ∙ (ap (λ ys. xs ++ x ∷ ys) b.2 ∙ sym (append_assoc xs (x ∷ b.0) (b.1 ∷ [])))) in
          lawful.entries xs x b.0 r.0
    ]
