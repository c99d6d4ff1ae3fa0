-- What kept logs of a pair say of its two trees, as what the sessions of a script share.
use Rattle.std.proofs.Common.{◌≡◌, ℕ, zero, suc, ◌<◌, ◌≤◌, true, List, [], ◌∷◌, ◌++◌, take, drop, length, slice_get, refl, sym, ap, subst, ◌∙◌, arith, append_assoc, inr, take-append-drop}
use Rattle.std.proofs.lemmas.Bool.Decides.{nat_tests}
use Rattle.ib_map.specs.Pairs.{Pairs}
use Rattle.ib_map.specs.Map.{IsMap, answer_of, effect_of, is_made}
use Rattle.ib_map.specs.History.{History, map_after, map_with}
use Rattle.ib_map.specs.Space.{has_pages}
use Rattle.ib_map.specs.declared.call.Change.{Change}
use Rattle.ib_map.proofs.HistoryLaws.{IsMap-map_after, map_after-append, map_after-length, slice_get-last}
use Rattle.ib_second_key.specs.SecondChanges.{IsPrimaryChange, second_change}
use Rattle.ib_second_key.specs.SecondKeys.{ArePrimary, second_of}
use Rattle.ib_layout.specs.Geometry.{Sizes}
use Rattle.ib_logrec.specs.declared.entry.Entry.{Entry}
use Rattle.ib_logrec.specs.Log.{by_place, history_of, logged, map_of, memory_after}
use Rattle.ib_logrec.proofs.LogLaws.{history_of-push, length-history_of}
use Rattle.ib_walk.specs.Trees.{content_of, free_page}
use Rattle.ib_walk.specs.Words.{IsLawfulMemory, pages_of}
use Rattle.ib_walk.proofs.SpaceLaws.{pages_of-other}
use Rattle.ib_tree.specs.Logs.{pages_after}
use Rattle.ib_tree.proofs.LogLaws.{map_of-push}
use Rattle.ib_tree.proofs.OpeningLaws.{by_place-opening_of}
use Rattle.ib_pair_law.specs.Opening.{pair_opening}
use Rattle.ib_pair_law.specs.PairKept.{IsPairLog}
use Rattle.ib_pair_law.specs.PairLog.{IsPairLog-front, IsPairLog-grammar, IsPairLog-none}
use Rattle.ib_runs.specs.Shared.{LogLaws, calls_under}
use Rattle.ib_second.specs.PairShared.{pair_law}

-- the changes of the second tree's map that go with those of these entries, from a map on
abbrev second_history : Pairs → List Entry → History
second_history m [] = []
second_history m (e ∷ es) = record { session = e.session; number = e.number; change = second_change m e.change } ∷ second_history (effect_of m e.change) es

length-second : (m : Pairs) (es : List Entry) → length (second_history m es) ≡ length es
length-second m [] = refl
length-second m (e ∷ es) = let rest = length-second (effect_of m e.change) es in omega arith

take-second : (n : ℕ) (m : Pairs) (es : List Entry) → take n (second_history m es) ≡ second_history m (take n es)
take-second zero m es = refl
take-second (suc n) m [] = refl
take-second (suc n) m (e ∷ es) = ap (λ h. record { session = e.session; number = e.number; change = second_change m e.change } ∷ h) (take-second n (effect_of m e.change) es)

-- a change that a map makes, whose pairs have second keys
record IsMadeOf (m : Pairs) (change : Change) : Type 0 where
  pub map : IsMap m
  pub primary : ArePrimary m
  pub asks : IsPrimaryChange change
  pub made : is_made (answer_of m change) ≡ true

abbrev AreMadeOf : Pairs → List Entry → Type 0
AreMadeOf m [] = Unit {0}
AreMadeOf m (e ∷ es) = IsMadeOf m e.change × AreMadeOf (effect_of m e.change) es

module _ (effect : (m : Pairs) (change : Change) → IsMap m → ArePrimary m → IsPrimaryChange change → is_made (answer_of m change) ≡ true → second_of (effect_of m change) ≡ effect_of (second_of m) (second_change m change)) where
  -- they lead to the second map of the map that the entries lead to
  second-with : (m : Pairs) (es : List Entry) → AreMadeOf m es → map_with (second_of m) (second_history m es) ≡ second_of (map_with m (history_of es))
  second-with m [] are = refl
  second-with m (e ∷ es) are =
      let one = are.0 in
      ap (λ x. map_with x (second_history (effect_of m e.change) es)) (sym (effect m e.change one.map one.primary one.asks one.made)) ∙ second-with (effect_of m e.change) es are.1

  module _ (sizes : Sizes) (fits : has_pages sizes.pages ≡ true) (memory : (log : List Entry) → IsPairLog sizes.pages log → IsLawfulMemory sizes.pages 2 (memory_after (by_place pair_opening sizes.pages) log))
      (first : (log : List Entry) → IsPairLog sizes.pages log → content_of (pages_after (by_place pair_opening sizes.pages) log) 1 ≡ map_of log)
      (second : (log : List Entry) → IsPairLog sizes.pages log → content_of (pages_after (by_place pair_opening sizes.pages) log) 2 ≡ second_of (map_of log))
      (primary : (log : List Entry) → IsPairLog sizes.pages log → ArePrimary (map_of log)) where
    abbrev start : ℕ → ℕ
    start = by_place pair_opening sizes.pages

    -- the entry behind a front of a kept log is made there
    made-next : (front : List Entry) (e : Entry) → IsPairLog sizes.pages (front ++ e ∷ []) → IsMadeOf (map_of front) e.change
    made-next front e kept =
        let before = IsPairLog-front sizes.pages front (e ∷ []) kept in
        let at = kept.lawful.legal (length front) (logged e) (ap (λ h. slice_get h (length front)) (history_of-push front e)
        ∙ (ap (slice_get (history_of front ++ logged e ∷ [])) (sym (length-history_of front)) ∙ slice_get-last (history_of front) (logged e))) in
        let same : map_after (history_of (front ++ e ∷ [])) (length front) ≡ map_of front =
        ap (λ h. map_after h (length front)) (history_of-push front e) ∙ map_after-append (history_of front) (logged e ∷ []) (length front) (let l = length-history_of front in omega arith) in
        record {
          map = IsMap-map_after (history_of front) (length front);
          primary = primary front before;
          asks = (kept.planned_are front e [] refl).primary;
          made = subst (λ m. is_made (answer_of m e.change) ≡ true) same at.made;
        }

    made-all : (front back : List Entry) → IsPairLog sizes.pages (front ++ back) → AreMadeOf (map_of front) back
    made-all front [] kept = tt
    made-all front (e ∷ back) kept =
        let more : IsPairLog sizes.pages ((front ++ e ∷ []) ++ back) = subst (IsPairLog sizes.pages) (sym (append_assoc front (e ∷ []) back)) kept in
        let one = IsPairLog-front sizes.pages (front ++ e ∷ []) back more in
        (made-next front e one, subst (λ m. AreMadeOf m back) (map_of-push front e) (made-all (front ++ e ∷ []) back more))

    -- the second tree has at each place what as many changes leave
    second_at : (log : List Entry) → IsPairLog sizes.pages log → (n : ℕ) → n ≤ length log → content_of (pages_after start (take n log)) 2 ≡ map_after (second_history [] log) n
    second_at log kept n le =
        let front = IsPairLog-front sizes.pages (take n log) (drop n log) (subst (IsPairLog sizes.pages) (sym (take-append-drop n log)) kept) in
        let all : map_of (take n log) ≡ map_with [] (history_of (take n log)) = ap (map_after (history_of (take n log))) (sym (length-history_of (take n log))) ∙ map_after-length (history_of (take n log)) in
        second (take n log) front ∙ (ap second_of all ∙ (sym (second-with [] (take n log) (made-all [] (take n log) front)) ∙ ap (map_with []) (sym (take-second n [] log))))

    pub pair_logs : LogLaws (calls_under pair_law sizes) 2 sizes.pages
    pair_logs = record {
      none = IsPairLog-none sizes.pages;
      grammar = IsPairLog-grammar sizes.pages;
      free = λ page far.
          let least : 2 < sizes.pages = grind (arith, nat_tests, fits) in
          subst (λ (words : ℕ → ℕ). pages_of words page ≡ free_page) (sym (by_place-opening_of 2 sizes.pages)) (pages_of-other 2 page (omega arith));
      roots = 2;
      few = omega arith;
      some = omega arith;
      within = omega arith;
      memory = memory;
      content = first;
      scanned = λ log kept. record { changes = second_history [] log; count = length-second [] log; content = second_at log kept };
      whole = λ log session reach low high spans kept le whole. (omega arith, (refl, inr (le, whole)));
    }
