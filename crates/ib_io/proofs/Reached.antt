-- An input is read line by line, up to a place.
use Rattle.std.proofs.Common.{◌≡◌, ◌∙◌, ℕ, ◌+◌, List, [], ◌∷◌, ◌++◌, ap, sym, subst, refl, length, arith, map, append-nil, append_assoc}
use Rattle.std.specs.Prelude.{Option, Some, None}
use Rattle.std.proofs.lemmas.List.{length_push}
use Rattle.ib_io.specs.Lines.{lines_of, first_bad, readings_by}
use Rattle.ib_io.specs.declared.bad_line.ScriptFault.TheVariants.{BadLine}
use Rattle.ib_io.specs.declared.line_kind.LineKind.{LineKind}

-- so many of these lines are read and built, and the rest follows: none of them is bad
pub record Reached {R B : Type 0} (wrong : List R → R → Option LineKind) (Built : List R → B → Type 0) (readings : List R) (count : ℕ) (builder : B) (rest : List R) : Type 0 where
  before : List R
  whole : before ++ rest ≡ readings
  built : Built before builder
  counted : length before ≡ count
  fault : (more : List R) → first_bad wrong [] (before ++ more) ≡ first_bad wrong before more

-- where it is said what is wrong with a line behind others, and what is built of them
module _ {R B : Type 0} (wrong : List R → R → Option LineKind) (Built : List R → B → Type 0) where
  pub reached-none : (readings : List R) (builder : B) → Built [] builder → Reached wrong Built readings 0 builder readings
  reached-none readings builder built = record { before = []; whole = refl; built = built; counted = refl; fault = λ more. refl }

  -- the first fault is that of the rest, behind the lines that are read
  fault-here : {readings : List R} {count : ℕ} {builder : B} {rest : List R} {left : List R} → rest ≡ left → (reached : Reached wrong Built readings count builder rest)
      → first_bad wrong [] readings ≡ first_bad wrong reached.before left
  fault-here cut reached = ap (first_bad wrong []) (sym reached.whole) ∙ reached.fault _ ∙ ap (first_bad wrong reached.before) cut

  -- a line that is not bad leaves the first fault to those behind it
  good-line : {found : Option (ℕ × LineKind)} (before : List R) (reading : R) (more : List R) → found ≡ first_bad wrong before (reading ∷ more) → wrong before reading ≡ None
      → found ≡ first_bad wrong (before ++ reading ∷ []) more
  good-line before reading more here none = rw (first_bad, none) at here

  pub reached-more : {readings : List R} {count : ℕ} {builder : B} {rest : List R} (reading : R) (after : List R) (new : B)
      → rest ≡ reading ∷ after → Reached wrong Built readings count builder rest
      → ((before : List R) → Built before builder → (wrong before reading ≡ None) × Built (before ++ reading ∷ []) new) → Reached wrong Built readings (count + 1) new after
  reached-more {readings} {count} {builder} {rest} reading after new cut reached taken =
      let step = taken reached.before reached.built in
      let none : wrong reached.before reading ≡ None = step.0 in
      record {
        before = reached.before ++ reading ∷ [];
        whole = append_assoc reached.before (reading ∷ []) after ∙ ap (λ r. reached.before ++ r) (sym cut) ∙ reached.whole;
        built = step.1;
        counted = length_push reached.before reading ∙ ap (λ n. n + 1) reached.counted;
        fault = λ more. ap (first_bad wrong []) (append_assoc reached.before (reading ∷ []) more) ∙ good-line reached.before reading more (reached.fault (reading ∷ more)) none;
      }

  pub reached-bad : {readings : List R} {count : ℕ} {builder : B} {rest : List R} (reading : R) (after : List R) (kind : LineKind)
      → rest ≡ reading ∷ after → Reached wrong Built readings count builder rest
      → ((before : List R) → Built before builder → wrong before reading ≡ Some kind) → first_bad wrong [] readings ≡ Some (count + 1, kind)
  reached-bad {readings} {count} {builder} {rest} reading after kind cut reached found =
      let some : wrong reached.before reading ≡ Some kind = found reached.before reached.built in
      let here : first_bad wrong [] readings ≡ first_bad wrong reached.before (reading ∷ after) = fault-here cut reached in
      (rw (first_bad, some) at here) ∙ ap (λ n. Some (n + 1, kind)) reached.counted

  pub reached-all : {readings : List R} {count : ℕ} {builder : B} {rest : List R} → rest ≡ [] → Reached wrong Built readings count builder rest
      → (first_bad wrong [] readings ≡ None) × Built readings builder
  reached-all {readings} {count} {builder} {rest} none reached =
      let all : reached.before ≡ readings = sym (append-nil reached.before) ∙ ap (λ r. reached.before ++ r) (sym none) ∙ reached.whole in
      (fault-here none reached, subst (λ before. Built before builder) all reached.built)

  -- a bad line that is told with this line and kind is the first
  pub reached-fault : {readings : List R} {count : ℕ} {builder : B} {rest : List R} (reading : R) (after : List R) (found : LineKind) (line : ℕ) (kind : LineKind)
      → rest ≡ reading ∷ after → Reached wrong Built readings count builder rest → ((before : List R) → Built before builder → wrong before reading ≡ Some found)
      → BadLine (count + 1) found ≡ BadLine line kind → first_bad wrong [] readings ≡ Some (line, kind)
  reached-fault {readings} {count} reading after found line kind cut reached bad told =
      let same : count + 1 ≡ line = cc in
      let also : found ≡ kind = cc in
      reached-bad reading after found cut reached bad ∙ ap (λ n. Some (n, found)) same ∙ ap (λ k. Some (line, k)) also

pub lines-cut : {R : Type 0} (reading : List ℕ → R) (text line rest : List ℕ) → lines_of text ≡ line ∷ lines_of rest
    → readings_by reading text ≡ reading line ∷ readings_by reading rest
lines-cut reading text line rest h = ap (map reading) h

pub lines-end : {R : Type 0} (reading : List ℕ → R) (text : List ℕ) → length text ≡ 0 → readings_by reading text ≡ []
lines-end reading [] h = refl
lines-end reading (x ∷ text) h = absurd (omega arith)
