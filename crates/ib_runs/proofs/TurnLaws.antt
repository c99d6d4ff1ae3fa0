-- The turns of all sessions, by their places.
use Rattle.std.proofs.Common.{◌≡◌, ℕ, ◌+◌, ◌-◌, ◌<◌, suc, List, [], ◌∷◌, ◌++◌, Option, Some, None, All, map, length, refl, sym, ap, subst, ◌∙◌, arith, append_assoc, append-nil, length-append}
use Rattle.std.proofs.lemmas.List.{length-map, map-append}
use Rattle.std.proofs.Math.ListN.{get_or-append}
use Rattle.std.specs.List.{AllByRecursion}
use Rattle.std.specs.Prelude.{IfSome, slice_index_or}
use Rattle.ib_map.specs.declared.call.Call.{Call}
use Rattle.ib_layout.specs.Geometry.{Sizes}
use Rattle.ib_logrec.specs.declared.entry.Entry.{Entry}
use Rattle.ib_rule.specs.Memory.{EndedFact}
use Rattle.ib_rule.specs.Pass.{PassState}
use Rattle.ib_rule.specs.Space.{SpaceState}
use Rattle.ib_rule.specs.Views.{ended_as}
use Rattle.ib_rule.specs.declared.view.Ended.{Ended}
use Rattle.ib_leaf.specs.Calls.{CallLaw}
use Rattle.ib_runs.specs.declared.turns.Turn.{Turn}
use Rattle.ib_runs.specs.Answers.{KeptAnswers, IsWhole, answers_of}
use Rattle.ib_runs.specs.Sessions.{HasAnswered}
use Rattle.ib_runs.specs.Turns.{AreDone, AreNumbered, HasTurned, IsDone}

pub numbered_push : (n : ℕ) (ps : List PassState) (p : PassState) → AreNumbered n ps → p.number ≡ n + length ps → AreNumbered n (ps ++ p ∷ [])
numbered_push n [] p are is = (omega (arith, is), tt)
numbered_push n (x ∷ ps) p are is = (are.0, numbered_push (n + 1) ps p are.1 (omega (arith, is)))

-- each turn was over, with answers: all sessions are done
pub done_of : {S : Type 0} → (calls : Sizes → CallLaw) (space : SpaceState) (commands : List (List Call)) (n : ℕ) (old new : List (Turn S)) (outs : List KeptAnswers) → length new ≡ length old → AreNumbered n (map (λ (t : Turn S). t.pass) old)
    → ((i : ℕ) (d : Turn S) → i < length old → HasTurned calls space commands (slice_index_or old i d) (slice_index_or new i d)) → map (λ (t : Turn S). t.answers) new ≡ map Some outs
    → AreDone (calls space.sizes) space.sizes (λ k. slice_index_or commands (k - 1) []) n (map (λ (t : Turn S). t.pass) new) outs
done_of calls space commands n [] [] [] len num turned are = tt
done_of calls space commands n [] [] (out ∷ outs) len num turned are = cc
done_of calls space commands n [] (y ∷ new) outs len num turned are = absurd (omega arith)
done_of calls space commands n (x ∷ old) [] outs len num turned are = absurd (omega arith)
done_of calls space commands n (x ∷ old) (y ∷ new) [] len num turned are = cc
done_of calls space commands n (x ∷ old) (y ∷ new) (out ∷ outs) len num turned are =
    let first : HasTurned calls space commands x y = turned 0 x (omega arith) in
    let some : y.answers ≡ Some out = cc in
    let there : IfSome (Some out) (λ (o : KeptAnswers). IsWhole o × HasAnswered (calls space.sizes) space.sizes (slice_index_or commands (x.pass.number - 1) []) (answers_of o) x.pass y.pass) =
    subst (λ (o : Option KeptAnswers). IfSome o (λ (o : KeptAnswers). IsWhole o × HasAnswered (calls space.sizes) space.sizes (slice_index_or commands (x.pass.number - 1) []) (answers_of o) x.pass y.pass)) some first.answered in
    let one : IsDone (calls space.sizes) space.sizes (slice_index_or commands (n - 1) []) n out y.pass = record {
      number = first.number ∙ num.0;
      role = first.role;
      whole = there.0;
      start = x.pass;
      answered = subst (λ k. HasAnswered (calls space.sizes) space.sizes (slice_index_or commands (k - 1) []) (answers_of out) x.pass y.pass) num.0 there.1;
    } in
    (one, done_of calls space commands (n + 1) old new outs (omega arith) num.1 (λ i d lt. turned (suc i) d (omega arith)) cc)

pub if_some : {A : Type 0} (o : Option A) (P Q : A → Type 0) → ((a : A) → o ≡ Some a → P a → Q a) → IfSome o P → IfSome o Q
if_some None P Q f h = tt
if_some (Some a) P Q f h = f a refl h

-- what holds of all holds of the front
pub all_left : {S : Type 0} → (P : Turn S → Type 0) (all front back : List (Turn S)) → all ≡ front ++ back → All P all → All P front
all_left {S = S} P all front back is h = λ k d lt.
    let long = ap length is in
    let longer = length-append front back in
    subst P (ap (λ (ts : List (Turn S)). slice_index_or ts k d) is ∙ get_or-append front back d k lt) (h k d (omega arith))

-- one session more has ended
pub space_left : {S : Type 0} → (space : SpaceState) (all front : List (Turn S)) (t : Turn S) (after : SpaceState) → all ≡ front ++ t ∷ [] → after ≡ record space { ended = ended_as t.pass.view ∷ space.ended }
    → record after { ended = map (λ (u : Turn S). ended_as u.pass.view) front ++ after.ended } ≡ record space { ended = map (λ (u : Turn S). ended_as u.pass.view) all ++ space.ended }
space_left {S = S} space all front t after is ends =
    let list : map (λ (u : Turn S). ended_as u.pass.view) front ++ ended_as t.pass.view ∷ space.ended ≡ map (λ (u : Turn S). ended_as u.pass.view) all ++ space.ended =
    sym (ap (λ es. es ++ space.ended) (ap (map (λ (u : Turn S). ended_as u.pass.view)) is ∙ map-append (λ (u : Turn S). ended_as u.pass.view) front (t ∷ []))
    ∙ append_assoc (map (λ (u : Turn S). ended_as u.pass.view) front) (ended_as t.pass.view ∷ []) space.ended) in
    ap (λ (s : SpaceState). record s { ended = map (λ (u : Turn S). ended_as u.pass.view) front ++ s.ended }) ends ∙ ap (λ es. record space { ended = es }) list

-- its answers stand in front of the others
pub outs_left : {S : Type 0} → (all front : List (Turn S)) (t : Turn S) (outs more : List KeptAnswers) (first : List (Option KeptAnswers)) → all ≡ front ++ t ∷ [] → map Some more ≡ t.answers ∷ map Some outs
    → map (λ (u : Turn S). u.answers) all ++ map Some outs ≡ first → map (λ (u : Turn S). u.answers) front ++ map Some more ≡ first
outs_left {S = S} all front t outs more first is put are =
    ap (λ os. map (λ (u : Turn S). u.answers) front ++ os) put
    ∙ (sym (ap (λ os. os ++ map Some outs) (ap (map (λ (u : Turn S). u.answers)) is ∙ map-append (λ (u : Turn S). u.answers) front (t ∷ []))
    ∙ append_assoc (map (λ (u : Turn S). u.answers) front) (t.answers ∷ []) (map Some outs)) ∙ are)

pub ended_passes : {S : Type 0} → (ts : List (Turn S)) → map (λ (u : Turn S). ended_as u.pass.view) ts ≡ map (λ (p : PassState). ended_as p.view) (map (λ (u : Turn S). u.pass) ts)
ended_passes [] = refl
ended_passes (t ∷ ts) = ap (λ es. ended_as t.pass.view ∷ es) (ended_passes ts)

-- all that have ended: those that had their turn, and those beside them
pub all_gone : {S : Type 0} → (ts : List (Turn S)) (qs : List PassState) (before : List Ended) → before ≡ []
    → map (λ (u : Turn S). ended_as u.pass.view) ts ++ (map (λ (p : PassState). ended_as p.view) qs ++ before) ≡ map (λ (p : PassState). ended_as p.view) (map (λ (u : Turn S). u.pass) ts ++ qs)
all_gone {S = S} ts qs before none =
    ap (λ es. map (λ (u : Turn S). ended_as u.pass.view) ts ++ (map (λ (p : PassState). ended_as p.view) qs ++ es)) none
    ∙ (ap (λ es. map (λ (u : Turn S). ended_as u.pass.view) ts ++ es) (append-nil (map (λ (p : PassState). ended_as p.view) qs))
    ∙ (ap (λ es. es ++ map (λ (p : PassState). ended_as p.view) qs) (ended_passes ts)
    ∙ sym (map-append (λ (p : PassState). ended_as p.view) (map (λ (u : Turn S). u.pass) ts) qs)))

-- what is true of all of them is true of both
pub ended-parts : (log : List Entry) (ps qs : List PassState) → AllByRecursion (EndedFact log) (map (λ (q : PassState). ended_as q.view) (ps ++ qs))
    → AllByRecursion (EndedFact log) (map (λ (q : PassState). ended_as q.view) ps) × AllByRecursion (EndedFact log) (map (λ (q : PassState). ended_as q.view) qs)
ended-parts log [] qs all = (tt, all)
ended-parts log (p ∷ ps) qs all = let rest = ended-parts log ps qs all.1 in ((all.0, rest.0), rest.1)

-- where none had ended before, as many have ended as had their turn
pub all_ended : {S : Type 0} → (ts : List (Turn S)) (before : List Ended) → before ≡ [] → length (map (λ (u : Turn S). ended_as u.pass.view) ts ++ before) ≡ length ts
all_ended {S = S} ts before none =
    ap (λ es. length (map (λ (u : Turn S). ended_as u.pass.view) ts ++ es)) none ∙ (ap length (append-nil (map (λ (u : Turn S). ended_as u.pass.view) ts)) ∙ length-map ts (λ (u : Turn S). ended_as u.pass.view))
