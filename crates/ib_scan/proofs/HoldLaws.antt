-- The leaf of each chunk is held until the next one is read.
use Rattle.std.proofs.Common.{◌≡◌, ◌⊎◌, inl, inr, ℕ, List, [], ◌∷◌, ◌++◌, take, length, sym, ap, subst, ◌∙◌, arith, length-append}
use Rattle.std.proofs.Math.Seq.{take-length}
use Rattle.std.proofs.lemmas.List.{take-append-le}
use Rattle.ib_map.specs.Keys.{MapKey}
use Rattle.ib_map.specs.Replies.{Span}
use Rattle.ib_map.specs.Runs.{first_span_place}
use Rattle.ib_page.specs.Form.{page_of}
use Rattle.ib_logrec.specs.declared.entry.Entry.{Entry}
use Rattle.ib_logrec.specs.Log.{memory_after}
use Rattle.ib_walk.specs.Words.{image_of, pages_of, state_of}
use Rattle.ib_tree.specs.Logs.{pages_after}
use Rattle.ib_scan.specs.Scanning.{AreHeld, IsGivenBy, IsHeldTo}
use Rattle.ib_scan.specs.Steps.{HasLast}

-- the same words are the same page
pub same_page : (opening : ℕ → ℕ) (es fs : List Entry) (page : ℕ) → image_of (memory_after opening es) page ≡ image_of (memory_after opening fs) page → pages_after opening es page ≡ pages_after opening fs page
unfolding pages_of
same_page opening es fs page same = ap (λ words. state_of (page_of words)) same

module _ (opening : ℕ → ℕ) (root : ℕ) (high : MapKey) where
  -- in a log that becomes longer
  held-longer : (log more : List Entry) (spans : List Span) (end : ℕ) → AreHeld opening log root high spans end → AreHeld opening (log ++ more) root high spans end
  held-longer log more [] end h = tt
  held-longer log more (span ∷ spans) end h =
      let one : IsHeldTo opening log root high span (first_span_place spans end) = h.0 in
      let at = take-append-le (first_span_place spans end) log more one.within in
      let own = take-append-le span.place log more (let a = one.from in let b = one.within in omega arith) in (
        record {
          leaf = one.leaf;
          given = subst (λ es. IsGivenBy opening es root one.leaf high span) (sym own) one.given;
          from = one.from;
          within = let a = one.within in let l = length-append log more in omega arith;
          same = ap (λ es. pages_after opening es one.leaf) at ∙ (one.same ∙ sym (ap (λ es. pages_after opening es one.leaf) own));
        },
        held-longer log more spans end h.1,
      )

  -- one chunk more
  pub held_push : (log : List Entry) (spans : List Span) (span : Span) (end : ℕ) → AreHeld opening log root high spans span.place → IsHeldTo opening log root high span end → AreHeld opening log root high (spans ++ span ∷ []) end
  held_push log [] span end h one = (one, tt)
  held_push log (x ∷ []) span end h one = (h.0, (one, tt))
  held_push log (x ∷ y ∷ ys) span end h one = (h.0, held_push log (y ∷ ys) span end h.1 one)

  -- the leaf on which the scan stands has its image still: the last chunk's is held, too
  pub held_on : (log more : List Entry) (leaf : ℕ) (image : List ℕ) (spans : List Span) → (spans ≡ []) ⊎ HasLast opening log root leaf image high spans → image ≡ image_of (memory_after opening (log ++ more)) leaf
      → AreHeld opening (log ++ more) root high spans (length (log ++ more))
  held_on log more leaf image spans (inl none) still = subst (λ xs. AreHeld opening (log ++ more) root high xs (length (log ++ more))) (sym none) tt
  held_on log more leaf image spans (inr l) still =
      let all = log ++ more in
      let own = take-append-le l.last.place log more (let e = l.placed in omega arith) in
      let now : image_of (memory_after opening (take (length all) all)) leaf ≡ image_of (memory_after opening (take l.last.place all)) leaf =
      ap (λ es. image_of (memory_after opening es) leaf) (take-length all) ∙ (sym still ∙ (l.read ∙ sym (ap (λ es. image_of (memory_after opening es) leaf) own))) in
      subst (λ xs. AreHeld opening all root high xs (length all)) (sym l.are) (held_push all l.before l.last (length all) (held-longer log more l.before l.last.place l.held) (record {
        leaf = leaf;
        given = subst (λ es. IsGivenBy opening es root leaf high l.last) (sym own) l.given;
        from = let a = l.placed in let b = length-append log more in omega arith;
        within = omega arith;
        same = same_page opening (take (length all) all) (take l.last.place all) leaf now;
      }))
