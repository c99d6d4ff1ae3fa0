-- One session more.
use Rattle.std.proofs.Common.{◌≡◌, ◌∙◌, ◌+◌, ◌<◌, ◌++◌, ◌∷◌, [], ℕ, ap, sym, subst, refl, length, length-append, arith}
use Rattle.std.specs.Prelude.{Some, slice_get, slice_index_or, sum_by}
use Rattle.std.proofs.lemmas.List.{length-map}
use Rattle.std.proofs.lemmas.List.Sums.{sum_by_push}
use Rattle.ib_script.specs.Generated.{call_at, share_of}
use Rattle.ib_script.specs.Lists.{lists_of}
use Rattle.ib_script.specs.Script.{scan_count}
use Rattle.ib_script.proofs.GeneratedLaws.{each-push, lists-pushed, no-scans, share-few}
use Rattle.ib_script.proofs.generated.generate.Goals as goal

pub loop-before-preserved : goal.loop-before-preserved
loop-before-preserved c =
    let vecs = c.loop-before.sessions.items in let inv = c.loop-before.invariant in let load = c.args.load in let n = c.loop-before.before in
    let mine = c.in_ok-generated_calls.field-0 in
    let got = c.in_ok-generated_calls.ensures in
    let pushed : c.push.new.self.items ≡ vecs ++ mine ∷ [] = c.in_ok-push.ensures.items in
    let lists : lists_of c.push.new.self.items ≡ lists_of vecs ++ mine.items ∷ [] = ap lists_of pushed ∙ lists-pushed vecs mine in
    let size : length (lists_of vecs) ≡ n = length-map vecs _ ∙ inv.count in
    record {
      load = c.requires;
      count = ap length pushed ∙ length-append vecs (mine ∷ []) ∙ ap (λ k. k + 1) inv.count;
      all = refl;
      shares = subst (λ ls. (k : ℕ) → k < n + 1 → length (slice_index_or ls k []) ≡ share_of load (k + 1)) (sym lists)
          (each-push (λ k xs. length xs ≡ share_of load (k + 1)) (lists_of vecs) mine.items n size got.share inv.shares);
      calls = subst (λ ls. (k at : ℕ) → k < n + 1 → at < share_of load (k + 1) → slice_get (slice_index_or ls k []) at ≡ Some (call_at load (k + 1) at)) (sym lists)
          (λ k at lt. each-push (λ j xs. (i : ℕ) → i < share_of load (j + 1) → slice_get xs i ≡ Some (call_at load (j + 1) i)) (lists_of vecs) mine.items n size got.calls (λ j less i. inv.calls j i less) k lt at);
      few =
          let sum = ap (sum_by length) lists ∙ sum_by_push length (lists_of vecs) mine.items in
          let most = share-few load (n + 1) in let share = got.share in let was = inv.few in omega arith;
      scans =
          let sum = ap (sum_by scan_count) lists ∙ sum_by_push scan_count (lists_of vecs) mine.items in
          let none = no-scans load (n + 1) mine.items got.share got.calls in let was = inv.scans in omega arith;
    }
