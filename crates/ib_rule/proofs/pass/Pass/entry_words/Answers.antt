-- What is left behind the reference are the words of the pass.
use Rattle.std.proofs.Common.{ℕ, refl, ap, ◌∙◌, ◌++◌, take, drop, length}
use Rattle.ib_rule.specs.Pass.{PassState, pass_state}
use Rattle.ib_rule.specs.Lending.{with_words}
use Rattle.ib_rule.proofs.pass.Pass.entry_words.Goals as goal

pub returns : goal.returns
returns c = (
  (
    refl,
    λ w.
        ap (λ (n : ℕ). record (pass_state c.self.inside) { words = take n (w ++ drop (length w) c.self.inside.words.items) }) c.self.invariant.sized
        ∙ ap (λ (p : PassState). with_words p w) c.self.view_is,
  ),
  record { lends = tt; words = c.as_mut_slice.ensures.value ∙ ap (λ (p : PassState). p.words) c.self.view_is; size = c.as_mut_slice.ensures.len ∙ c.self.invariant.sized },
)
