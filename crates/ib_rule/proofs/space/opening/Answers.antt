use Rattle.std.proofs.Common.{◌≡◌, ◌∙◌, sym, ap, subst, ℕ, ◌++◌, drop, take, length}
use Rattle.std.proofs.Math.Seq.{take-append_seam}
use Rattle.ib_rule.specs.Rule.{IsOpening}
use Rattle.ib_rule.proofs.space.opening.Goals as goal

pub returns-clause-words : goal.returns-clause-words
returns-clause-words g c =
    let size : c.in_ok-words.words.len ≡ length c.fill.new.words = c.in_ok-words.ensures.len ∙ (c.words-count.ensures.words ∙ sym c.fill.ensures.sized) in
    let same = ap (λ (n : ℕ). take n (c.fill.new.words ++ drop (length c.fill.new.words) c.in_ok-words.words.items)) size ∙ take-append_seam c.fill.new.words (drop (length c.fill.new.words) c.in_ok-words.words.items) in
    subst (λ ws. IsOpening g.L.Law.opening c.args.geometry ws) (sym same) c.fill.ensures
