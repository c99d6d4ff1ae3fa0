-- The first word has the bits of the first pages, and all others none.
use Rattle.std.proofs.Common.{◌∙◌, ◌+◌, ◌-◌, ◌^◌, ap, sym, cond, ℕ}
use Rattle.std.proofs.lemmas.Bool.{eq-eqb, ne_eqb}
use Rattle.ib_page.proofs.SpaceLaws.{space_word}
use Rattle.ib_page.proofs.space.opening_word.Goals as goal

pub returns-then-index-eq0 : goal.returns-then-index-eq0
returns-then-index-eq0 c = c.first_pages.ensures ∙ sym (space_word c.args.roots c.args.index ∙ ap (λ b. cond {A = ℕ} b (2 ^ (c.args.roots + 1) - 1) 0) (eq-eqb c.args.index 0 c.if-index-eq0.true))

pub returns-else-index-eq0 : goal.returns-else-index-eq0
returns-else-index-eq0 c = sym (space_word c.args.roots c.args.index ∙ ap (λ b. cond {A = ℕ} b (2 ^ (c.args.roots + 1) - 1) 0) (ne_eqb c.args.index 0 c.if-index-eq0.false))
