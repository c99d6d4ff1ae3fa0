-- The law of pages, clause by clause.
use Rattle.std.proofs.Common.{◌∙◌, List, ℕ, refl, ap, sym, subst, arith}
use Rattle.ib_page.specs.Space.{IsSpacePage, is_taken}
use Rattle.ib_heap.proofs.EmptyLaws.{form_law}
use Rattle.ib_page.proofs.SpaceLaws.{space_taken, space_formed}
use Rattle.ib_page.proofs.OpeningLaws.{opening_space, opening_leaf, opening_free}
use Rattle.ib_page.proofs.laws.page_law.Goals as goal

pub returns-clause-form : goal.returns-clause-form
returns-clause-form c = form_law

pub returns-clause-opening_space : goal.returns-clause-opening_space
returns-clause-opening_space c pages roots some few many = subst (λ (ws : List ℕ). IsSpacePage pages ws) (sym (opening_space roots 0 refl)) (space_formed roots pages some few many)

pub returns-clause-opening_taken : goal.returns-clause-opening_taken
returns-clause-opening_taken c roots page some few lt = ap (λ ws. is_taken ws page) (opening_space roots 0 refl) ∙ space_taken roots page some few lt

pub returns-clause-opening_leaf : goal.returns-clause-opening_leaf
returns-clause-opening_leaf c roots page some root = opening_leaf roots page (λ e. omega arith) root

pub returns-clause-opening_free : goal.returns-clause-opening_free
returns-clause-opening_free c roots page far = opening_free roots page far
