-- The image of the last page is looked at.
use Rattle.std.proofs.Common.{◌≡◌, ◌∙◌, ℕ, ◌-◌, Some, None, length, ap, sym, subst, slice_get}
use Rattle.std.specs.Prelude.{IfSome, MatchOption}
use Rattle.ib_map.specs.Pairs.{value_at}
use Rattle.ib_page.specs.Form.{page_of}
use Rattle.ib_page.specs.Work.{changed_of}
use Rattle.ib_plans.specs.Agreement.{memory_in, state_or_free}
use Rattle.ib_plans.proofs.EditLaws.{state-records}
use Rattle.ib_plans.proofs.PathListLaws.{last-got}
use Rattle.ib_rule.specs.Pass.{PassState}
use Rattle.ib_leaf.proofs.path_value.value_in.Goals as goal

pub returns : goal.returns
returns g c =
    let p : PassState = c.args.mtr.now.pass.now in let path = c.args.path.now in let leaf : ℕ = c.unwrap-leaf.result in let key = c.args.key in
    let at = subst (λ o. IfSome o (λ page. slice_get path (length path - 1) ≡ Some page)) c.unwrap-leaf.ensures c.last.ensures.last in
    let got = subst (λ o. MatchOption o (changed_of leaf p.work ≡ None) (λ image. changed_of leaf p.work ≡ Some image.now)) c.unwrap-image.ensures c.image.ensures in
    c.get.ensures
    ∙ (ap (value_at key) (sym (state-records (page_of c.unwrap-image.result.now)))
    ∙ (ap (λ o. value_at key (state_or_free o).records) (sym got)
    ∙ ap (λ (n : ℕ). value_at key (memory_in p.work n).records) (sym (last-got path leaf at))))
