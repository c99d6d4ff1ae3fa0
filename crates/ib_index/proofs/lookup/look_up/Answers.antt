-- No entry first seen at the end writes the leaf.
use Rattle.std.proofs.Common.{◌≡◌, ◌∙◌, true, ap, subst, arith}
use Rattle.ib_map.proofs.KeyLaws.{rank-lt_end}
use Rattle.ib_map.specs.Space.{has_pages}
use Rattle.ib_layout.specs.Geometry.{Sizes}
use Rattle.ib_logrec.specs.Log.{by_place}
use Rattle.ib_rule.specs.Pass.{PassState}
use Rattle.ib_rule.specs.Views.{total}
use Rattle.ib_rule.specs.declared.view.Role.TheVariants.{Session}
use Rattle.ib_cursor.proofs.LogLaws.{laws_under}
use Rattle.ib_cursor.proofs.PageLaws.{has_told}
use Rattle.ib_index.proofs.LookupLaws.{looked_up}
use Rattle.ib_index.proofs.lookup.look_up.Goals as goal

pub returns-clause-looked_up : goal.returns-clause-looked_up
returns-clause-looked_up g c = λ p h.
    let sizes : Sizes = c.args.mtr.latches.now.sizes in
    let has : has_pages sizes.pages ≡ true = has_told c.geometry.ensures c.pages.ensures.pages c.pages.ensures.in_range in
    let laws = laws_under g.L.Law g.L.Trees.ROOTS sizes.pages has g.met.L.Law.begins c.trees_law.ensures.memory g.met.L.Law.stays c.trees_law.ensures.range in
    let lt = rank-lt_end c.args.key in
    looked_up sizes g.L.Trees.ROOTS (g.L.Law.lawful sizes.pages) (by_place g.L.Law.opening sizes.pages) laws c.requires.root (λ log. c.trees_law.ensures.content sizes.pages log has) c.args.key lt c.args.value p c.args.mtr.pass.now h
    c.commit_read-place.result c.commit_read-place.new.self.1.0 (subst (λ (r : PassState). r.view.role ≡ Session r.number) c.pass.ensures c.number.ensures.session) c.commit_read-place.ensures c.reply_of-reply.result c.reply_of-reply.ensures

pub returns-clause-looks : goal.returns-clause-looks
returns-clause-looks g c = c.commit_read-place.ensures.looks

pub returns-clause-few : goal.returns-clause-few
returns-clause-few g c = λ p few.
    let end = c.commit_read-place.ensures in let g = ap total end.ended.grants in let l = end.looks in let a = few.least in let b = few.most in
    record { least = omega arith; most = omega arith; waits = end.waits ∙ few.waits }
