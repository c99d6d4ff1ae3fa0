-- Page 0 may be tried: it is none of the tree's, and its level is below theirs.
use Rattle.std.proofs.Common.{◌∙◌, ◌∷◌, map, refl, arith}
use Rattle.std.proofs.lemmas.List.{length-map}
use Rattle.ib_levels.specs.declared.level.Level.TheVariants.{Space}
use Rattle.ib_cursor.specs.Claims.{claim_grant}
use Rattle.ib_cursor.proofs.GrantLaws.{may_grow}
use Rattle.ib_cursor.proofs.PageLaws.{has_told}
use Rattle.ib_index.specs.Grows.{held_grant, tree_pages}
use Rattle.ib_index.proofs.GrowLaws.{among-tree, follow-space, grow-absent, grow-may, length-tree}
use Rattle.ib_index.proofs.nowait_insert.try_space.Goals as goal
use Rattle.ib_index.proofs.ReadyLaws.{some-pages}

pub try_at-requires-clause-page : goal.try_at-requires-clause-page
try_at-requires-clause-page g c = some-pages c.args.mtr.now.latches.now.sizes.pages
    (has_told c.geometry.ensures c.pages.ensures.pages c.pages.ensures.in_range)

pub try_at-requires-clause-grows : goal.try_at-requires-clause-grows
try_at-requires-clause-grows g c =
    let r = c.requires.ready in
    may_grow (claim_grant ∷ map held_grant (tree_pages r.2)) c.args.mtr.now.pass.now r.3.grants c.requires.room (let f = r.5 in let l = length-map (tree_pages r.2) held_grant in let n = length-tree r.2 in omega arith)

pub try_at-requires-clause-may : goal.try_at-requires-clause-may
try_at-requires-clause-may g c =
    let r = c.requires.ready in
    grow-may c.args.mtr.now.latches.now.sizes r.0 r.1 (tree_pages r.2) 0 Space c.args.mtr.now.pass.now r.3 (among-tree r.2 0 ∙ r.4) (refl, follow-space r.2)

pub try_at-requires-clause-absent : goal.try_at-requires-clause-absent
try_at-requires-clause-absent g c =
    let r = c.requires.ready in
    grow-absent c.args.mtr.now.latches.now.sizes r.0 r.1 (tree_pages r.2) 0 Space c.args.mtr.now.pass.now r.3 (among-tree r.2 0 ∙ r.4)

pub try_at-requires-clause-few : goal.try_at-requires-clause-few
try_at-requires-clause-few g c =
    let r = c.requires.ready in let f = r.5 in let n = length-tree r.2 in let k = r.3.count in omega arith

pub returns-in-Ok-clause-grown : goal.returns-in-Ok-clause-grown
returns-in-Ok-clause-grown g c = λ key path held can none. c.in-Ok.ensures.grown key path (tree_pages held) can (among-tree held 0 ∙ none)
