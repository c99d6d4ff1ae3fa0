-- Page 0 may be taken: it is none of the trees', and its level is below theirs.
use Rattle.std.proofs.Common.{◌≡◌, ◌∙◌, ◌∷◌, true, map, refl, subst, arith}
use Rattle.std.proofs.lemmas.List.{length-map}
use Rattle.ib_map.specs.Space.{has_pages}
use Rattle.ib_layout.specs.Geometry.{Sizes}
use Rattle.ib_levels.specs.declared.level.Level.TheVariants.{Space}
use Rattle.ib_cursor.specs.Claims.{claim_grant}
use Rattle.ib_cursor.proofs.GrantLaws.{may_grow}
use Rattle.ib_index.specs.Grows.{held_grant, tree_pages}
use Rattle.ib_second.proofs.SpaceLaws.{among-tree, follow-space, length-tree, some-pages}
use Rattle.ib_second.proofs.TakeMore.{take-absent, take-may}
use Rattle.ib_second.proofs.pages.take_space.Goals as goal

pub take_at-requires-clause-page : goal.take_at-requires-clause-page
take_at-requires-clause-page g c = some-pages c.args.mtr.now.latches.now.sizes.pages
    (subst (λ (s : Sizes). has_pages s.pages ≡ true) c.geometry.ensures (subst (λ n. has_pages n ≡ true) c.pages.ensures.pages c.pages.ensures.in_range))

pub take_at-requires-clause-grows : goal.take_at-requires-clause-grows
take_at-requires-clause-grows g c =
    let r = c.requires.ready in
    may_grow (claim_grant ∷ map held_grant (tree_pages r.4)) c.args.mtr.now.pass.now r.5.grants c.requires.room (let f = r.7 in let l = length-map (tree_pages r.4) held_grant in let n = length-tree r.4 in omega arith)

pub take_at-requires-clause-may : goal.take_at-requires-clause-may
take_at-requires-clause-may g c =
    let r = c.requires.ready in
    take-may c.args.mtr.now.latches.now.sizes r.0 r.1 r.2 r.3 (tree_pages r.4) 0 Space c.args.mtr.now.pass.now r.5 (among-tree r.4 0 ∙ r.6) (refl, follow-space r.4)

pub take_at-requires-clause-absent : goal.take_at-requires-clause-absent
take_at-requires-clause-absent g c =
    let r = c.requires.ready in
    take-absent c.args.mtr.now.latches.now.sizes r.0 r.1 r.2 r.3 (tree_pages r.4) 0 Space c.args.mtr.now.pass.now r.5 (among-tree r.4 0 ∙ r.6)

pub take_at-requires-clause-few : goal.take_at-requires-clause-few
take_at-requires-clause-few g c =
    let r = c.requires.ready in let f = r.7 in let n = length-tree r.4 in let k = r.5.count in omega arith

pub returns-clause-taken : goal.returns-clause-taken
returns-clause-taken g c = λ key path key2 path2 held can none. c.take_at.ensures.taken key path key2 path2 (tree_pages held) can (among-tree held 0 ∙ none)
