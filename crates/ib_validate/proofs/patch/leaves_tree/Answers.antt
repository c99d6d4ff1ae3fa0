use Rattle.std.proofs.Common.{◌≡◌, ◌∙◌, sym, subst, length}
use Rattle.ib_walk.proofs.ChoiceLaws.{Some-same}
use Rattle.ib_validate.specs.PatchTest.{Positions}
use Rattle.ib_validate.specs.Positions.{positions_of}
use Rattle.ib_validate.specs.TreeMemory.{TreeMemory, IsTreePatch}
use Rattle.ib_validate.proofs.StepLaws.{visits-true}
use Rattle.ib_validate.proofs.PassLaws.{passes-sound, passes-complete}
use Rattle.ib_validate.proofs.ListedLaws.{listed-within}
use Rattle.ib_validate.proofs.patch.leaves_tree.Goals as goal
use Rattle.std.proofs.Common.{refl}

pub visit_patch-requires-clause-in_range : goal.visit_patch-requires-clause-in_range
visit_patch-requires-clause-in_range c = listed-within _ c.requires.memory c.args.pages.now (length c.args.old.now) refl c.requires.memory.met_before

pub passes_at_all-requires-clause-in_range : goal.passes_at_all-requires-clause-in_range
passes_at_all-requires-clause-in_range c = listed-within _ c.requires.memory c.args.pages.now (length c.visit_patch.new.table) refl (c.visit_patch.auto.table ∙ c.requires.memory.met_after)

pub returns-then-visit_patch-clause-sound : goal.returns-then-visit_patch-clause-sound
returns-then-visit_patch-clause-sound c t =
    let went = visits-true _ _ c.visit_patch.result (positions_of c.visit_patch.new.table) c.visit_patch.ensures.visits c.if-visit_patch.true in
    passes-sound _ c.requires.memory c.passes_at_all.ensures.before c.passes_at_all.ensures.after (positions_of c.visit_patch.new.table) c.args.key c.args.map.now (c.passes_at_all.ensures.passes.0 t) went.0 went.1

pub returns-then-visit_patch-clause-complete : goal.returns-then-visit_patch-clause-complete
returns-then-visit_patch-clause-complete c met h =
    let went = visits-true _ _ c.visit_patch.result (positions_of c.visit_patch.new.table) c.visit_patch.ensures.visits c.if-visit_patch.true in
    let same : met ≡ positions_of c.visit_patch.new.table = Some-same met (positions_of c.visit_patch.new.table) (sym h.passes.visited_as ∙ went.0) in
    let memory : TreeMemory = record { before = c.args.before.now; after = c.args.after.now; met_before = c.args.old.now; met_after = c.args.table.now; written = c.args.written.now; pages = c.args.pages.now } in
    c.passes_at_all.ensures.passes.1 (passes-complete memory c.requires.memory c.passes_at_all.ensures.before c.passes_at_all.ensures.after (positions_of c.visit_patch.new.table) c.args.key c.args.map.now
    (subst (λ (table : Positions). IsTreePatch memory table c.args.key c.args.map.now) same h))
