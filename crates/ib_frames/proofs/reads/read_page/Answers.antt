-- The words loaded are right at the look at the log's end.
use Rattle.std.proofs.Common.{ap, subst, sym}
use Rattle.std.specs.List.{AllByRecursion}
use Rattle.ib_map.specs.declared.TheConstants.{PAGE_WORDS}
use Rattle.ib_logrec.specs.Log.{by_place}
use Rattle.ib_rule.specs.declared.memory.Loaded.{Loaded}
use Rattle.ib_rule.specs.declared.view.View.{View}
use Rattle.ib_rule.specs.Memory.{LoadedFact}
use Rattle.ib_rule.specs.Pass.{PassState}
use Rattle.ib_rule.specs.Stores.{IsLook}
use Rattle.ib_frames.specs.Reads.{AreRight}
use Rattle.ib_frames.proofs.Reading.{loaded_right, looked_before}
use Rattle.ib_frames.proofs.reads.read_page.Goals as goal

pub returns-clause-words : goal.returns-clause-words
returns-clause-words g c = λ k h.
    loaded_right (by_place g.L.Law.opening c.args.space.now.sizes.pages) c.load_page.new.pass.view.session c.load_end.new.pass.view.memory.seen c.args.page c.load_page.new.out c.args.pass.now.view.memory.loaded PAGE_WORDS k h
    (subst (λ (l : Rattle.std.specs.Prelude.List Loaded). AllByRecursion (LoadedFact (by_place g.L.Law.opening c.args.space.now.sizes.pages) c.load_page.new.pass.view.session c.load_end.new.pass.view.memory.seen) l)
    (ap (λ (p : PassState). p.view.memory.loaded) c.load_page.ensures.view) c.load_end.ensures.loaded)

pub returns-clause-looked : goal.returns-clause-looked
returns-clause-looked g c =
    looked_before c.args.space.now.sizes (g.L.Law.lawful c.args.space.now.sizes.pages) c.args.page c.load_page.new.out PAGE_WORDS c.args.pass.now.view c.load_end.new.pass.view.memory.seen
    (subst (λ (v : View). IsLook c.args.space.now.sizes (g.L.Law.lawful c.args.space.now.sizes.pages) v c.load_end.new.pass.view.memory.seen) (ap (λ (p : PassState). p.view) c.load_page.ensures.view) c.load_end.ensures.looked)

pub returns-clause-right : goal.returns-clause-right
returns-clause-right g c =
    let opening = by_place g.L.Law.opening c.args.space.now.sizes.pages in
    subst (λ (v : View). AreRight opening v) (sym (ap (λ (p : PassState). p.view) c.load_end.ensures.view)) c.load_end.ensures.loaded
