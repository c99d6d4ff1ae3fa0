use Rattle.std.proofs.Common.{ap, ◌∙◌}
use Rattle.ib_core.specs.declared.phase.Phase.{Phase}
use Rattle.ib_core.specs.declared.phase.Phase.TheVariants.{NextArmed}
use Rattle.ib_rule.specs.Afterwards.{ex_loaded, phased, with_wait}
use Rattle.ib_rule.specs.Pass.{with_view}
use Rattle.ib_latch.proofs.Stills.{looked_after, waited_still}
use Rattle.ib_latch.proofs.waiting.Latches+L+Parkers.wait_for_readers.Goals as goal

pub returns-in-Some : goal.returns-in-Some
returns-in-Some g c =
    let p = c.args.pass.now in
    let n = c.load_ex_gen-generation.result in
    looked_after c.args.self.now (NextArmed c.args.latch.0 c.args.level n) c.args.latch.0 c.args.level c.verify_or_sleep-owned.result p c.load_ex_gen-generation.new.pass c.verify_or_sleep-owned.new.pass
    (waited_still (NextArmed c.args.latch.0 c.args.level n) p c.load_ex_gen-generation.new.pass
    (c.load_ex_gen-generation.ensures.same ∙ ap (λ (f : Phase). with_view p (with_wait (phased (ex_loaded n f) p.view))) c.requires.next.phase))
    c.verify_or_sleep-owned.ensures

pub returns-in_default : goal.returns-in_default
returns-in_default g c =
    let p = c.args.pass.now in
    let n = c.load_ex_gen-generation.result in
    looked_after c.args.self.now (NextArmed c.args.latch.0 c.args.level n) c.args.latch.0 c.args.level c.verify_or_sleep-owned.result p c.load_ex_gen-generation.new.pass c.verify_or_sleep-owned.new.pass
    (waited_still (NextArmed c.args.latch.0 c.args.level n) p c.load_ex_gen-generation.new.pass
    (c.load_ex_gen-generation.ensures.same ∙ ap (λ (f : Phase). with_view p (with_wait (phased (ex_loaded n f) p.view))) c.requires.next.phase))
    c.verify_or_sleep-owned.ensures
