use Rattle.std.proofs.Common.{refl, subst, sym}
use Rattle.ib_map.specs.declared.call.Call.TheVariants.{Insert, Delete, Get}
use Rattle.ib_layout.specs.Geometry.{Sizes}
use Rattle.ib_rule.specs.Space.{SpaceState}
use Rattle.ib_leaf.specs.Calls.{CallLaw}
use Rattle.ib_runs.specs.Answers.{KeptAnswers, IsWhole}
use Rattle.ib_runs.specs.Shared.{calls_under}
use Rattle.ib_runs.specs.Steps.{HasOneMore}
use Rattle.ib_runs.proofs.AnswerLaws.{call_more_as}
use Rattle.ib_runs.proofs.session.answer.Goals as goal
use Rattle.ib_runs.proofs.session.answer.Goals.{in-Get, in-Insert, in-Delete}

pub returns-clause-more : goal.returns-clause-more
returns-clause-more g c =
    let guesses = g.A.Access.guesses in
    let space : SpaceState = g.S.Shared.space c.args.shared.now in
    let sizes : Sizes = space.sizes in
    let law : CallLaw = calls_under g.S.Shared.law sizes in
    let fits = c.laws.ensures.records sizes in
    let old : KeptAnswers = record { records = c.out.inside.records.items; chunks = c.out.inside.chunks } in
    let new : KeptAnswers = record { records = c.push.new.self.items; chunks = c.out.inside.chunks } in
    let whole = subst IsWhole (sym c.out.view_is) c.requires.whole in
    subst (λ (o : KeptAnswers). HasOneMore law guesses sizes c.args.call o new c.args.pass.now c.match-call.pass) c.out.view_is
    (elim c.match-call.branch [
      | in-Get w ↦
          let h = w.get-record.ensures in
          call_more_as law fits guesses sizes c.args.call (Get w.in-Get.key) c.match-call.record w.get-record.result old new c.args.pass.now c.match-call.pass w.get-record.new.pass w.in-Get.is w.record-is w.pass-is tt whole
          c.in_ok-push.ensures.items refl h.called h.takes
      | in-Insert w ↦
          let h = w.insert-record.ensures in
          call_more_as law fits guesses sizes c.args.call (Insert w.in-Insert.key w.in-Insert.value) c.match-call.record w.insert-record.result old new c.args.pass.now c.match-call.pass w.insert-record.new.pass w.in-Insert.is w.record-is w.pass-is tt whole
          c.in_ok-push.ensures.items refl h.called h.takes
      | in-Delete w ↦
          let h = w.delete-record.ensures in
          call_more_as law fits guesses sizes c.args.call (Delete w.in-Delete.key) c.match-call.record w.delete-record.result old new c.args.pass.now c.match-call.pass w.delete-record.new.pass w.in-Delete.is w.record-is w.pass-is tt whole
          c.in_ok-push.ensures.items refl h.called h.takes
    ])
