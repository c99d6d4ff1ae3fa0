use Rattle.std.proofs.Common.{◌≡◌, ◌+◌, ◌∙◌, List, [], ◌∷◌, ◌++◌, take, get_or, length, ap, sym, subst, arith, refl}
use Rattle.std.proofs.lemmas.List.{nil_from_length, take_more}
use Rattle.ib_map.specs.FullRecords.{total_chunks}
use Rattle.ib_map.specs.Replies.{FullRecord}
use Rattle.ib_map.specs.declared.call.Call.{Call}
use Rattle.ib_layout.specs.Geometry.{Sizes}
use Rattle.ib_rule.specs.Views.{total}
use Rattle.ib_rule.specs.Space.{SpaceState}
use Rattle.ib_leaf.specs.Calls.{CallLaw}
use Rattle.ib_runs.specs.Answers.{KeptAnswers, answers_of}
use Rattle.ib_runs.specs.Shared.{calls_under}
use Rattle.ib_runs.specs.Sessions.{HasAnswered, TakesGrants}
use Rattle.ib_runs.specs.Steps.{HasOneMore}
use Rattle.ib_runs.proofs.AnswerLaws.{answered_more, answered_none, known_none}
use Rattle.ib_runs.proofs.GrantLaws.{grants_fit, takes_more, takes_none}
use Rattle.ib_runs.proofs.session.run_session.Goals as goal

pub loop-call-init : goal.loop-call-init
loop-call-init g c =
    let space : SpaceState = g.S.Shared.space c.args.shared.now in
    let sizes : Sizes = space.sizes in
    let law : CallLaw = calls_under g.S.Shared.law sizes in
    let own = c.args.pass.now.view.memory.own in
    let made : own ≡ [] = nil_from_length own (let e = ap length c.requires.nothing_seen in let n = c.made.ensures.made in let s = c.made.ensures.seen in omega arith) in
    let known = known_none law sizes c.args.pass.now c.laws_of.ensures.logs.none c.requires.nothing_seen made in
    record {
      sits = c.requires.sits;
      rest = c.requires.rest;
      same = refl;
      answered = subst (λ (o : KeptAnswers). HasAnswered law sizes [] (answers_of o) c.args.pass.now c.args.pass.now) (sym c.requires.empty) (answered_none law sizes c.args.pass.now known c.requires.nothing_seen made);
      takes = takes_none g.A.Access.guesses c.args.pass.now;
      whole = subst (λ (o : KeptAnswers). total_chunks o.records ≡ length o.chunks.list) (sym c.requires.empty) refl;
      room = let e = ap (λ (o : KeptAnswers). o.chunks.chunk_room) c.requires.empty in omega arith;
      number = refl;
    }

pub answer-requires-clause-taken : goal.answer-requires-clause-taken
answer-requires-clause-taken g c = λ κs live. subst (g.S.Shared.takes) (sym c.call-item.is) (c.requires.taken c.loop-call.call-index c.call-item.result c.loop-call-test.true)

pub answer-requires-clause-may : goal.answer-requires-clause-may
answer-requires-clause-may g c = λ κs live.
    let i = c.loop-call.invariant in
    let taken = i.takes.most in let none = ap total c.requires.no_grants in
    record {
      rest = i.rest;
      known = i.answered.known;
      few = grants_fit g.A.Access.guesses c.args.commands.now c.loop-call.call-index (total c.loop-call.pass.view.grants) c.requires.few (omega arith);
      room = i.room;
    }

pub loop-call-preserved : goal.loop-call-preserved
loop-call-preserved g c =
    let space : SpaceState = g.S.Shared.space c.args.shared.now in
    let sizes : Sizes = space.sizes in
    let law : CallLaw = calls_under g.S.Shared.law sizes in
    let i = c.loop-call.invariant in
    let calls : List Call = c.args.commands.now in
    let at = c.loop-call.call-index in
    let item : Call = c.call-item.result in
    let call : Call = get_or calls at item in
    let guesses = g.A.Access.guesses in
    let a : HasOneMore law guesses sizes call c.loop-call.out c.answer.new.out c.loop-call.pass c.answer.new.pass =
    subst (λ (it : Call). HasOneMore law guesses sizes it c.loop-call.out c.answer.new.out c.loop-call.pass c.answer.new.pass) c.call-item.is c.in_ok-answer.ensures.more in
    let more = answered_more law c.laws_of.ensures.records sizes call a.r c.args.pass.now c.loop-call.pass c.answer.new.pass a.answered (take at calls) (answers_of c.loop-call.out) i.answered in
    let takes = takes_more guesses call (take at calls) c.args.pass.now c.loop-call.pass c.answer.new.pass i.takes a.takes in
    let next : take at calls ++ call ∷ [] ≡ take (at + 1) calls = sym (take_more calls at item c.loop-call-test.true) in
    record {
      sits = c.answer.ensures.sits;
      rest = c.answer.ensures.still.rest;
      same = c.answer.ensures.still.number ∙ i.same;
      answered = subst (λ (rs : List FullRecord). HasAnswered law sizes (take (at + 1) calls) rs c.args.pass.now c.answer.new.pass) (sym a.answers)
          (subst (λ (ks : List Call). HasAnswered law sizes ks (answers_of c.loop-call.out ++ a.r ∷ []) c.args.pass.now c.answer.new.pass) next more);
      takes = subst (λ (ks : List Call). TakesGrants guesses ks c.args.pass.now c.answer.new.pass) next takes;
      whole = a.whole;
      room = c.answer.ensures.still.room;
      number = let n = i.number in omega arith;
    }
