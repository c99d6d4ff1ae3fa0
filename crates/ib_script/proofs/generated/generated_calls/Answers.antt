-- One command more.
use Rattle.std.proofs.Common.{◌≡◌, ◌∙◌, ◌+◌, ◌++◌, ◌∷◌, [], ap, length, length-append}
use Rattle.std.specs.Prelude.{slice_get}
use Rattle.ib_script.specs.Generated.{call_at}
use Rattle.ib_script.proofs.GeneratedLaws.{known-push}
use Rattle.ib_script.proofs.generated.generated_calls.Goals as goal

pub loop-at-preserved : goal.loop-at-preserved
loop-at-preserved c =
    let calls = c.loop-at.calls.items in let inv = c.loop-at.invariant in
    let pushed : c.push.new.self.items ≡ calls ++ c.call_at.result ∷ [] = c.in_ok-push.ensures.items in
    record {
      load = c.requires.load;
      count = ap length pushed ∙ length-append calls (c.call_at.result ∷ []) ∙ ap (λ n. n + 1) inv.count;
      all = c.share_of-at-end.ensures.share;
      calls = λ at lt. ap (λ xs. slice_get xs at) pushed ∙ known-push (call_at c.args.load c.args.session) calls c.call_at.result c.loop-at.at inv.count c.call_at.ensures inv.calls at lt;
    }
