use Rattle.std.proofs.Common.{◌-◌, vec_len, arith, ap, [], ◌++◌, ◌∙◌, replicate}
use Rattle.ib_script.specs.Lists.{lists_of}
use Rattle.ib_script.proofs.ListsGrow.{length-lists, lists-more}
use Rattle.ib_script.proofs.lists.add_sessions.Goals as goal

pub loop-alloc-preserved : goal.loop-alloc-preserved
loop-alloc-preserved c =
    let kept = c.loop-alloc.invariant in
    let len = c.in_ok-push.ensures.len in
    record {
      lists = rw c.in_ok-push.ensures.items (lists-more c.loop-alloc.lists.items (lists_of c.args.lists.now.items) (vec_len c.loop-alloc.lists - vec_len c.args.lists.now)
          (vec_len c.push.new.self - vec_len c.args.lists.now) c.new.result kept.lists c.new.ensures.items (omega (arith, len)));
      at_least = omega (arith, len);
      at_most = omega (arith, len);
    }

pub returns-clause-lists : goal.returns-clause-lists
returns-clause-lists c =
    let kept = c.loop-alloc.invariant in
    let was = length-lists c.args.lists.now.items in
    kept.lists ∙ ap (λ n. lists_of c.args.lists.now.items ++ replicate n []) (omega (arith, c.args.lists.now.ok.0))
