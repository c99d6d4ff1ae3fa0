-- Node by node down the path.
use Rattle.std.proofs.Common.{◌≡◌, ◌∙◌, ◌+◌, ◌-◌, ◌*◌, ap, sym, subst, arith, length, get_or, inl, inr}
use Rattle.std.proofs.lemmas.Bool.{cases_eq}
use Rattle.ib_merge.proofs.OnPathLaws.{nodes-all}
use Rattle.ib_planned_log.specs.LeafChange.{kept_pages}
use Rattle.ib_planned_change.specs.Copies.{HasCopied}
use Rattle.ib_planned_change.specs.Steps.{HasBeside, last_beside}
use Rattle.ib_planned_change.proofs.CopyLaws.{copied-both, copied-none}
use Rattle.ib_planned_change.proofs.DescentLaws.{root-before, way-at, way-length}
use Rattle.ib_planned_change.proofs.ShrinkLaws.{beside-kept}
use Rattle.ib_planned_change.proofs.delete.copy_all_beside.Goals as goal

pub overflow_sub-depth-end : goal.overflow_sub-depth-end
overflow_sub-depth-end c =
    let s = c.requires.some in let l = way-length s.0 c.args.images.now s.1 c.args.key c.args.path.now (c.requires.path s.0 s.1) in let e = ap length c.pages-pages.ensures.pages in omega arith

pub loop-depth-init : goal.loop-depth-init
loop-depth-init c = record {
  copied = copied-none c.args.images.now (2 * 0) c.args.work.now;
  beside = λ log b i lt. absurd (omega arith);
  before = λ log b. root-before log c.args.images.now b c.args.key;
  last_is = λ log b i e. absurd (omega arith);
}

pub copy_beside-last-requires-clause-node : goal.copy_beside-last-requires-clause-node
copy_beside-last-requires-clause-node c = λ log b.
    let l = way-length log c.args.images.now b c.args.key c.args.path.now (c.requires.path log b) in let e = ap length c.pages-pages.ensures.pages in
    let lt = c.loop-depth-test.true in (
      c.loop-depth.depth,
      omega arith,
      ap (λ ps. get_or ps c.loop-depth.depth 0) c.pages-pages.ensures.pages ∙ way-at log c.args.images.now b c.args.key c.args.path.now (c.requires.path log b) c.loop-depth.depth (omega arith),
    )

pub copy_beside-last-requires-clause-room : goal.copy_beside-last-requires-clause-room
copy_beside-last-requires-clause-room c =
    let e = ap length c.pages-pages.ensures.pages in let lt = c.loop-depth-test.true in let n = c.loop-depth.invariant.copied.count in let r = c.requires.room in omega arith

pub loop-depth-preserved : goal.loop-depth-preserved
loop-depth-preserved c =
    let twice : 2 * c.loop-depth.depth + 2 ≡ 2 * (c.loop-depth.depth + 1) = omega arith in
    record {
      copied = subst (λ n. HasCopied c.args.images.now n c.args.work.now c.copy_beside-last.new.work) twice
          (copied-both c.args.images.now (2 * c.loop-depth.depth) 2 c.args.work.now c.loop-depth.work c.copy_beside-last.new.work c.loop-depth.invariant.copied c.copy_beside-last.ensures.copied);
      beside = λ log b i lt. elim (cases_eq i c.loop-depth.depth) [
        | inl e ↦ subst (λ k. HasBeside (kept_pages (length c.args.images.now) log) c.args.key c.copy_beside-last.new.work (get_or c.pages-pages.result.now k 0)) (sym e) (c.copy_beside-last.ensures.beside log b)
        | inr ne ↦ beside-kept (kept_pages (length c.args.images.now) log) c.args.key c.args.images.now 2 c.loop-depth.work c.copy_beside-last.new.work (get_or c.pages-pages.result.now i 0)
            c.copy_beside-last.ensures.copied (c.loop-depth.invariant.beside log b i (omega (arith, ne, lt)))
      ];
      before = λ log b. (c.copy_beside-last.ensures.last log b).0;
      last_is = λ log b i e.
          let same : i ≡ c.loop-depth.depth = omega arith in
          (c.copy_beside-last.ensures.last log b).1 ∙ ap (λ k. last_beside (kept_pages (length c.args.images.now) log) c.args.key (get_or c.pages-pages.result.now k 0)) (sym same);
    }

pub returns-clause-copied : goal.returns-clause-copied
returns-clause-copied c =
    let e = ap length c.pages-pages.ensures.pages in let ge = c.loop-depth-test.false in let end = c.loop-depth.auto.depth-end in
    let all : 2 * c.loop-depth.depth ≡ 2 * (length c.args.path.now - 1) = omega arith in
    subst (λ n. HasCopied c.args.images.now n c.args.work.now c.loop-depth.work) all c.loop-depth.invariant.copied

pub returns-clause-beside : goal.returns-clause-beside
returns-clause-beside c = λ log b.
    let e = ap length c.pages-pages.ensures.pages in let ge = c.loop-depth-test.false in
    nodes-all (HasBeside (kept_pages (length c.args.images.now) log) c.args.key c.loop-depth.work) c.args.path.now (λ i lt.
    subst (λ ps. HasBeside (kept_pages (length c.args.images.now) log) c.args.key c.loop-depth.work (get_or ps i 0)) c.pages-pages.ensures.pages (c.loop-depth.invariant.beside log b i (omega arith)))

pub returns-clause-last : goal.returns-clause-last
returns-clause-last c = λ log b.
    let e = ap length c.pages-pages.ensures.pages in let ge = c.loop-depth-test.false in let end = c.loop-depth.auto.depth-end in (
      c.loop-depth.invariant.before log b,
      λ i two.
          c.loop-depth.invariant.last_is log b i (omega arith) ∙ ap (λ ps. last_beside (kept_pages (length c.args.images.now) log) c.args.key (get_or ps i 0)) c.pages-pages.ensures.pages,
    )
