-- The path's pages are those of a tree, and its last one is the key's leaf.
use Rattle.std.proofs.Common.{◌≡◌, ◌∙◌, ◌-◌, ◌<◌, ap, sym, subst, arith, length, get_or}
use Rattle.std.specs.List.{All}
use Rattle.ib_planned_log.specs.LeafChange.{kept_pages}
use Rattle.ib_planned_change.specs.Copies.{AreCopies}
use Rattle.ib_planned_change.specs.Steps.{HasBehind, IsBeforeTree}
use Rattle.ib_planned_change.proofs.BehindLaws.{tree-within}
use Rattle.ib_planned_change.proofs.CopyLaws.{copies-none}
use Rattle.ib_planned_change.proofs.DescentLaws.{leaf-before, way-end, way-ends, way-length, way-trees}
use Rattle.ib_planned_change.proofs.insert.copy_path.Goals as goal
use Rattle.ib_planned_change.proofs.insert.copy_path.Goals.{After-len-2}

-- the page that was taken for the last one is at the path's end
end-at : (c : After-len-2) → get_or c.pages-2.result.now (c.len-2.result - 1) 0 ≡ get_or c.args.path.now (length c.args.path.now - 1) 0
end-at c = ap (λ ps. get_or ps (c.len-2.result - 1) 0) c.pages-2.ensures.pages ∙ ap (λ n. get_or c.args.path.now (n - 1) 0) c.len-2.ensures.count

pub copy_all-requires-clause-pages : goal.copy_all-requires-clause-pages
copy_all-requires-clause-pages c =
    let s = c.requires.some in
    subst (All (λ page. page < length c.args.images.now)) (sym c.pages.ensures.pages)
    (way-trees s.0 c.args.images.now s.1 c.args.key c.args.path.now (c.requires.path s.0 s.1) (λ page. page < length c.args.images.now) (tree-within s.0 c.args.images.now s.1))

pub overflow_sub-len : goal.overflow_sub-len
overflow_sub-len c =
    let s = c.requires.some in let l = way-length s.0 c.args.images.now s.1 c.args.key c.args.path.now (c.requires.path s.0 s.1) in let n = c.len-2.ensures.count in omega arith

pub bounds-pages-len : goal.bounds-pages-len
bounds-pages-len c =
    let s = c.requires.some in let l = way-length s.0 c.args.images.now s.1 c.args.key c.args.path.now (c.requires.path s.0 s.1) in let n = c.len-2.ensures.count in
    let e = ap length c.pages-2.ensures.pages in omega arith

pub copy_behind-requires-clause-trees : goal.copy_behind-requires-clause-trees
copy_behind-requires-clause-trees c = λ log b.
    subst (IsBeforeTree (kept_pages (length c.args.images.now) log)) (sym (end-at (goal.at.copy_behind-requires-clause-trees c).After-len-2 ∙ way-end log c.args.images.now b c.args.key c.args.path.now (c.requires.path log b)))
    (leaf-before log c.args.images.now b c.args.key)

pub returns-clause-copies : goal.returns-clause-copies
returns-clause-copies c =
    c.copy.ensures.copied.copies (c.copy_behind.ensures.copied.copies (c.copy_all.ensures.copied.copies (subst (AreCopies c.args.images.now) (sym c.clear.ensures.none) (copies-none c.args.images.now))))

pub returns-clause-behind : goal.returns-clause-behind
returns-clause-behind c = λ log b.
    subst (HasBehind (kept_pages (length c.args.images.now) log) c.copy.new.work) (end-at (goal.at.returns-clause-behind c).After-len-2 ∙ way-ends log c.args.images.now b c.args.key c.args.path.now (c.requires.path log b))
    (λ ne. c.copy.ensures.copied.kept _ (c.copy_behind.ensures.behind log b ne))
