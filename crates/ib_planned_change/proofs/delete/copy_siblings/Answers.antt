-- All that a delete reads and writes is copied.
use Rattle.std.specs.List.{All}
use Rattle.std.proofs.Common.{◌<◌, ◌≤◌, ap, sym, subst, arith, length}
use Rattle.ib_plans.specs.Agreement.{IsThere}
use Rattle.ib_planned_log.specs.LeafChange.{kept_pages}
use Rattle.ib_planned_change.specs.Copies.{AreCopies}
use Rattle.ib_planned_change.specs.Steps.{HasBehind}
use Rattle.ib_planned_change.proofs.BehindLaws.{tree-within}
use Rattle.ib_planned_change.proofs.CopyLaws.{copies-none}
use Rattle.ib_planned_change.proofs.DescentLaws.{path-low, way-length, way-trees}
use Rattle.ib_planned_change.proofs.ShrinkLaws.{beside-kept}
use Rattle.ib_planned_change.proofs.delete.copy_siblings.Goals as goal
use Rattle.ib_planned_change.proofs.delete.copy_siblings.Goals.{After-copy_all}

short : (c : After-copy_all) → length c.args.path.now ≤ 8
short c =
    let s = c.requires.some in let l = way-length s.0 c.args.images.now s.1 c.args.key c.args.path.now (c.requires.path s.0 s.1) in let low = path-low s.0 c.args.images.now s.1 c.args.key in omega arith

few : (c : After-copy_all) → length c.copy_all.new.work ≤ length c.args.path.now
few c = let n = c.copy_all.ensures.copied.count in let z = ap length c.clear.ensures.none in let e = ap length c.pages.ensures.pages in omega arith

pub copy_all-requires-clause-pages : goal.copy_all-requires-clause-pages
copy_all-requires-clause-pages c =
    let s = c.requires.some in
    subst (All (λ page. page < length c.args.images.now)) (sym c.pages.ensures.pages)
    (way-trees s.0 c.args.images.now s.1 c.args.key c.args.path.now (c.requires.path s.0 s.1) (λ page. page < length c.args.images.now) (tree-within s.0 c.args.images.now s.1))

pub copy_all_beside-last-requires-clause-room : goal.copy_all_beside-last-requires-clause-room
copy_all_beside-last-requires-clause-room c = let at = (goal.at.copy_all_beside-last-requires-clause-room c).After-copy_all in let s = short at in let f = few at in omega arith

pub copy_behind-requires-clause-trees : goal.copy_behind-requires-clause-trees
copy_behind-requires-clause-trees c = λ log b. (c.copy_all_beside-last.ensures.last log b).0

pub copy_behind-requires-clause-room : goal.copy_behind-requires-clause-room
copy_behind-requires-clause-room c =
    let at = (goal.at.copy_behind-requires-clause-room c).After-copy_all in let s = short at in let f = few at in let n = c.copy_all_beside-last.ensures.copied.count in omega arith

pub copy-requires-clause-room : goal.copy-requires-clause-room
copy-requires-clause-room c =
    let at = (goal.at.copy-requires-clause-room c).After-copy_all in let s = short at in let f = few at in let n = c.copy_all_beside-last.ensures.copied.count in let d = c.copy_behind.ensures.copied.count in omega arith

pub returns-clause-copies : goal.returns-clause-copies
returns-clause-copies c =
    c.copy.ensures.copied.copies (c.copy_behind.ensures.copied.copies (c.copy_all_beside-last.ensures.copied.copies (c.copy_all.ensures.copied.copies (subst (AreCopies c.args.images.now) (sym c.clear.ensures.none) (copies-none c.args.images.now)))))

pub returns-clause-path : goal.returns-clause-path
returns-clause-path c = λ k d lt.
    let e = ap length c.pages.ensures.pages in
    c.copy.ensures.copied.kept _ (c.copy_behind.ensures.copied.kept _ (c.copy_all_beside-last.ensures.copied.kept _
    (subst (All (IsThere c.copy_all.new.work)) c.pages.ensures.pages c.copy_all.ensures.there k d lt)))

pub returns-clause-beside : goal.returns-clause-beside
returns-clause-beside c = λ log b k d lt.
    beside-kept (kept_pages (length c.args.images.now) log) c.args.key c.args.images.now 1 c.copy_behind.new.work c.copy.new.work _ c.copy.ensures.copied
    (beside-kept (kept_pages (length c.args.images.now) log) c.args.key c.args.images.now 1 c.copy_all_beside-last.new.work c.copy_behind.new.work _ c.copy_behind.ensures.copied
    (c.copy_all_beside-last.ensures.beside log b k d lt))

pub returns-clause-behind : goal.returns-clause-behind
returns-clause-behind c = λ log b i two.
    subst (HasBehind (kept_pages (length c.args.images.now) log) c.copy.new.work) ((c.copy_all_beside-last.ensures.last log b).1 i two) (λ ne. c.copy.ensures.copied.kept _ (c.copy_behind.ensures.behind log b ne))

pub returns-clause-count : goal.returns-clause-count
returns-clause-count c =
    let at = (goal.at.returns-clause-count c).After-copy_all in let f = few at in let n = c.copy_all_beside-last.ensures.copied.count in let d = c.copy_behind.ensures.copied.count in let g = c.copy.ensures.copied.count in
    let s = c.requires.some in let l = way-length s.0 c.args.images.now s.1 c.args.key c.args.path.now (c.requires.path s.0 s.1) in omega arith
