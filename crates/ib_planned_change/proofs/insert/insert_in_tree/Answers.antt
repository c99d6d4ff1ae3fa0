-- All that the insert reads and writes was copied, and it is planned.
use Rattle.std.specs.List.{All}
use Rattle.std.proofs.Common.{◌≡◌, ◌∙◌, ◌-◌, ◌<◌, ◌≤◌, ap, sym, subst, arith, length}
use Rattle.ib_plans.specs.Agreement.{IsThere, last_of}
use Rattle.ib_planned_log.specs.LeafChange.{kept_pages}
use Rattle.ib_planned_change.specs.Changes.{most_changed}
use Rattle.ib_planned_change.proofs.ChooseLaws.{can-insert, chosen-inside, done, insert-done, insert-missing}
use Rattle.ib_planned_change.proofs.CopyLaws.{all-kept}
use Rattle.ib_planned_change.proofs.DescentLaws.{path-low, way-ends, way-length}
use Rattle.ib_planned_change.proofs.insert.insert_in_tree.Goals as goal
use Rattle.ib_planned_change.proofs.insert.insert_in_tree.Goals.{After-copy_all, After-pages}

short : (c : After-pages) → length c.args.path.now ≤ 8
short c =
    let s = c.requires.some in let l = way-length s.0 c.args.images.now s.1 c.args.key c.args.path.now (c.requires.path s.0 s.1) in let low = path-low s.0 c.args.images.now s.1 c.args.key in omega arith

pub copy_all-requires-clause-pages : goal.copy_all-requires-clause-pages
copy_all-requires-clause-pages c =
    let s = c.requires.some in
    subst (All (λ page. page < length c.args.images.now)) (sym (c.pages.ensures.pages ∙ (c.in_ok-fresh.ensures.fresh s.0 s.1).1.chosen_are)) (chosen-inside _ (length c.args.images.now) _)

pub copy_all-requires-clause-room : goal.copy_all-requires-clause-room
copy_all-requires-clause-room c =
    let s = short (goal.at.copy_all-requires-clause-room c).After-pages in let n = c.copy_path.ensures.count in let f = c.in_ok-fresh.ensures.few in let e = ap length c.pages.ensures.pages in omega arith

path-there : (c : After-copy_all) → All (IsThere c.copy_all.new.work) c.args.path.now
path-there c = all-kept c.args.images.now (length c.pages.result.now) c.copy_path.new.work c.copy_all.new.work c.copy_all.ensures.copied c.args.path.now c.copy_path.ensures.path

leaf-there : (c : After-copy_all) → IsThere c.copy_all.new.work (last_of c.args.path.now)
leaf-there c =
    let s = c.requires.some in
    let l = way-length s.0 c.args.images.now s.1 c.args.key c.args.path.now (c.requires.path s.0 s.1) in
    subst (IsThere c.copy_all.new.work) (way-ends s.0 c.args.images.now s.1 c.args.key c.args.path.now (c.requires.path s.0 s.1)) (path-there c (length c.args.path.now - 1) 0 (omega arith))

fresh-there : (c : After-copy_all) → All (IsThere c.copy_all.new.work) c.in_ok-fresh.fresh
fresh-there c = subst (All (IsThere c.copy_all.new.work)) c.pages.ensures.pages c.copy_all.ensures.there

pub plan_insert-requires : goal.plan_insert-requires
plan_insert-requires c =
    let s = c.requires.some in
    let f = c.in_ok-fresh.ensures.fresh s.0 s.1 in
    let at = (goal.at.plan_insert-requires c).After-copy_all in
    can-insert s.0 c.args.images.now s.1 c.args.key c.args.path.now (c.requires.path s.0 s.1) c.copy_all.new.work (c.copy_all.ensures.copied.copies c.copy_path.ensures.copies) (path-there at) (leaf-there at)
    (λ ne. c.copy_all.ensures.copied.kept _ (c.copy_path.ensures.behind s.0 s.1 ne)) (c.copy_all.ensures.copied.kept 0 c.copy_path.ensures.space) c.in_ok-fresh.fresh (fresh-there at) f.0 f.1

pub returns-clause-planned : goal.returns-clause-planned
returns-clause-planned c = λ log b.
    let f = c.in_ok-fresh.ensures.fresh log b in
    let at = (goal.at.returns-clause-planned c).After-copy_all in
    let copies = c.copy_all.ensures.copied.copies c.copy_path.ensures.copies in
    let behind = λ (ne : (kept_pages (length c.args.images.now) log (last_of c.args.path.now)).next ≡ 0 → ⊥). c.copy_all.ensures.copied.kept (kept_pages (length c.args.images.now) log (last_of c.args.path.now)).next (c.copy_path.ensures.behind log b ne) in
    let zero = c.copy_all.ensures.copied.kept 0 c.copy_path.ensures.space in
    let missing = insert-missing log c.args.images.now b c.args.key c.args.path.now (c.requires.path log b) c.copy_all.new.work copies (path-there at) (leaf-there at) behind zero c.in_ok-fresh.fresh (fresh-there at) f.0 f.1 (c.requires.missing log b) in
    let planned = done c.plan_insert.result _ _ c.plan_insert.ensures.duplicate missing c.plan_insert.ensures.planned in
    let few : length c.copy_all.new.work ≤ most_changed =
    (let s = short (goal.at.returns-clause-planned c).After-pages in let n = c.copy_path.ensures.count in let g = c.in_ok-fresh.ensures.few in let e = ap length c.pages.ensures.pages in let d = c.copy_all.ensures.copied.count in omega arith) in
    insert-done log c.args.images.now b c.args.key c.args.path.now (c.requires.path log b) c.copy_all.new.work copies (path-there at) (leaf-there at) behind zero c.in_ok-fresh.fresh (fresh-there at) f.0 f.1
    c.args.value c.plan_insert.new.work (c.requires.missing log b) planned c.plan_insert.ensures.reads c.len.ensures.work few
