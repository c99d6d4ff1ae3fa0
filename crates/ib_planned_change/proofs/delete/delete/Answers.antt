-- The leaf says what the map has of the key.
use Rattle.std.specs.Prelude.{IsSome}
use Rattle.std.proofs.Common.{◌≡◌, ◌∙◌, ◌-◌, List, ap, sym, subst, arith, length, get_or, refl}
use Rattle.ib_map.specs.Pairs.{value_at}
use Rattle.ib_planned_log.specs.LeafChange.{kept_pages, leaf_after}
use Rattle.ib_logrec.specs.declared.entry.Entry.{Entry}
use Rattle.ib_planned_change.specs.Copies.{IsBehind}
use Rattle.ib_planned_change.proofs.DescentLaws.{way-end, way-length}
use Rattle.ib_planned_change.proofs.LeafLaws.{leaf-records, leaf-tree, leaf-within}
use Rattle.ib_planned_change.proofs.MadeLaws.{unmade-delete}
use Rattle.ib_planned_change.proofs.delete.delete.Goals as goal
use Rattle.ib_planned_change.proofs.delete.delete.Goals.{After-len, After-get}

leaf-at : (c : After-len) (log : List Entry) → IsBehind log c.args.images.now → get_or c.pages.result.now (c.len.result - 1) 0 ≡ leaf_after (length c.args.images.now) log c.args.key
leaf-at c log b =
    ap (λ ps. get_or ps (c.len.result - 1) 0) c.pages.ensures.pages
    ∙ (ap (λ n. get_or c.path_to-path.result (n - 1) 0) c.len.ensures.count ∙ way-end log c.args.images.now b c.args.key c.path_to-path.result (c.path_to-path.ensures log b))

leaf-is : (c : After-get) (log : List Entry) → IsBehind log c.args.images.now → get_or c.pages.result.now (c.len.result - 1) 0 ≡ leaf_after (length c.args.images.now) log c.args.key
leaf-is c log b =
    ap (λ ps. get_or ps (c.len.result - 1) 0) c.pages.ensures.pages
    ∙ (ap (λ n. get_or c.path_to-path.result (n - 1) 0) c.len.ensures.count ∙ way-end log c.args.images.now b c.args.key c.path_to-path.result (c.path_to-path.ensures log b))

found : (c : After-get) (log : List Entry) → IsBehind log c.args.images.now → value_at c.args.key (kept_pages (length c.args.images.now) log (get_or c.pages.result.now (c.len.result - 1) 0)).records ≡ c.get.result
found c log b =
    ap (value_at c.args.key) (sym (leaf-records log c.args.images.now b c.args.key (get_or c.pages.result.now (c.len.result - 1) 0) (leaf-is c log b) c.image_at.result.now c.image_at.ensures.image)) ∙ sym c.get.ensures

pub overflow_sub-leaf : goal.overflow_sub-leaf
overflow_sub-leaf c =
    let s = c.requires in let l = way-length s.0 c.args.images.now s.1 c.args.key c.path_to-path.result (c.path_to-path.ensures s.0 s.1) in let n = c.len.ensures.count in omega arith

pub bounds-pages-len : goal.bounds-pages-len
bounds-pages-len c =
    let s = c.requires in let l = way-length s.0 c.args.images.now s.1 c.args.key c.path_to-path.result (c.path_to-path.ensures s.0 s.1) in let n = c.len.ensures.count in
    let e = ap length c.pages.ensures.pages in omega arith

pub image_at-requires : goal.image_at-requires
image_at-requires c = let s = c.requires in leaf-within s.0 c.args.images.now s.1 c.args.key (get_or c.pages.result.now (c.len.result - 1) 0) (leaf-at (goal.at.image_at-requires c).After-len s.0 s.1)

pub get-requires : goal.get-requires
get-requires c =
    let s = c.requires in
    leaf-tree s.0 c.args.images.now s.1 c.args.key (get_or c.pages.result.now (c.len.result - 1) 0) (leaf-at (goal.at.get-requires c).After-len s.0 s.1) c.image_at.result.now c.image_at.ensures.image

pub returns-in-None-clause-refused : goal.returns-in-None-clause-refused
returns-in-None-clause-refused c = λ log b.
    let at = goal.at.returns-in-None-clause-refused c in
    unmade-delete log c.args.images.now b c.args.key (get_or c.pages.result.now (c.len.result - 1) 0) (leaf-is at.After-get log b) (found at.After-get log b ∙ c.in-None.is)

pub delete_found-requires-clause-leaf : goal.delete_found-requires-clause-leaf
delete_found-requires-clause-leaf c = λ log b.
    let at = goal.at.delete_found-requires-clause-leaf c in
    (leaf-is at.After-get log b, subst IsSome (sym (found at.After-get log b ∙ c.in-Some.is)) refl)
