-- The leaf says what the map has of the key, and whether there is room.
use Rattle.std.specs.Prelude.{is_some}
use Rattle.std.proofs.Common.{◌≡◌, ◌∙◌, ◌-◌, List, None, true, ap, sym, subst, arith, length, get_or}
use Rattle.ib_map.specs.Pairs.{Pairs, value_at}
use Rattle.ib_page.specs.Image.{records_of}
use Rattle.ib_planned_log.specs.LeafChange.{kept_pages, leaf_after}
use Rattle.ib_logrec.specs.declared.entry.Entry.{Entry}
use Rattle.ib_planned_change.specs.Copies.{IsBehind}
use Rattle.ib_planned_change.proofs.DescentLaws.{way-end, way-last, way-length}
use Rattle.ib_planned_change.proofs.LeafLaws.{leaf-formed, leaf-records, leaf-tree, leaf-within, no-value}
use Rattle.ib_planned_change.proofs.MadeLaws.{made-insert, unmade-insert}
use Rattle.ib_planned_change.proofs.insert.insert.Goals as goal
use Rattle.ib_planned_change.proofs.insert.insert.Goals.{After-len, After-image_at-image}

-- the last page of the path is the key's leaf
leaf-at : (c : After-len) (log : List Entry) → IsBehind log c.args.images.now → get_or c.pages.result.now (c.len.result - 1) 0 ≡ leaf_after (length c.args.images.now) log c.args.key
leaf-at c log b =
    ap (λ ps. get_or ps (c.len.result - 1) 0) c.pages.ensures.pages
    ∙ (ap (λ n. get_or c.path_to-path.result (n - 1) 0) c.len.ensures.count ∙ way-end log c.args.images.now b c.args.key c.path_to-path.result (c.path_to-path.ensures log b))

pub overflow_sub-leaf : goal.overflow_sub-leaf
overflow_sub-leaf c =
    let s = c.requires in let l = way-length s.0 c.args.images.now s.1 c.args.key c.path_to-path.result (c.path_to-path.ensures s.0 s.1) in let n = c.len.ensures.count in omega arith

pub bounds-pages-len : goal.bounds-pages-len
bounds-pages-len c =
    let s = c.requires in let l = way-length s.0 c.args.images.now s.1 c.args.key c.path_to-path.result (c.path_to-path.ensures s.0 s.1) in let n = c.len.ensures.count in
    let e = ap length c.pages.ensures.pages in omega arith

pub image_at-image-requires : goal.image_at-image-requires
image_at-image-requires c = let s = c.requires in leaf-within s.0 c.args.images.now s.1 c.args.key (get_or c.pages.result.now (c.len.result - 1) 0) (leaf-at (goal.at.image_at-image-requires c).After-len s.0 s.1)

pub get-requires : goal.get-requires
get-requires c =
    let s = c.requires in
    leaf-tree s.0 c.args.images.now s.1 c.args.key (get_or c.pages.result.now (c.len.result - 1) 0) (leaf-at (goal.at.get-requires c).After-len s.0 s.1) c.image_at-image.result.now c.image_at-image.ensures.image

-- .. behind its image
leaf-is : (c : After-image_at-image) (log : List Entry) → IsBehind log c.args.images.now → get_or c.pages.result.now (c.len.result - 1) 0 ≡ leaf_after (length c.args.images.now) log c.args.key
leaf-is c log b =
    ap (λ ps. get_or ps (c.len.result - 1) 0) c.pages.ensures.pages
    ∙ (ap (λ n. get_or c.path_to-path.result (n - 1) 0) c.len.ensures.count ∙ way-end log c.args.images.now b c.args.key c.path_to-path.result (c.path_to-path.ensures log b))

-- the records of the leaf
records : (c : After-image_at-image) (log : List Entry) (b : IsBehind log c.args.images.now) → records_of c.image_at-image.result.now ≡ (kept_pages (length c.args.images.now) log (get_or c.pages.result.now (c.len.result - 1) 0)).records
records c log b = leaf-records log c.args.images.now b c.args.key (get_or c.pages.result.now (c.len.result - 1) 0) (leaf-is c log b) c.image_at-image.result.now c.image_at-image.ensures.image

pub returns-then-is_some-clause-refused : goal.returns-then-is_some-clause-refused
returns-then-is_some-clause-refused c = λ log b.
    let at = goal.at.returns-then-is_some-clause-refused c in
    let has : is_some (value_at c.args.key (kept_pages (length c.args.images.now) log (get_or c.pages.result.now (c.len.result - 1) 0)).records) ≡ true =
    ap (λ (rs : Pairs). is_some (value_at c.args.key rs)) (sym (records at.After-image_at-image log b)) ∙ (ap is_some (sym c.get.ensures) ∙ (sym c.is_some.ensures ∙ c.if-is_some.true)) in
    unmade-insert log c.args.images.now b c.args.key (get_or c.pages.result.now (c.len.result - 1) 0) (leaf-is at.After-image_at-image log b) c.args.value has

pub len-requires-2 : goal.len-requires-2
len-requires-2 c =
    let s = c.requires in
    leaf-formed s.0 c.args.images.now s.1 c.args.key (get_or c.pages.result.now (c.len.result - 1) 0) (leaf-is (goal.at.len-requires-2 c).After-image_at-image s.0 s.1) c.image_at-image.result.now c.image_at-image.ensures.image

pub insert_in_leaf-requires-clause-leaf : goal.insert_in_leaf-requires-clause-leaf
insert_in_leaf-requires-clause-leaf c = λ log b.
    let at = goal.at.insert_in_leaf-requires-clause-leaf c in
    let same = records at.After-image_at-image log b in
    let none = ap (value_at c.args.key) (sym same) ∙ (sym c.get.ensures ∙ no-value c.get.result (sym c.is_some.ensures ∙ c.if-is_some.false)) in
    let count = ap (λ (rs : Pairs). length rs) same in
    let n = c.len-2.ensures.count in
    (leaf-is at.After-image_at-image log b, (none, omega arith))

pub insert_in_tree-requires-clause-missing : goal.insert_in_tree-requires-clause-missing
insert_in_tree-requires-clause-missing c = λ log b.
    let at = goal.at.insert_in_tree-requires-clause-missing c in
    let last = leaf-is at.After-image_at-image log b ∙ sym (way-last log c.args.images.now b c.args.key c.path_to-path.result (c.path_to-path.ensures log b)) in
    let none = ap (value_at c.args.key) (sym (records at.After-image_at-image log b)) ∙ (sym c.get.ensures ∙ no-value c.get.result (sym c.is_some.ensures ∙ c.if-is_some.false)) in
    subst (λ n. value_at c.args.key (kept_pages (length c.args.images.now) log n).records ≡ None) last none

pub returns-in-Err-clause-refused : goal.returns-in-Err-clause-refused
returns-in-Err-clause-refused c = λ log b.
    let at = goal.at.returns-in-Err-clause-refused c in
    let none = ap (value_at c.args.key) (sym (records at.After-image_at-image log b)) ∙ (sym c.get.ensures ∙ no-value c.get.result (sym c.is_some.ensures ∙ c.if-is_some.false)) in
    (made-insert log c.args.images.now b c.args.key (get_or c.pages.result.now (c.len.result - 1) 0) (leaf-is at.After-image_at-image log b) c.args.value none, c.in-Err.ensures.refused log c.args.value b)
