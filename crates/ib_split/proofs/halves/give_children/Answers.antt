-- Two records are put in behind each other, as into a page that is filled.
use Rattle.std.proofs.Common.{◌≡◌, ◌<◌, ◌∙◌, ℕ, ◌+◌, [], ◌∷◌, length, refl, ap, sym, subst, None, arith}
use Rattle.std.proofs.lemmas.Bool.{lt-ltb, ne_eqb}
use Rattle.ib_map.specs.Keys.{rank}
use Rattle.ib_map.specs.Pairs.{Pairs, put, index_of, value_at}
use Rattle.ib_heap.specs.Filled.{filled}
use Rattle.ib_heap.specs.Heap.{read_heap}
use Rattle.ib_heap.specs.Put.{put_in}
use Rattle.ib_heap.proofs.FilledLaws.{filled-more}
use Rattle.ib_page.specs.Page.{PageValue, HoldsTree, page_in}
use Rattle.ib_page.specs.Page.PageValue.{Malformed, Free, Tree}
use Rattle.ib_page.specs.Form.{page_of}
use Rattle.ib_page.specs.Image.{records_of, value_with_records, with_level}
use Rattle.ib_split.proofs.HalfLaws.{put-done, records-with_level, records-with_records}
use Rattle.ib_split.proofs.halves.give_children.Goals as goal

-- a page of the tree at another level is one still
tree-level : (v w : PageValue) (level : ℕ) → HoldsTree v → w ≡ with_level level v → HoldsTree w
tree-level (Tree p) w level tree is = subst HoldsTree (sym is) tt
tree-level (Free clock) w level tree is = absurd tree
tree-level Malformed w level tree is = absurd tree

pub returns-clause-heap : goal.returns-clause-heap
returns-clause-heap c =
    let low = c.least.result in
    let above : rank low < rank c.args.first = rw c.least.ensures c.requires.above in
    let none : records_of c.set_level.new.self ≡ [] = ap (λ v. (page_in v).records) c.set_level.ensures.page ∙ (records-with_level (c.level.result + 1) (page_of c.args.root.now) ∙ c.requires.empty) in
    let first-put : read_heap c.insert.new.self ≡ put_in (index_of low (records_of c.set_level.new.self)) (read_heap c.set_level.new.self) =
    put-done _ c.insert.result low (records_of c.set_level.new.self) (ap (value_at low) none) (let l = ap (λ (rs : Pairs). length rs) none in omega arith)
    c.insert.ensures.duplicate c.insert.ensures.full c.insert.ensures.never_missing c.insert.ensures.heap in
    let one : read_heap c.insert.new.self ≡ filled 1 =
    first-put ∙ (ap (λ (rs : Pairs). put_in (index_of low rs) (read_heap c.set_level.new.self)) none ∙ (ap (put_in 0) (c.set_level.ensures.heap ∙ c.requires.empty_heap) ∙ filled-more 0)) in
    let page : page_of c.insert.new.self ≡ value_with_records (put low c.args.left (records_of c.set_level.new.self)) (page_of c.set_level.new.self) =
    put-done _ c.insert.result low (records_of c.set_level.new.self) (ap (value_at low) none) (let l = ap (λ (rs : Pairs). length rs) none in omega arith)
    c.insert.ensures.duplicate c.insert.ensures.full c.insert.ensures.never_missing c.insert.ensures.inserted in
    let records : records_of c.insert.new.self ≡ (low, c.args.left) ∷ [] =
    ap (λ v. (page_in v).records) page ∙ (records-with_records (page_of c.set_level.new.self) (put low c.args.left (records_of c.set_level.new.self)) (tree-level (page_of c.args.root.now) (page_of c.set_level.new.self) (c.level.result + 1) c.requires.tree c.set_level.ensures.page) ∙ ap (put low c.args.left) none) in
    let behind : index_of c.args.first ((low, c.args.left) ∷ []) ≡ 1 = (let below = lt-ltb (rank low) (rank c.args.first) above in rw below refl) in
    let absent : value_at c.args.first ((low, c.args.left) ∷ []) ≡ None = (let other = ne_eqb (rank low) (rank c.args.first) (λ e. omega arith) in rw other refl) in
    let second-put : read_heap c.insert-2.new.self ≡ put_in (index_of c.args.first (records_of c.insert.new.self)) (read_heap c.insert.new.self) =
    put-done _ c.insert-2.result c.args.first (records_of c.insert.new.self) (ap (value_at c.args.first) records ∙ absent) (let l = ap (λ (rs : Pairs). length rs) records in omega arith)
    c.insert-2.ensures.duplicate c.insert-2.ensures.full c.insert-2.ensures.never_missing c.insert-2.ensures.heap in
    c.touch.ensures.heap ∙ (second-put ∙ (ap (λ (rs : Pairs). put_in (index_of c.args.first rs) (read_heap c.insert.new.self)) records
    ∙ (ap (λ n. put_in n (read_heap c.insert.new.self)) behind ∙ (ap (put_in 1) one ∙ filled-more 1))))
