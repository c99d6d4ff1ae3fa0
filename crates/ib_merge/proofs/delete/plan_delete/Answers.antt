-- The leaf is the last page of the path, and the plan ends with page 0.
use Rattle.std.proofs.Common.{◌≡◌, ◌∙◌, ℕ, ◌-◌, ◌<◌, List, length, get_or, refl, ap, sym, subst, arith, Some}
use Rattle.ib_map.specs.Keys.{MapKey}
use Rattle.ib_map.specs.Pairs.{value_at}
use Rattle.ib_page.specs.Form.{page_of}
use Rattle.ib_page.specs.Image.{IsTreePage, records_of}
use Rattle.ib_page.specs.Work.{WorkPage, changed_of}
use Rattle.ib_plans.specs.Agreement.{SetsBits, IsThere, state_or_free, memory_in, last_of}
use Rattle.ib_plans.proofs.EditLaws.{state-records, there-is}
use Rattle.ib_merge.specs.Deletes.{CanDelete, IsDeleteClimbedForAll, MayGivePages}
use Rattle.ib_merge.proofs.ClimbLaws.{path-some, path-tree, path-there}
use Rattle.ib_merge.proofs.FinishLaws.{may-give, given-reads, planned-all}
use Rattle.ib_plans.proofs.PathListLaws.{last_of-at}
use Rattle.ib_merge.proofs.delete.plan_delete.Goals as goal

-- the leaf, and its image
module _ (path : List ℕ) (key : MapKey) (work : List WorkPage) (can : CanDelete path key work) (pages : List ℕ) (is_path : pages ≡ path) (len : ℕ) (is_len : len ≡ length path) where
  last-in : length path - 1 < length path
  last-in = let some = path-some path key work can in omega arith

  at : get_or pages (len - 1) 0 ≡ get_or path (length path - 1) 0
  at = ap (λ (ps : List ℕ). get_or ps (len - 1) 0) is_path ∙ ap (λ n. get_or path (n - 1) 0) is_len

  in-pages : len - 1 < length pages
  in-pages = let some = path-some path key work can in let e = ap length is_path in omega arith

  is-there : IsThere work (get_or pages (len - 1) 0)
  is-there = subst (λ n. IsThere work n) (sym at) (path-there path key work can (length path - 1) last-in)

  module _ (image : List ℕ) (is : changed_of (get_or pages (len - 1) 0) work ≡ Some image) where
    leaf-there : changed_of (get_or path (length path - 1) 0) work ≡ Some image
    leaf-there = ap (λ n. changed_of n work) (sym at) ∙ is

    leaf-tree : IsTreePage image
    leaf-tree = there-is _ image leaf-there (path-tree path key work can (length path - 1) last-in)

    leaf-records : records_of image ≡ (memory_in work (last_of path)).records
    leaf-records =
        sym (state-records (page_of image)) ∙ (ap (λ o. (state_or_free o).records) (sym leaf-there)
        ∙ ap (λ n. (memory_in work n).records) (last_of-at path (length path - 1) (let some = path-some path key work can in omega arith)))

pub overflow_sub-leaf : goal.overflow_sub-leaf
overflow_sub-leaf c = let some = path-some c.args.path.now c.args.key c.args.work.now c.requires in let e = c.len.ensures.count in omega arith

pub bounds-pages-len : goal.bounds-pages-len
bounds-pages-len c = in-pages c.args.path.now c.args.key c.args.work.now c.requires c.pages.result.now c.pages.ensures.pages c.len.result c.len.ensures.count

pub image_of-requires : goal.image_of-requires
image_of-requires c = is-there c.args.path.now c.args.key c.args.work.now c.requires c.pages.result.now c.pages.ensures.pages c.len.result c.len.ensures.count

pub get-requires : goal.get-requires
get-requires c = leaf-tree c.args.path.now c.args.key c.args.work.now c.requires c.pages.result.now c.pages.ensures.pages c.len.result c.len.ensures.count c.image_of.result.now c.image_of.ensures

pub returns-in_default-clause-missing : goal.returns-in_default-clause-missing
returns-in_default-clause-missing c =
    let e = ap (value_at c.args.key) (leaf-records c.args.path.now c.args.key c.args.work.now c.requires c.pages.result.now c.pages.ensures.pages c.len.result c.len.ensures.count c.image_of.result.now c.image_of.ensures) in
    (λ h. sym e ∙ (sym c.get.ensures ∙ c.in_default.is), λ h. refl)

pub give_pages-requires : goal.give_pages-requires
give_pages-requires c some =
    subst (λ (ps : List ℕ). MayGivePages ps c.climb-freed.new.work) (sym c.pages-3.ensures.pages)
    (may-give c.args.path.now c.args.key c.args.work.now c.requires c.climb-freed.result c.climb-freed.new.work
    (subst (λ (ps : List ℕ). IsDeleteClimbedForAll ps c.args.key c.climb-freed.result c.args.work.now c.climb-freed.new.work) c.pages-2.ensures.pages c.climb-freed.ensures)
    (λ z. some (c.pages-3.ensures.pages ∙ z)))

pub returns-clause-value : goal.returns-clause-value
returns-clause-value c =
    let e = ap (value_at c.args.key) (leaf-records c.args.path.now c.args.key c.args.work.now c.requires c.pages.result.now c.pages.ensures.pages c.len.result c.len.ensures.count c.image_of.result.now c.image_of.ensures) in
    sym e ∙ (sym c.get.ensures ∙ c.in-Some.is)

pub returns-clause-planned : goal.returns-clause-planned
returns-clause-planned c pages roots root memory bits a =
    planned-all c.args.path.now c.args.key c.args.work.now c.requires c.climb-freed.result c.climb-freed.new.work
    (subst (λ (ps : List ℕ). IsDeleteClimbedForAll ps c.args.key c.climb-freed.result c.args.work.now c.climb-freed.new.work) c.pages-2.ensures.pages c.climb-freed.ensures)
    c.give_pages.new.work (λ z. c.give_pages.ensures.none (c.pages-3.ensures.pages ∙ z))
    (λ some. subst (λ (ps : List ℕ). SetsBits 0 ps c.climb-freed.new.work c.give_pages.new.work) c.pages-3.ensures.pages (c.give_pages.ensures.given (λ z. some (sym c.pages-3.ensures.pages ∙ z))))
    pages roots root memory bits a

pub returns-clause-reads : goal.returns-clause-reads
returns-clause-reads c =
    given-reads c.args.path.now c.args.key c.args.work.now c.requires c.climb-freed.result c.climb-freed.new.work
    (subst (λ (ps : List ℕ). IsDeleteClimbedForAll ps c.args.key c.climb-freed.result c.args.work.now c.climb-freed.new.work) c.pages-2.ensures.pages c.climb-freed.ensures)
    c.give_pages.new.work (λ z. c.give_pages.ensures.none (c.pages-3.ensures.pages ∙ z))
    (λ some. subst (λ (ps : List ℕ). SetsBits 0 ps c.climb-freed.new.work c.give_pages.new.work) c.pages-3.ensures.pages (c.give_pages.ensures.given (λ z. some (sym c.pages-3.ensures.pages ∙ z))))

pub returns-clause-missing : goal.returns-clause-missing
returns-clause-missing c =
    let e = ap (value_at c.args.key) (leaf-records c.args.path.now c.args.key c.args.work.now c.requires c.pages.result.now c.pages.ensures.pages c.len.result c.len.ensures.count c.image_of.result.now c.image_of.ensures) in
    let there : value_at c.args.key (memory_in c.args.work.now (last_of c.args.path.now)).records ≡ Some c.in-Some.value = sym e ∙ (sym c.get.ensures ∙ c.in-Some.is) in
    (λ h. absurd (cc), λ h. absurd (cc))
