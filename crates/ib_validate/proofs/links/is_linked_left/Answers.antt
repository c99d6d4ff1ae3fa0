use Rattle.std.proofs.Common.{◌≡◌, ◌∙◌, sym, ap, arith, true, nat_eq}
use Rattle.std.proofs.lemmas.Bool.{eq-eqb, eqb-true}
use Rattle.ib_map.specs.Keys.{rank}
use Rattle.ib_map.proofs.KeyLaws.{rank-least}
use Rattle.ib_walk.specs.Pages.{PageState}
use Rattle.ib_walk.specs.Words.{memory_of}
use Rattle.ib_validate.specs.PageTests.{IsLeafBefore, IsLinkedLeft}
use Rattle.ib_validate.specs.Positions.{position_if, position_in, positions_of}
use Rattle.ib_validate.proofs.MemoryLaws.{memory_of-page}
use Rattle.ib_validate.proofs.PositionLaws.{positions_of-within}
use Rattle.ib_validate.proofs.LinkLaws.{linked-first, linked-left-none, linked-left-some, both-where, both-fails}
use Rattle.ib_validate.proofs.links.is_linked_left.Goals as goal

pub returns-then-is_same : goal.returns-then-is_same
returns-then-is_same c =
    let lt = c.requires.in_range in
    let size = c.requires.size in
    let page = memory_of-page c.args.after.now c.args.page c.page.result (omega arith) c.page.ensures c.prev-prev.ensures.size in
    linked-first (memory_of c.args.after.now) (positions_of c.args.table.now) c.args.page (position_in c.args.at) c.prev-prev.result
    (ap (λ (p : PageState). p.prev) page ∙ sym c.prev-prev.ensures.prev) (let least = ap rank c.least.ensures ∙ rank-least in c.is_same.ensures.same.0 c.if-is_same.true ∙ least)

pub returns-in_default : goal.returns-in_default
returns-in_default c =
    let lt = c.requires.in_range in
    let size = c.requires.size in
    let page = memory_of-page c.args.after.now c.args.page c.page.result (omega arith) c.page.ensures c.prev-prev.ensures.size in
    linked-left-none (memory_of c.args.after.now) (positions_of c.args.table.now) c.args.page (position_in c.args.at) c.prev-prev.result
    (ap (λ (p : PageState). p.prev) page ∙ sym c.prev-prev.ensures.prev) (λ z. let least = ap rank c.least.ensures ∙ rank-least in let t : c.is_same.result ≡ true = c.is_same.ensures.same.1 (z ∙ sym least) in let f = c.if-is_same.false in cc) (sym c.position_at.ensures ∙ ap position_if c.in_default.is)

pub page-requires-then-is_leaf_before : goal.page-requires-then-is_leaf_before
page-requires-then-is_leaf_before c =
    let within = positions_of-within c.args.table.now c.prev-prev.result (position_in c.in-Some.left) (sym c.position_at.ensures ∙ ap position_if c.in-Some.is) in
    let size = c.requires.size in omega arith

pub returns-then-is_leaf_before : goal.returns-then-is_leaf_before
returns-then-is_leaf_before c =
    let lt = c.requires.in_range in
    let size = c.requires.size in
    let m = memory_of c.args.after.now in
    let there = sym c.position_at.ensures ∙ ap position_if c.in-Some.is in
    let within = positions_of-within c.args.table.now c.prev-prev.result (position_in c.in-Some.left) there in
    let page = memory_of-page c.args.after.now c.args.page c.page.result (omega arith) c.page.ensures c.prev-prev.ensures.size in
    let other = memory_of-page c.args.after.now c.prev-prev.result c.page-then-is_leaf_before.result (omega arith) c.page-then-is_leaf_before.ensures c.next.ensures.size in
    let link : (m c.prev-prev.result).next ≡ c.next.result = ap (λ (p : PageState). p.next) other ∙ sym c.next.ensures.next in
    both-where (nat_eq c.next.result c.args.page) (IsLeafBefore (position_in c.in-Some.left) (position_in c.args.at)) ((m c.prev-prev.result).next ≡ c.args.page)
    (IsLinkedLeft m (positions_of c.args.table.now) c.args.page (position_in c.args.at))
    (linked-left-some m (positions_of c.args.table.now) c.args.page (position_in c.args.at) c.prev-prev.result (position_in c.in-Some.left)
    (ap (λ (p : PageState). p.prev) page ∙ sym c.prev-prev.ensures.prev) (λ z. let least = ap rank c.least.ensures ∙ rank-least in let t : c.is_same.result ≡ true = c.is_same.ensures.same.1 (z ∙ sym least) in let f = c.if-is_same.false in cc) there)
    (c.is_leaf_before.ensures.0 c.if-is_leaf_before.true)
    (λ t. link ∙ eqb-true c.next.result c.args.page t, λ e. eq-eqb c.next.result c.args.page (sym link ∙ e))

pub returns-else-is_leaf_before : goal.returns-else-is_leaf_before
returns-else-is_leaf_before c =
    let lt = c.requires.in_range in
    let size = c.requires.size in
    let m = memory_of c.args.after.now in
    let there = sym c.position_at.ensures ∙ ap position_if c.in-Some.is in
    let page = memory_of-page c.args.after.now c.args.page c.page.result (omega arith) c.page.ensures c.prev-prev.ensures.size in
    both-fails c.is_leaf_before.result (IsLeafBefore (position_in c.in-Some.left) (position_in c.args.at)) ((m c.prev-prev.result).next ≡ c.args.page)
    (IsLinkedLeft m (positions_of c.args.table.now) c.args.page (position_in c.args.at))
    (linked-left-some m (positions_of c.args.table.now) c.args.page (position_in c.args.at) c.prev-prev.result (position_in c.in-Some.left)
    (ap (λ (p : PageState). p.prev) page ∙ sym c.prev-prev.ensures.prev) (λ z. let least = ap rank c.least.ensures ∙ rank-least in let t : c.is_same.result ≡ true = c.is_same.ensures.same.1 (z ∙ sym least) in let f = c.if-is_same.false in cc) there)
    c.is_leaf_before.ensures c.if-is_leaf_before.false
