use Rattle.std.proofs.Common.{◌≡◌, ◌∙◌, sym, ap, arith, true, nat_eq}
use Rattle.std.proofs.lemmas.Bool.{eq-eqb, eqb-true}
use Rattle.ib_map.specs.Keys.{end_rank}
use Rattle.ib_walk.specs.Pages.{PageState}
use Rattle.ib_walk.specs.Words.{memory_of}
use Rattle.ib_validate.specs.PageTests.{IsLeafBehind, IsLinkedRight}
use Rattle.ib_validate.specs.Positions.{position_if, position_in, positions_of}
use Rattle.ib_validate.proofs.MemoryLaws.{memory_of-page}
use Rattle.ib_validate.proofs.PositionLaws.{positions_of-within}
use Rattle.ib_validate.proofs.LinkLaws.{linked-last, linked-right-none, linked-right-some, both-where, both-fails}
use Rattle.ib_validate.proofs.links.is_linked_right.Goals as goal

pub returns-then-is_same_end : goal.returns-then-is_same_end
returns-then-is_same_end c =
    let lt = c.requires.in_range in
    let size = c.requires.size in
    let page = memory_of-page c.args.after.now c.args.page c.page.result (omega arith) c.page.ensures c.next-next.ensures.size in
    linked-last (memory_of c.args.after.now) end_rank (positions_of c.args.table.now) c.args.page (position_in c.args.at) c.next-next.result
    (ap (λ (p : PageState). p.next) page ∙ sym c.next-next.ensures.next) (c.is_same_end.ensures.0 c.if-is_same_end.true)

pub returns-in_default : goal.returns-in_default
returns-in_default c =
    let lt = c.requires.in_range in
    let size = c.requires.size in
    let page = memory_of-page c.args.after.now c.args.page c.page.result (omega arith) c.page.ensures c.next-next.ensures.size in
    linked-right-none (memory_of c.args.after.now) end_rank (positions_of c.args.table.now) c.args.page (position_in c.args.at) c.next-next.result
    (ap (λ (p : PageState). p.next) page ∙ sym c.next-next.ensures.next) (λ z. let t : c.is_same_end.result ≡ true = c.is_same_end.ensures.1 z in let f = c.if-is_same_end.false in cc) (sym c.position_at.ensures ∙ ap position_if c.in_default.is)

pub page-requires-then-is_leaf_behind : goal.page-requires-then-is_leaf_behind
page-requires-then-is_leaf_behind c =
    let within = positions_of-within c.args.table.now c.next-next.result (position_in c.in-Some.right) (sym c.position_at.ensures ∙ ap position_if c.in-Some.is) in
    let size = c.requires.size in omega arith

pub returns-then-is_leaf_behind : goal.returns-then-is_leaf_behind
returns-then-is_leaf_behind c =
    let lt = c.requires.in_range in
    let size = c.requires.size in
    let m = memory_of c.args.after.now in
    let there = sym c.position_at.ensures ∙ ap position_if c.in-Some.is in
    let within = positions_of-within c.args.table.now c.next-next.result (position_in c.in-Some.right) there in
    let page = memory_of-page c.args.after.now c.args.page c.page.result (omega arith) c.page.ensures c.next-next.ensures.size in
    let other = memory_of-page c.args.after.now c.next-next.result c.page-then-is_leaf_behind.result (omega arith) c.page-then-is_leaf_behind.ensures c.prev.ensures.size in
    let link : (m c.next-next.result).prev ≡ c.prev.result = ap (λ (p : PageState). p.prev) other ∙ sym c.prev.ensures.prev in
    both-where (nat_eq c.prev.result c.args.page) (IsLeafBehind (position_in c.in-Some.right) (position_in c.args.at)) ((m c.next-next.result).prev ≡ c.args.page)
    (IsLinkedRight m end_rank (positions_of c.args.table.now) c.args.page (position_in c.args.at))
    (linked-right-some m end_rank (positions_of c.args.table.now) c.args.page (position_in c.args.at) c.next-next.result (position_in c.in-Some.right)
    (ap (λ (p : PageState). p.next) page ∙ sym c.next-next.ensures.next) (λ z. let t : c.is_same_end.result ≡ true = c.is_same_end.ensures.1 z in let f = c.if-is_same_end.false in cc) there)
    (c.is_leaf_behind.ensures.0 c.if-is_leaf_behind.true)
    (λ t. link ∙ eqb-true c.prev.result c.args.page t, λ e. eq-eqb c.prev.result c.args.page (sym link ∙ e))

pub returns-else-is_leaf_behind : goal.returns-else-is_leaf_behind
returns-else-is_leaf_behind c =
    let lt = c.requires.in_range in
    let size = c.requires.size in
    let m = memory_of c.args.after.now in
    let there = sym c.position_at.ensures ∙ ap position_if c.in-Some.is in
    let page = memory_of-page c.args.after.now c.args.page c.page.result (omega arith) c.page.ensures c.next-next.ensures.size in
    both-fails c.is_leaf_behind.result (IsLeafBehind (position_in c.in-Some.right) (position_in c.args.at)) ((m c.next-next.result).prev ≡ c.args.page)
    (IsLinkedRight m end_rank (positions_of c.args.table.now) c.args.page (position_in c.args.at))
    (linked-right-some m end_rank (positions_of c.args.table.now) c.args.page (position_in c.args.at) c.next-next.result (position_in c.in-Some.right)
    (ap (λ (p : PageState). p.next) page ∙ sym c.next-next.ensures.next) (λ z. let t : c.is_same_end.result ≡ true = c.is_same_end.ensures.1 z in let f = c.if-is_same_end.false in cc) there)
    c.is_leaf_behind.ensures c.if-is_leaf_behind.false
