use Rattle.std.proofs.Common.{◌≡◌, ◌∙◌, ◌+◌, sym, ap, arith, length, Option, Some, None, List, inl, inr}
use Rattle.std.proofs.lemmas.Bool.{cases_lt}
use Rattle.std.proofs.lemmas.List.{length_push}
use Rattle.ib_map.specs.Keys.{end_rank}
use Rattle.ib_validate.specs.declared.position.PagePosition.{PagePosition}
use Rattle.ib_validate.specs.PatchTest.{Position}
use Rattle.ib_validate.specs.Positions.{positions_of}
use Rattle.ib_validate.specs.TreeMemory.{opening_positions}
use Rattle.ib_walk.proofs.ChoiceLaws.{cond-ne}
use Rattle.ib_validate.proofs.PositionLaws.{positions-same, positions_of-past, positions_of-push_before, positions_of-push_at}
use Rattle.ib_validate.proofs.tree_pages.opening_table.Goals as goal

pub loop-page-preserved : goal.loop-page-preserved
loop-page-preserved c =
    let items = c.in_ok-push.ensures.items in
    let size = c.loop-page.invariant.size in
    record {
      size = ap (length {A = Option PagePosition}) items ∙ (length_push c.loop-page.table.items c.opening_position.result ∙ ap (λ n. n + 1) size);
      positions = λ page lt. ap (λ (xs : List (Option PagePosition)). positions_of xs page) items ∙ elim (cases_lt page c.loop-page.page) [
        | inl below ↦ positions_of-push_before c.loop-page.table.items c.opening_position.result page (omega arith) ∙ c.loop-page.invariant.positions page below
        | inr above ↦
            let at : page ≡ c.loop-page.page = omega arith in
            positions_of-push_at c.loop-page.table.items c.opening_position.result page (omega arith) ∙ (c.opening_position.ensures ∙ ap opening_positions (sym at))
      ];
    }

pub returns-clause-positions : goal.returns-clause-positions
returns-clause-positions c = positions-same (positions_of c.loop-page.table.items) opening_positions (λ page. elim (cases_lt page (length c.loop-page.table.items)) [
  | inl below ↦ c.loop-page.invariant.positions page (let size = c.loop-page.invariant.size in omega arith)
  | inr past ↦ positions_of-past c.loop-page.table.items page past ∙ sym (cond-ne page 1 (Some (let root : Position = record { tree = 1; height = 0; low = 0; high = end_rank } in root)) None (λ e. let size = c.loop-page.invariant.size in let some = c.requires in omega arith))
])
