-- No place is below the first, or far behind it.
use Rattle.std.proofs.Common.{arith}
use Rattle.ib_image.proofs.ParsedLaws.{place-of}
use Rattle.ib_image.proofs.RestoreLaws.{place-near}
use Rattle.ib_image.proofs.parts.starts_in.Goals as goal

pub overflow_sub-place : goal.overflow_sub-place
overflow_sub-place c =
    let lt = c.loop-page-test.true in
    let place = place-of c.args.numbers.now c.args.front.pages c.loop-page.page c.number_of.result lt c.number_of.ensures in
    let near = place-near c.args.front.first c.args.entries c.loop-page.page _ (c.requires.places c.loop-page.page lt) in
    let from = c.from.ensures in omega (arith, near.0, place, from)

pub overflow_cast-place : goal.overflow_cast-place
overflow_cast-place c =
    let lt = c.loop-page-test.true in
    let place = place-of c.args.numbers.now c.args.front.pages c.loop-page.page c.number_of.result lt c.number_of.ensures in
    let near = place-near c.args.front.first c.args.entries c.loop-page.page _ (c.requires.places c.loop-page.page lt) in
    let from = c.from.ensures in let short = c.requires.short in omega (arith, near.0, near.1, place, from, short)
