-- The lowest free page of the first word that is not full.
use Rattle.std.proofs.Common.{◌≡◌, ◌+◌, ◌*◌, ◌^◌, ◌<◌, ℕ, true, get_or, arith, rules, subst, sym}
use Rattle.ib_page.specs.Space.{is_taken}
use Rattle.ib_page.proofs.SpaceLaws.{IsLowestFree, lowest_in_word, lowest_of, full_word}
use Rattle.ib_page.proofs.space.SpaceImage.lowest_free.Goals as goal

pub loop-i-preserved : goal.loop-i-preserved
loop-i-preserved c = rw (← c.self.view_is)
    (λ lower lt. full_word c.self.inside.words c.loop-i.i lower c.if-word.false (rw (← c.self.view_is) at c.loop-i.invariant) lt)

pub returns-then-word : goal.returns-then-word
returns-then-word c =
    let ws = c.self.inside.words in
    let page = 64 * c.loop-i.i + c.trailing_ones.result in
    let fits : get_or ws c.loop-i.i 0 < 2 ^ 64 = search rules in
    let before : (lower : ℕ) → lower < 64 * c.loop-i.i → is_taken ws lower ≡ true = rw (← c.self.view_is) at c.loop-i.invariant in
    let found : IsLowestFree ws page = subst (λ (n : ℕ). IsLowestFree ws (64 * c.loop-i.i + n)) (sym c.trailing_ones.ensures) (lowest_in_word ws c.loop-i.i (omega arith) before) in
    let answer = lowest_of ws c.args.pages page found in
    rw (c.then_some.ensures, ← c.self.view_is) (record { none = answer.none; in_range = answer.in_range; free = answer.free; lowest = answer.lowest })
