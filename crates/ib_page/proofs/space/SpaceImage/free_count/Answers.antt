-- The free pages of one more word.
use Rattle.std.proofs.Common.{◌≡◌, ◌+◌, ◌*◌, ◌/◌, ◌^◌, ◌<◌, ◌∙◌, List, get_or, ap, sym, ℕ, refl, arith, rules}
use Rattle.ib_page.specs.Space.{free_below, zeros_below}
use Rattle.ib_page.proofs.SpaceLaws.{free_below_word, free_below_pages, zeros_of_word, zeros_below-le}
use Rattle.ib_page.proofs.space.SpaceImage.free_count.Goals as goal

pub loop-i-preserved : goal.loop-i-preserved
loop-i-preserved c =
    let ws = c.self.inside.words in
    let word = get_or ws c.loop-i.i 0 in
    let fits : word < 2 ^ 64 = search rules in
    let zeros : c.count_zeros-count.result ≡ zeros_below 64 word = c.count_zeros-count.ensures.value ∙ zeros_of_word word 64 fits refl in
    let few = zeros_below-le 64 word in
    let next : 64 * (c.loop-i.i + 1) ≡ 64 * c.loop-i.i + 64 = omega arith in
    let more = free_below_word ws c.loop-i.i 64 (omega arith) in
    record {
      count = rw (← c.self.view_is) (omega (arith, ap (λ n. free_below ws n) next, ap (λ (s : List ℕ). free_below s (64 * c.loop-i.i)) c.self.view_is));
      in_range = omega arith;
    }

pub returns-clause-count : goal.returns-clause-count
returns-clause-count c =
    let ws = c.self.inside.words in
    let ended : c.loop-i.i ≡ c.args.pages / 64 = omega arith in
    let same : free_below c.args.self.now c.args.pages ≡ free_below ws c.args.pages = ap (λ (s : List ℕ). free_below s c.args.pages) (sym c.self.view_is) in
    let so_far : free_below c.args.self.now (64 * c.loop-i.i) ≡ free_below ws (64 * (c.args.pages / 64)) = ap (λ (s : List ℕ). free_below s (64 * c.loop-i.i)) (sym c.self.view_is) ∙ ap (λ (n : ℕ). free_below ws (64 * n)) ended in
    omega (arith, free_below_pages ws c.args.pages, c.zeros_below.ensures.count, same, so_far, c.loop-i.invariant.count)
