use Rattle.std.proofs.Common.{ap, sym, arith, ◌∙◌, ◌≡◌}
use Rattle.std.proofs.lemmas.Bool.{eq-eqb, leb-true, le-leb}
use Rattle.ib_walk.specs.Pages.{PageState}
use Rattle.ib_walk.specs.Words.{memory_of}
use Rattle.ib_validate.proofs.MemoryLaws.{memory_of-page}
use Rattle.ib_tree.proofs.WholeTestLaws.{AreLow-one, AreLow-two, two-AreLow}
use Rattle.ib_tree.proofs.whole.are_low.Goals as goal

pub returns-then-roots-eq1 : goal.returns-then-roots-eq1
returns-then-roots-eq1 c = (λ t. AreLow-one c.args.memory.now c.args.roots c.if-roots-eq1.true, λ h. eq-eqb c.args.roots 1 c.if-roots-eq1.true)

pub returns-then-level-le-MOST_LEVEL_OF_TWO : goal.returns-then-level-le-MOST_LEVEL_OF_TWO
returns-then-level-le-MOST_LEVEL_OF_TWO c =
    let least = c.requires.least in
    let first : c.level.result ≡ (memory_of c.args.memory.now 1).level = c.level.ensures.level
    ∙ ap (λ (p : PageState). p.level) (sym (memory_of-page c.args.memory.now 1 c.page.result (omega arith) c.page.ensures c.level.ensures.size)) in
    let second : c.level-then-level-le-MOST_LEVEL_OF_TWO.result ≡ (memory_of c.args.memory.now 2).level = c.level-then-level-le-MOST_LEVEL_OF_TWO.ensures.level
    ∙ ap (λ (p : PageState). p.level) (sym (memory_of-page c.args.memory.now 2 c.page-then-level-le-MOST_LEVEL_OF_TWO.result (omega arith) c.page-then-level-le-MOST_LEVEL_OF_TWO.ensures c.level-then-level-le-MOST_LEVEL_OF_TWO.ensures.size)) in
    let low = c.if-level-le-MOST_LEVEL_OF_TWO.true in (
      λ t. let high = leb-true c.level-then-level-le-MOST_LEVEL_OF_TWO.result 3 t in
          AreLow-two c.args.memory.now c.args.roots c.requires.some c.requires.few c.if-roots-eq1.false (omega arith) (omega arith),
      λ h. let both = two-AreLow c.args.memory.now c.args.roots c.requires.some c.requires.few c.if-roots-eq1.false h in
          le-leb c.level-then-level-le-MOST_LEVEL_OF_TWO.result 3 (let b = both.1 in omega arith),
    )

pub returns-else-level-le-MOST_LEVEL_OF_TWO : goal.returns-else-level-le-MOST_LEVEL_OF_TWO
returns-else-level-le-MOST_LEVEL_OF_TWO c =
    let least = c.requires.least in
    let first : c.level.result ≡ (memory_of c.args.memory.now 1).level = c.level.ensures.level
    ∙ ap (λ (p : PageState). p.level) (sym (memory_of-page c.args.memory.now 1 c.page.result (omega arith) c.page.ensures c.level.ensures.size)) in
    let high = c.if-level-le-MOST_LEVEL_OF_TWO.false in (
      λ t. absurd (let low = leb-true c.level.result 3 t in omega arith),
      λ h. absurd (let both = two-AreLow c.args.memory.now c.args.roots c.requires.some c.requires.few c.if-roots-eq1.false h in let b = both.0 in omega arith),
    )
