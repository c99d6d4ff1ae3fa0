-- One page more is chosen.
use Rattle.std.proofs.Common.{◌≡◌, ◌<◌, ◌∙◌, ◌+◌, ℕ, true, false, [], ◌∷◌, ◌++◌, length, length-append, append_assoc, refl, Option, Some, None, ap, sym, subst, arith}
use Rattle.std.specs.Prelude.{IsSome, IsNone, IfSome, ◌↔◌}
use Rattle.ib_page.specs.Space.{is_taken}
use Rattle.ib_walk.specs.Full.{free_pages_from}
use Rattle.ib_plans.specs.Agreement.{bits_in}
use Rattle.ib_split.proofs.FreeLaws.{free_pages_from-none, bits_in-taken, free-taken}
use Rattle.ib_split.proofs.choose.lowest.Goals as goal

some-unless : (o : Option ℕ) (P : Type 0) → IsNone o ↔ P → (P → ⊥) → IsSome o
some-unless None P none not = absurd (not (none.0 refl))
some-unless (Some x) P none not = refl

pub unwrap-page-requires : goal.unwrap-page-requires
unwrap-page-requires c =
    some-unless c.lowest_free.result _ c.lowest_free.ensures.none (λ all.
    let none = free_pages_from-none (bits_in c.args.pages c.loop-taken.space) 0 c.args.pages (λ q le lt. bits_in-taken c.args.pages c.loop-taken.space q (omega arith) (all q (omega arith))) in
    let whole = ap length c.loop-taken.invariant.0 in
    let parts = length-append c.loop-taken.path (free_pages_from (bits_in c.args.pages c.loop-taken.space) 0 c.args.pages) in
    let nothing = ap length none in
    let count = c.loop-taken.invariant.1 in let lt = c.loop-taken-test.true in let free = c.requires.free in omega arith)

on-some : (o : Option ℕ) (P : ℕ → Type 0) (x : ℕ) → IfSome o P → o ≡ Some x → P x
on-some o P x holds is = let Q : Option ℕ → Type 0 = λ q. IfSome q P in subst Q is holds

pub loop-taken-preserved : goal.loop-taken-preserved
loop-taken-preserved c =
    let page = c.unwrap-page.result in
    let free = c.lowest_free.ensures in
    let is = c.unwrap-page.ensures in
    let taken = free-taken c.args.pages c.loop-taken.space c.take.new.self c.unwrap-page.result c.requires.pages
    (on-some c.lowest_free.result (λ p. p < c.args.pages) c.unwrap-page.result free.in_range is)
    (on-some c.lowest_free.result (λ p. is_taken c.loop-taken.space p ≡ false) c.unwrap-page.result free.free is)
    (on-some c.lowest_free.result (λ p. (lower : ℕ) → lower < p → is_taken c.loop-taken.space lower ≡ true) c.unwrap-page.result free.lowest is)
    c.take.ensures in
    let count : length c.push.new.self ≡ c.loop-taken._taken + 1 = let l = ap length c.push.ensures in let a = length-append c.loop-taken.path (c.unwrap-page.result ∷ []) in let n = c.loop-taken.invariant.1 in omega arith in (
      c.loop-taken.invariant.0 ∙ (ap (λ xs. c.loop-taken.path ++ xs) taken
          ∙ (sym (append_assoc c.loop-taken.path (c.unwrap-page.result ∷ []) (free_pages_from (bits_in c.args.pages c.take.new.self) 0 c.args.pages))
          ∙ ap (λ xs. xs ++ free_pages_from (bits_in c.args.pages c.take.new.self) 0 c.args.pages) (sym c.push.ensures))),
      count,
    )
