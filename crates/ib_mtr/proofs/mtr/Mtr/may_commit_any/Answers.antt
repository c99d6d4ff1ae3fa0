-- The pages lie in the space, and what is asked is enough.
use Rattle.std.proofs.Common.{◌≡◌, ◌+◌, ◌^◌, ◌<◌, ◌≤◌, List, true, length, ap, sym, ◌∙◌, subst, arith}
use Rattle.std.specs.List.{All}
use Rattle.ib_map.specs.Space.{has_pages}
use Rattle.ib_levels.specs.declared.latch.TheConstants.{MOST_PAGES}
use Rattle.ib_layout.specs.Geometry.{Sizes}
use Rattle.ib_logrec.specs.declared.entry.TheConstants.{MOST_SESSIONS}
use Rattle.ib_page.specs.Work.{IsWork, WorkPage}
use Rattle.ib_mtr.proofs.Asking.{enough, few_entries, few_pages}
use Rattle.ib_mtr.proofs.mtr.Mtr.may_commit_any.Goals as goal

pub owns_changed-requires : goal.owns_changed-requires
owns_changed-requires g c =
    let pages : has_pages c.args.self.now.latches.now.sizes.pages ≡ true =
    ap (λ (s : Sizes). has_pages s.pages) (sym c.geometry-sizes.ensures) ∙ (ap has_pages (sym c.pages.ensures.pages) ∙ c.pages.ensures.in_range) in
    subst (λ (ws : List WorkPage). All (λ w. w.page < MOST_PAGES) ws) (sym c.work-work.ensures) (few_pages c.args.self.now.latches.now c.args.self.now.pass.now pages c.requires)

pub returns-then-owns_changed-clause-enough : goal.returns-then-owns_changed-clause-enough
returns-then-owns_changed-clause-enough g c =
    let space = c.args.self.now.latches.now in let p = c.args.self.now.pass.now in let n = c.number.ensures in let m = c.made.ensures in let u = c.used.ensures in
    let room : c.used.result ≤ c.log_words.result = let r = u.room in let s = ap (λ (s : Sizes). s.log_words) (c.requires.own.sizes ∙ sym c.geometry-sizes.ensures) in let w = c.log_words.ensures.words in omega arith in
    let made : length p.view.memory.own + 1 < 2 ^ 32 = few_entries (length p.view.memory.own) (length p.view.memory.seen) c.used.result c.log_words.result (let a = m.made in let b = m.seen in omega arith) u.entries room c.log_words.ensures.in_range in
    let number : (1 ≤ p.number) × (p.number ≤ MOST_SESSIONS) = (let a = n.number in let l = n.least in omega arith, let a = n.number in let l = n.most in omega arith) in
    enough space (g.L.Law.lawful space.sizes.pages) p c.requires (subst IsWork c.work-work.ensures c.len.ensures.work) number made
