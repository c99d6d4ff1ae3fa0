-- The session fits its space.
use Rattle.std.proofs.Common.{◌≡◌, ℕ, ◌≤◌, ◌∙◌, true, length, ap, subst, arith}
use Rattle.std.proofs.lemmas.Bool.Decides.{nat_tests}
use Rattle.ib_layout.specs.Geometry.{Sizes, has_log}
use Rattle.ib_rule.specs.declared.view.Role.TheVariants.{Session}
use Rattle.ib_rule.specs.Pass.{PassState}
use Rattle.ib_cursor.proofs.PageLaws.{has_told}
use Rattle.ib_leaf.proofs.session.facts_of_session.Goals as goal

log-few : (n : ℕ) → has_log n ≡ true → n ≤ 16777216
log-few n has = grind (arith, nat_tests, has)

pub returns : goal.returns
returns g c =
    let sizes : Sizes = c.args.mtr.now.latches.now.sizes in
    let q : PassState = c.args.mtr.now.pass.now in
    let size : c.geometry-geometry.result ≡ sizes = c.geometry-geometry.ensures in
    let own : q.sizes ≡ sizes = c.requires.mtr.own.sizes in
    let here : c.pass-pass.result.now ≡ q = c.pass-pass.ensures in
    let few = log-few c.log_words.result c.log_words.ensures.in_range in
    let words : c.log_words.result ≡ sizes.log_words = c.log_words.ensures.words ∙ ap (λ (s : Sizes). s.log_words) size in
    let kept : c.pass-pass.result.now.sizes.log_words ≡ sizes.log_words = ap (λ (r : PassState). r.sizes.log_words) here ∙ ap (λ (s : Sizes). s.log_words) own in
    let seen : length c.pass-pass.result.now.view.memory.seen ≡ length q.view.memory.seen = ap (λ (r : PassState). length r.view.memory.seen) here in
    let mine : length c.pass-pass.result.now.view.memory.own ≡ length q.view.memory.own = ap (λ (r : PassState). length r.view.memory.own) here in
    let number : c.pass-pass.result.now.number ≡ q.number = ap (λ (r : PassState). r.number) here in
    let n = c.number.ensures in let m = c.made.ensures in let u = c.used.ensures in
    record {
      fits = has_told size c.pages.ensures.pages c.pages.ensures.in_range;
      role = subst (λ (r : PassState). r.view.role ≡ Session r.number) here n.session;
      number = (let a = n.number in let b = n.least in omega arith, let a = n.number in let b = n.most in omega arith);
      made = let a = m.made in let b = m.seen in omega arith;
      few = let a = u.entries in let b = u.room in omega arith;
    }
