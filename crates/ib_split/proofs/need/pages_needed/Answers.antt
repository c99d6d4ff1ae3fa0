-- The full pages at the end of the path are those of the tree.
use Rattle.std.proofs.Common.{◌≡◌, ◌∙◌, ◌<◌, ℕ, ◌+◌, suc, true, false, length, ap, arith, refl}
use Rattle.std.specs.Prelude.{◌==◌, reverse}
use Rattle.std.proofs.lemmas.Bool.{eq-eqb, ne_eqb}
use Rattle.ib_walk.specs.Full.{full_run, run_of, need_of, is_root_full, is_too_high}
use Rattle.ib_walk.specs.Pages.{PageMemory}
use Rattle.ib_walk.specs.Trees.{height_of, most_height}
use Rattle.ib_map.specs.Keys.{MapKey}
use Rattle.ib_plans.specs.Agreement.{memory_in}
use Rattle.ib_split.proofs.OnPathLaws.{path-length, full_run-path}
use Rattle.ib_split.proofs.need.pages_needed.Goals as goal

-- how a need follows from the run
module _ (roots : ℕ) (m : PageMemory) (key : MapKey) (root : ℕ) where
  below : run_of m key root < suc (height_of m root) → (is_too_high roots m key root ≡ false) × (run_of m key root ≡ need_of m key root)
  below lt = let no : is_root_full m key root ≡ false = ne_eqb (run_of m key root) (suc (height_of m root)) (λ e. omega arith) in (rw no refl, rw no (omega arith))

  raised : run_of m key root ≡ suc (height_of m root) → height_of m root < most_height roots → (is_too_high roots m key root ≡ false) × (run_of m key root + 1 ≡ need_of m key root)
  raised is lt =
      let full : is_root_full m key root ≡ true = eq-eqb (run_of m key root) (suc (height_of m root)) is in
      let low : (height_of m root == most_height roots) ≡ false = ne_eqb (height_of m root) (most_height roots) (λ e. omega arith) in (rw (full, low) refl, rw full refl)

  highest : run_of m key root ≡ suc (height_of m root) → height_of m root ≡ most_height roots → is_too_high roots m key root ≡ true
  highest is top =
      let full : is_root_full m key root ≡ true = eq-eqb (run_of m key root) (suc (height_of m root)) is in
      let level : (height_of m root == most_height roots) ≡ true = eq-eqb (height_of m root) (most_height roots) top in rw (full, level) refl

pub returns-then-run-len-clause-needed : goal.returns-then-run-len-clause-needed
returns-then-run-len-clause-needed c pages root key memory bits agrees =
    let run : c.full_pages-run.result ≡ run_of memory key root = c.full_pages-run.ensures.run ∙ (ap (λ ps. full_run (memory_in c.args.work.now) (reverse ps)) c.pages.ensures.pages
    ∙ full_run-path pages c.args.roots root key c.args.path.now c.args.work.now memory bits agrees c.requires.there) in
    let len = path-length pages c.args.roots root key c.args.path.now c.args.work.now memory bits agrees in
    let b = below c.args.roots memory key root (let t = c.if-run-len.true in let e = c.len.ensures.count in omega arith) in (b.0, run ∙ b.1)

pub returns-then-run-longest_path-clause-needed : goal.returns-then-run-longest_path-clause-needed
returns-then-run-longest_path-clause-needed c pages root key memory bits agrees =
    let run : c.full_pages-run.result ≡ run_of memory key root = c.full_pages-run.ensures.run ∙ (ap (λ ps. full_run (memory_in c.args.work.now) (reverse ps)) c.pages.ensures.pages
    ∙ full_run-path pages c.args.roots root key c.args.path.now c.args.work.now memory bits agrees c.requires.there) in
    let len = path-length pages c.args.roots root key c.args.path.now c.args.work.now memory bits agrees in
    let most = c.full_pages-run.ensures.few in let same = ap length c.pages.ensures.pages in
    let f = c.if-run-len.false in let e = c.len.ensures.count in let t = c.if-run-longest_path.true in
    let long = c.longest_path.ensures in let b = raised c.args.roots memory key root (omega arith) (omega arith) in (b.0, ap (λ n. n + 1) run ∙ b.1)

pub returns-else-run-longest_path-clause-needed : goal.returns-else-run-longest_path-clause-needed
returns-else-run-longest_path-clause-needed c pages root key memory bits agrees =
    let run : c.full_pages-run.result ≡ run_of memory key root = c.full_pages-run.ensures.run ∙ (ap (λ ps. full_run (memory_in c.args.work.now) (reverse ps)) c.pages.ensures.pages
    ∙ full_run-path pages c.args.roots root key c.args.path.now c.args.work.now memory bits agrees c.requires.there) in
    let len = path-length pages c.args.roots root key c.args.path.now c.args.work.now memory bits agrees in
    let most = c.full_pages-run.ensures.few in let same = ap length c.pages.ensures.pages in
    let f = c.if-run-len.false in let e = c.len.ensures.count in let t = c.if-run-longest_path.false in let few = c.len.ensures.few in
    let long = c.longest_path.ensures in let high = (agrees.lawful.trees root agrees.some agrees.within).1 in
    (highest c.args.roots memory key root (omega arith) (omega arith), refl)
