-- An insert into one of two trees takes at most four pages, where its root need not be raised at the highest level.
use Rattle.std.specs.Prelude.{reverse}
use Rattle.std.proofs.Common.{◌≡◌, ◌≤◌, ◌+◌, ℕ, suc, List, inl, inr, true, false, refl, arith}
use Rattle.std.proofs.lemmas.Bool.{cases_eq, eq-eqb, ne_eqb}
use Rattle.std.proofs.lemmas.List.{length-reverse}
use Rattle.ib_map.specs.Keys.{MapKey}
use Rattle.ib_page.specs.Work.{WorkPage}
use Rattle.ib_walk.specs.Full.{is_root_full, is_too_high, need_of, run_of}
use Rattle.ib_walk.specs.Pages.{PageMemory}
use Rattle.ib_walk.specs.Trees.{height_of}
use Rattle.ib_plans.specs.Agreement.{Agrees, HasTreePages, memory_in}
use Rattle.ib_plans.proofs.NeedLaws.{full_run-le}
use Rattle.ib_split.proofs.OnPathLaws.{full_run-path, path-length}
use Rattle.ib_planned_log.proofs.LeadLaws.{low-enough}

module _ (pages root : ℕ) (key : MapKey) (path : List ℕ) (work : List WorkPage) (m : PageMemory) (bits : ℕ → ℕ) (a : Agrees pages 2 root key path work m bits) (there : HasTreePages path work) where
  run-most : run_of m key root ≤ suc (height_of m root)
  run-most =
      let e = full_run-path pages 2 root key path work m bits a there in let l = full_run-le (memory_in work) (reverse path) in
      let r = length-reverse path in let n = path-length pages 2 root key path work m bits a in omega arith

  height-most : height_of m root ≤ 3
  height-most = (a.lawful.trees root a.some a.within).1

  pub need-most : is_too_high 2 m key root ≡ false → need_of m key root ≤ 4
  need-most low = elim (cases_eq (run_of m key root) (suc (height_of m root))) [
    | inl e ↦
        let full : is_root_full m key root ≡ true = eq-eqb (run_of m key root) (suc (height_of m root)) e in
        let need : need_of m key root ≡ run_of m key root + 1 = rw full refl in
        let h = low-enough (is_root_full m key root) (height_of m root) 3 low height-most full in omega arith
    | inr ne ↦
        let no : is_root_full m key root ≡ false = ne_eqb (run_of m key root) (suc (height_of m root)) ne in
        let need : need_of m key root ≡ run_of m key root + 0 = rw no refl in
        let h = height-most in let r = run-most in omega (arith, ne)
  ]
