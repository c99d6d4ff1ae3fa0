-- One fresh page after the other.
use Rattle.std.specs.Prelude.{take, get_or}
use Rattle.std.proofs.Common.{◌≡◌, ◌+◌, ◌∙◌, ◌∷◌, ◌++◌, ◌<◌, List, false, ℕ, ap, sym, subst, refl, arith, length, map}
use Rattle.std.proofs.lemmas.List.{length-map}
use Rattle.ib_cursor.proofs.TakeLaws.{take_whole}
use Rattle.ib_map.specs.Keys.{MapKey}
use Rattle.ib_levels.specs.declared.level.Level.{Level}
use Rattle.ib_levels.specs.declared.level.Level.TheVariants.{PageNew}
use Rattle.ib_levels.specs.declared.level.Mode.TheVariants.{X}
use Rattle.ib_layout.specs.Geometry.{Sizes}
use Rattle.ib_planned_log.specs.Kept.{IsKeptLog}
use Rattle.ib_rule.specs.declared.looks.Grants.{Grants}
use Rattle.ib_rule.specs.Pass.{PassState}
use Rattle.ib_cursor.specs.Claims.{claim_grant}
use Rattle.ib_cursor.specs.Refusals.{IsVainTry}
use Rattle.ib_cursor.proofs.GrantLaws.{may_grow}
use Rattle.ib_cursor.proofs.RefusalLaws.{few_both, few_none}
use Rattle.ib_index.specs.Grows.{HasGrown, HasTakenNew, IsGrowing, held_grant, new_pages, pages_held, space_pages}
use Rattle.ib_tree.specs.PageLists.{is_listed}
use Rattle.ib_index.proofs.FreshLaws.{follow-new, length-all, new-inside, new-none, new-other, new-step, take-le}
use Rattle.ib_index.proofs.GrowLaws.{grow-absent, grow-may}
use Rattle.ib_index.proofs.VainLaws.{new-refused}
use Rattle.ib_index.proofs.nowait_insert.try_new.Goals as goal

pub loop-at-init : goal.loop-at-init
loop-at-init g c = record {
  mtr = c.requires.mtr;
  latches = refl;
  pass = refl;
  within = omega arith;
  taken = λ key path held growing once. new-none c.args.mtr.now.latches.now.sizes key path held c.args.fresh.now c.args.mtr.now.pass.now growing;
  grants = record { s = omega arith; sx = omega arith; x = omega arith };
  twice = few_none c.args.mtr.now.pass.now;
}

pub try_at-requires-clause-page : goal.try_at-requires-clause-page
try_at-requires-clause-page g c =
    let sizes : Sizes = c.args.mtr.now.latches.now.sizes in let r = c.requires.ready in let inv = c.loop-at.invariant in
    subst (λ (s : Sizes). get_or c.pages-pages.result.now c.loop-at.at 0 < s.pages) (sym (ap (λ m. m.now.sizes) inv.latches))
    (new-inside sizes r.0 r.1 r.2 c.args.fresh.now c.pages-pages.result.now c.loop-at.at c.args.mtr.now.pass.now c.loop-at.mtr.pass.now c.pages-pages.ensures.pages c.loop-at-test.true r.4 (inv.taken r.0 r.1 r.2 r.3 r.4))

pub try_at-requires-clause-grows : goal.try_at-requires-clause-grows
try_at-requires-clause-grows g c =
    let r = c.requires.ready in let inv = c.loop-at.invariant in let t = inv.taken r.0 r.1 r.2 r.3 r.4 in
    let few = c.pages-pages.ensures.few in let same = ap length c.pages-pages.ensures.pages in let lt = c.loop-at-test.true in
    let n = length-all r.2 (take c.loop-at.at c.args.fresh.now) in let k = take-le c.loop-at.at c.args.fresh.now in let a = t.grants in let room = c.requires.room in let f = r.5 in
    let l = length-map (space_pages r.2 ++ new_pages (take c.loop-at.at c.args.fresh.now)) held_grant in
    may_grow (claim_grant ∷ map held_grant (space_pages r.2 ++ new_pages (take c.loop-at.at c.args.fresh.now))) c.loop-at.mtr.pass.now t.growing.grants (omega arith) (omega arith)

pub try_at-requires-clause-may : goal.try_at-requires-clause-may
try_at-requires-clause-may g c =
    let sizes : Sizes = c.args.mtr.now.latches.now.sizes in let r = c.requires.ready in let inv = c.loop-at.invariant in let t = inv.taken r.0 r.1 r.2 r.3 r.4 in
    grow-may sizes r.0 r.1 (space_pages r.2 ++ new_pages (take c.loop-at.at c.args.fresh.now)) (get_or c.pages-pages.result.now c.loop-at.at 0) PageNew c.loop-at.mtr.pass.now t.growing
    (new-other sizes r.0 r.1 r.2 c.args.fresh.now c.pages-pages.result.now c.loop-at.at c.args.mtr.now.pass.now c.loop-at.mtr.pass.now c.pages-pages.ensures.pages c.loop-at-test.true r.4 t)
    (refl, follow-new r.2 (take c.loop-at.at c.args.fresh.now))

pub try_at-requires-clause-absent : goal.try_at-requires-clause-absent
try_at-requires-clause-absent g c =
    let sizes : Sizes = c.args.mtr.now.latches.now.sizes in let r = c.requires.ready in let inv = c.loop-at.invariant in let t = inv.taken r.0 r.1 r.2 r.3 r.4 in
    grow-absent sizes r.0 r.1 (space_pages r.2 ++ new_pages (take c.loop-at.at c.args.fresh.now)) (get_or c.pages-pages.result.now c.loop-at.at 0) PageNew c.loop-at.mtr.pass.now t.growing
    (new-other sizes r.0 r.1 r.2 c.args.fresh.now c.pages-pages.result.now c.loop-at.at c.args.mtr.now.pass.now c.loop-at.mtr.pass.now c.pages-pages.ensures.pages c.loop-at-test.true r.4 t)

pub try_at-requires-clause-few : goal.try_at-requires-clause-few
try_at-requires-clause-few g c =
    let r = c.requires.ready in let inv = c.loop-at.invariant in let t = inv.taken r.0 r.1 r.2 r.3 r.4 in
    let few = c.pages-pages.ensures.few in let same = ap length c.pages-pages.ensures.pages in let n = length-all r.2 (take c.loop-at.at c.args.fresh.now) in let k = take-le c.loop-at.at c.args.fresh.now in let f = r.5 in let w = t.growing.count in omega arith

pub loop-at-preserved : goal.loop-at-preserved
loop-at-preserved g c =
    let sizes : Sizes = c.args.mtr.now.latches.now.sizes in let inv = c.loop-at.invariant in
    let page = get_or c.pages-pages.result.now c.loop-at.at 0 in let q : PassState = c.loop-at.mtr.pass.now in let t : PassState = c.try_at.new.mtr.pass.now in
    let grown = subst (λ (s : Sizes). (key : MapKey) → (path : List ℕ) → (held : List (ℕ × Level)) → IsGrowing s key path held q → is_listed (pages_held held) page ≡ false → HasGrown s key path held page PageNew q t) (ap (λ m. m.now.sizes) inv.latches) c.in-Ok.ensures.grown in
    record {
      mtr = c.try_at.ensures.still.mtr;
      latches = c.try_at.ensures.still.latches ∙ inv.latches;
      pass = c.try_at.ensures.still.pass ∙ inv.pass;
      within = let a = ap length c.pages-pages.ensures.pages in let b = c.loop-at-test.true in omega arith;
      taken = λ key path held growing once.
          let before = inv.taken key path held growing once in
          new-step sizes key path held c.args.fresh.now c.pages-pages.result.now c.loop-at.at c.args.mtr.now.pass.now q c.pages-pages.ensures.pages c.loop-at-test.true once before t
          (grown key path (space_pages held ++ new_pages (take c.loop-at.at c.args.fresh.now)) before.growing
          (new-other sizes key path held c.args.fresh.now c.pages-pages.result.now c.loop-at.at c.args.mtr.now.pass.now q c.pages-pages.ensures.pages c.loop-at-test.true once before));
      grants =
          let r = c.requires.ready in let before = inv.taken r.0 r.1 r.2 r.3 r.4 in
          let more = (grown r.0 r.1 (space_pages r.2 ++ new_pages (take c.loop-at.at c.args.fresh.now)) before.growing
          (new-other sizes r.0 r.1 r.2 c.args.fresh.now c.pages-pages.result.now c.loop-at.at c.args.mtr.now.pass.now q c.pages-pages.ensures.pages c.loop-at-test.true r.4 before)).grants in
          let s = ap (λ (v : Grants). v.s) more in let sx = ap (λ (v : Grants). v.sx) more in let x = ap (λ (v : Grants). v.x) more in let a = inv.grants.s in let b = inv.grants.sx in let d = inv.grants.x in
          record { s = omega arith; sx = omega arith; x = omega arith };
      twice = few_both 0 c.args.mtr.now.pass.now.view q.view t.view inv.twice c.in-Ok.ensures.twice;
    }

pub returns-clause-taken : goal.returns-clause-taken
returns-clause-taken g c = λ key path held growing once.
    let inv = c.loop-at.invariant in
    let at : c.loop-at.at ≡ length c.args.fresh.now = let a = ap length c.pages-pages.ensures.pages in let e = c.loop-at-test.false in let f = inv.within in omega arith in
    subst (λ ns. HasTakenNew c.args.mtr.now.latches.now.sizes key path (space_pages held) ns c.args.mtr.now.pass.now c.loop-at.mtr.pass.now) (take_whole c.args.fresh.now c.loop-at.at at) (inv.taken key path held growing once)

pub returns-clause-grants : goal.returns-clause-grants
returns-clause-grants g c =
    let inv = c.loop-at.invariant in
    let a = ap length c.pages-pages.ensures.pages in let e = c.loop-at-test.false in let f = inv.within in let x = inv.grants.x in let y = inv.grants.s in let z = inv.grants.sx in
    record { s = omega arith; sx = omega arith; x = omega arith }

pub returns-in-Err-clause-refused : goal.returns-in-Err-clause-refused
returns-in-Err-clause-refused g c = λ key path held growing once.
    let sizes : Sizes = c.args.mtr.now.latches.now.sizes in let inv = c.loop-at.invariant in
    let page = get_or c.pages-pages.result.now c.loop-at.at 0 in let q : PassState = c.loop-at.mtr.pass.now in let t : PassState = c.try_at.new.mtr.pass.now in
    let first : c.loop-at.mtr.latches.now.sizes ≡ sizes = ap (λ m. m.now.sizes) inv.latches in
    let vain = subst (λ (s : Sizes). IsVainTry s (IsKeptLog s.pages) X (page + 2) c.in-Err.fault q t) first c.in-Err.ensures.vain in
    let kept = subst (λ (s : Sizes). (key : MapKey) → (path : List ℕ) → (held : List (ℕ × Level)) → IsGrowing s key path held q → IsGrowing s key path held t) first c.in-Err.ensures.kept in
    let before = inv.taken key path held growing once in
    new-refused sizes key path held c.args.fresh.now c.pages-pages.result.now c.loop-at.at c.in-Err.fault c.args.mtr.now.pass.now q t c.pages-pages.ensures.pages c.loop-at-test.true before inv.twice inv.grants vain
    (kept key path (space_pages held ++ new_pages (take c.loop-at.at c.args.fresh.now)) before.growing)
