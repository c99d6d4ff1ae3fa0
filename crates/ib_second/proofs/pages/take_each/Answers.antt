-- One page after the other.
use Rattle.std.specs.Prelude.{take, get_or}
use Rattle.std.proofs.Common.{◌≡◌, ◌∷◌, ◌++◌, ◌<◌, List, false, ℕ, ap, sym, subst, refl, arith, length, map}
use Rattle.std.proofs.lemmas.List.{length-map}
use Rattle.ib_cursor.proofs.TakeLaws.{take_whole}
use Rattle.ib_map.specs.Keys.{MapKey}
use Rattle.ib_levels.specs.declared.level.Level.{Level}
use Rattle.ib_layout.specs.Geometry.{Sizes}
use Rattle.ib_rule.specs.Pass.{PassState}
use Rattle.ib_cursor.specs.Claims.{claim_grant}
use Rattle.ib_cursor.proofs.GrantLaws.{may_grow}
use Rattle.ib_tree.specs.PageLists.{is_listed}
use Rattle.ib_index.specs.Grows.{held_grant, pages_held}
use Rattle.ib_second.specs.Stands.{HasTakenAt, HasTakenEach, StandsOnPair, at_level}
use Rattle.ib_second.proofs.EachLaws.{each-inside, each-none, each-other, each-step, follow-more, length-held, take-short}
use Rattle.ib_second.proofs.TakeMore.{take-absent, take-may}
use Rattle.ib_mtr.proofs.Keeping.{still_then}
use Rattle.ib_second.proofs.pages.take_each.Goals as goal

pub loop-at-init : goal.loop-at-init
loop-at-init g c = record {
  still = record { mtr = c.requires.mtr; latches = refl; pass = refl };
  within = omega arith;
  taken = λ key path key2 path2 held stands once. each-none c.args.mtr.now.latches.now.sizes key path key2 path2 held c.args.pages.now c.args.level c.args.mtr.now.pass.now stands;
}

pub take_at-requires-clause-page : goal.take_at-requires-clause-page
take_at-requires-clause-page g c =
    let sizes : Sizes = c.args.mtr.now.latches.now.sizes in let r = c.requires.ready in let inv = c.loop-at.invariant in
    subst (λ (s : Sizes). get_or c.pages-pages.result.now c.loop-at.at 0 < s.pages) (sym (ap (λ m. m.now.sizes) inv.still.latches))
    (each-inside sizes r.0 r.1 r.2 r.3 r.4 c.args.pages.now c.pages-pages.result.now c.args.level c.loop-at.at c.args.mtr.now.pass.now c.loop-at.mtr.pass.now c.pages-pages.ensures.pages c.loop-at-test.true r.6 (inv.taken r.0 r.1 r.2 r.3 r.4 r.5 r.6))

pub take_at-requires-clause-grows : goal.take_at-requires-clause-grows
take_at-requires-clause-grows g c =
    let r = c.requires.ready in let inv = c.loop-at.invariant in let t = inv.taken r.0 r.1 r.2 r.3 r.4 r.5 r.6 in
    let few = c.pages-pages.ensures.few in let same = ap length c.pages-pages.ensures.pages in let lt = c.loop-at-test.true in
    let n = length-held r.4 c.args.level (take c.loop-at.at c.args.pages.now) in let k = take-short c.loop-at.at c.args.pages.now in let a = t.grants in let room = c.requires.room in let f = r.8 in
    let l = length-map (r.4 ++ at_level c.args.level (take c.loop-at.at c.args.pages.now)) held_grant in
    may_grow (claim_grant ∷ map held_grant (r.4 ++ at_level c.args.level (take c.loop-at.at c.args.pages.now))) c.loop-at.mtr.pass.now t.stands.grants (omega arith) (omega arith)

pub take_at-requires-clause-may : goal.take_at-requires-clause-may
take_at-requires-clause-may g c =
    let sizes : Sizes = c.args.mtr.now.latches.now.sizes in let r = c.requires.ready in let inv = c.loop-at.invariant in let t = inv.taken r.0 r.1 r.2 r.3 r.4 r.5 r.6 in
    take-may sizes r.0 r.1 r.2 r.3 (r.4 ++ at_level c.args.level (take c.loop-at.at c.args.pages.now)) (get_or c.pages-pages.result.now c.loop-at.at 0) c.args.level c.loop-at.mtr.pass.now t.stands
    (each-other sizes r.0 r.1 r.2 r.3 r.4 c.args.pages.now c.pages-pages.result.now c.args.level c.loop-at.at c.args.mtr.now.pass.now c.loop-at.mtr.pass.now c.pages-pages.ensures.pages c.loop-at-test.true r.6 t)
    (follow-more c.args.level c.args.level r.4 (take c.loop-at.at c.args.pages.now) r.7 c.requires.again)

pub take_at-requires-clause-absent : goal.take_at-requires-clause-absent
take_at-requires-clause-absent g c =
    let sizes : Sizes = c.args.mtr.now.latches.now.sizes in let r = c.requires.ready in let inv = c.loop-at.invariant in let t = inv.taken r.0 r.1 r.2 r.3 r.4 r.5 r.6 in
    take-absent sizes r.0 r.1 r.2 r.3 (r.4 ++ at_level c.args.level (take c.loop-at.at c.args.pages.now)) (get_or c.pages-pages.result.now c.loop-at.at 0) c.args.level c.loop-at.mtr.pass.now t.stands
    (each-other sizes r.0 r.1 r.2 r.3 r.4 c.args.pages.now c.pages-pages.result.now c.args.level c.loop-at.at c.args.mtr.now.pass.now c.loop-at.mtr.pass.now c.pages-pages.ensures.pages c.loop-at-test.true r.6 t)

pub take_at-requires-clause-few : goal.take_at-requires-clause-few
take_at-requires-clause-few g c =
    let r = c.requires.ready in let inv = c.loop-at.invariant in let t = inv.taken r.0 r.1 r.2 r.3 r.4 r.5 r.6 in
    let few = c.pages-pages.ensures.few in let same = ap length c.pages-pages.ensures.pages in let lt = c.loop-at-test.true in let n = length-held r.4 c.args.level (take c.loop-at.at c.args.pages.now) in
    let k = take-short c.loop-at.at c.args.pages.now in let f = r.8 in let w = t.stands.count in omega arith

pub loop-at-preserved : goal.loop-at-preserved
loop-at-preserved g c =
    let sizes : Sizes = c.args.mtr.now.latches.now.sizes in let inv = c.loop-at.invariant in
    let page = get_or c.pages-pages.result.now c.loop-at.at 0 in let q : PassState = c.loop-at.mtr.pass.now in let t : PassState = c.take_at.new.mtr.pass.now in
    let one = subst (λ (s : Sizes). (key : MapKey) (path : List ℕ) (key2 : MapKey) (path2 : List ℕ) (held : List (ℕ × Level)) → StandsOnPair s key path key2 path2 held q → is_listed (pages_held held) page ≡ false
    → HasTakenAt s key path key2 path2 held page c.args.level q t) (ap (λ m. m.now.sizes) inv.still.latches) c.take_at.ensures.taken in
    record {
      still = still_then inv.still c.take_at.ensures.still;
      within = let a = ap length c.pages-pages.ensures.pages in let b = c.loop-at-test.true in omega arith;
      taken = λ key path key2 path2 held stands once.
          let before = inv.taken key path key2 path2 held stands once in
          each-step sizes key path key2 path2 held c.args.pages.now c.pages-pages.result.now c.args.level c.loop-at.at c.args.mtr.now.pass.now q c.pages-pages.ensures.pages c.loop-at-test.true once before t
          (one key path key2 path2 (held ++ at_level c.args.level (take c.loop-at.at c.args.pages.now)) before.stands
          (each-other sizes key path key2 path2 held c.args.pages.now c.pages-pages.result.now c.args.level c.loop-at.at c.args.mtr.now.pass.now q c.pages-pages.ensures.pages c.loop-at-test.true once before));
    }

pub returns-clause-taken : goal.returns-clause-taken
returns-clause-taken g c = λ key path key2 path2 held stands once.
    let inv = c.loop-at.invariant in
    let at : c.loop-at.at ≡ length c.args.pages.now = let a = ap length c.pages-pages.ensures.pages in let e = c.loop-at-test.false in let f = inv.within in omega arith in
    subst (λ ns. HasTakenEach c.args.mtr.now.latches.now.sizes key path key2 path2 held ns c.args.level c.args.mtr.now.pass.now c.loop-at.mtr.pass.now) (take_whole c.args.pages.now c.loop-at.at at) (inv.taken key path key2 path2 held stands once)
