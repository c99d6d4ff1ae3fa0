-- The nodes one after the other.
use Rattle.std.specs.Prelude.{take, get_or}
use Rattle.std.proofs.lemmas.List.{length-take-le}
use Rattle.std.proofs.Common.{◌≡◌, ◌∷◌, ◌++◌, ◌<◌, List, [], ℕ, ap, sym, subst, refl, arith, length, length-append}
use Rattle.ib_layout.specs.Geometry.{Sizes}
use Rattle.ib_logrec.specs.Log.{by_place}
use Rattle.ib_rule.specs.Pass.{PassState}
use Rattle.ib_mtr.proofs.Keeping.{still_then}
use Rattle.ib_cursor.specs.Takings.{CanTakePage, HasTakenMore, HasTakenPage}
use Rattle.ib_cursor.proofs.TakeLaws.{more_none, node_can, node_room, node_step, take_whole, take_nothing}
use Rattle.ib_cursor.specs.Refusals.{IsRefusedBehind}
use Rattle.ib_cursor.proofs.RefusalLaws.{few_both, few_none}
use Rattle.ib_cursor.proofs.TakeRefusalLaws.{refused_among, refused_behind}
use Rattle.ib_cursor.proofs.nowait_claim.try_take_nodes.Goals as goal

pub loop-at-init : goal.loop-at-init
loop-at-init g c =
    let sizes : Sizes = c.args.mtr.now.latches.now.sizes in
    let r = c.requires.ready in
    record {
      still = record { mtr = c.requires.mtr; latches = refl; pass = refl };
      within = let a = ap length r.4 in let b = length-append r.1 (r.3 ∷ []) in omega arith;
      taken = λ held front more leaf is w. subst (λ ps. HasTakenMore sizes (g.L.Law.lawful sizes.pages) (by_place g.L.Law.opening sizes.pages) held ps c.args.mtr.now.pass.now c.args.mtr.now.pass.now) (sym (take_nothing front))
          (more_none sizes (g.L.Law.lawful sizes.pages) (by_place g.L.Law.opening sizes.pages) held c.args.mtr.now.pass.now w.holds);
      few = few_none c.args.mtr.now.pass.now;
    }

pub try_take_page-requires-clause-page : goal.try_take_page-requires-clause-page
try_take_page-requires-clause-page g c =
    let sizes : Sizes = c.args.mtr.now.latches.now.sizes in
    let r = c.requires.ready in
    let inv = c.loop-at.invariant in
    subst (λ (s : Sizes). get_or c.pages-pages.result.now c.loop-at.at 0 < s.pages) (sym (ap (λ m. m.now.sizes) inv.still.latches))
    (node_can sizes (g.L.Law.lawful sizes.pages) (by_place g.L.Law.opening sizes.pages) r.0 r.1 r.2 c.args.path.now c.pages-pages.result.now r.3 c.loop-at.at c.args.mtr.now.pass.now c.loop-at.mtr.pass.now r.4 c.pages-pages.ensures.pages c.loop-at-test.true r.5 (inv.taken r.0 r.1 r.2 r.3 r.4 r.5)).1

pub try_take_page-requires-clause-room : goal.try_take_page-requires-clause-room
try_take_page-requires-clause-room g c =
    let sizes : Sizes = c.args.mtr.now.latches.now.sizes in
    let r = c.requires.ready in
    let inv = c.loop-at.invariant in
    let n = node_room sizes (g.L.Law.lawful sizes.pages) (by_place g.L.Law.opening sizes.pages) r.0 r.1 r.2 c.args.path.now c.pages-pages.result.now r.3 c.loop-at.at c.args.mtr.now.pass.now c.loop-at.mtr.pass.now r.4 c.pages-pages.ensures.pages c.loop-at-test.true r.5 (inv.taken r.0 r.1 r.2 r.3 r.4 r.5) in
    let room = c.requires.room in omega arith

pub try_take_page-requires-clause-holds : goal.try_take_page-requires-clause-holds
try_take_page-requires-clause-holds g c =
    let sizes : Sizes = c.args.mtr.now.latches.now.sizes in
    let r = c.requires.ready in
    let inv = c.loop-at.invariant in
    let page = get_or c.pages-pages.result.now c.loop-at.at 0 in
    subst (λ (s : Sizes). (held : List ℕ) × CanTakePage s (g.L.Law.lawful s.pages) (by_place g.L.Law.opening s.pages) held page c.loop-at.mtr.pass.now) (sym (ap (λ m. m.now.sizes) inv.still.latches))
    (r.0 ++ take c.loop-at.at r.1, (node_can sizes (g.L.Law.lawful sizes.pages) (by_place g.L.Law.opening sizes.pages) r.0 r.1 r.2 c.args.path.now c.pages-pages.result.now r.3 c.loop-at.at c.args.mtr.now.pass.now c.loop-at.mtr.pass.now r.4 c.pages-pages.ensures.pages c.loop-at-test.true r.5 (inv.taken r.0 r.1 r.2 r.3 r.4 r.5)).0)

pub loop-at-preserved : goal.loop-at-preserved
loop-at-preserved g c =
    let sizes : Sizes = c.args.mtr.now.latches.now.sizes in
    let inv = c.loop-at.invariant in
    let page = get_or c.pages-pages.result.now c.loop-at.at 0 in
    let q : PassState = c.loop-at.mtr.pass.now in let t : PassState = c.try_take_page.new.mtr.pass.now in
    record {
      still = still_then inv.still c.try_take_page.ensures.still;
      within = let a = ap length c.pages-pages.ensures.pages in let b = c.loop-at-test.true in omega arith;
      taken = λ held front more leaf is w.
          let before = inv.taken held front more leaf is w in
          let can = (node_can sizes (g.L.Law.lawful sizes.pages) (by_place g.L.Law.opening sizes.pages) held front more c.args.path.now c.pages-pages.result.now leaf c.loop-at.at c.args.mtr.now.pass.now q is c.pages-pages.ensures.pages c.loop-at-test.true w before).0 in
          let one = subst (λ (s : Sizes). (held : List ℕ) → CanTakePage s (g.L.Law.lawful s.pages) (by_place g.L.Law.opening s.pages) held page q → HasTakenPage s (g.L.Law.lawful s.pages) (by_place g.L.Law.opening s.pages) held page q t) (ap (λ m. m.now.sizes) inv.still.latches) c.in-Ok.ensures.taken in
          node_step sizes (g.L.Law.lawful sizes.pages) (by_place g.L.Law.opening sizes.pages) held front more c.args.path.now c.pages-pages.result.now leaf c.loop-at.at c.args.mtr.now.pass.now q is c.pages-pages.ensures.pages c.loop-at-test.true w before t (one (held ++ take c.loop-at.at front) can);
      few = few_both 0 c.args.mtr.now.pass.now.view q.view t.view inv.few c.in-Ok.ensures.few;
    }

pub returns-clause-taken : goal.returns-clause-taken
returns-clause-taken g c = λ held front more leaf is w.
    let sizes : Sizes = c.args.mtr.now.latches.now.sizes in
    let inv = c.loop-at.invariant in
    let at : c.loop-at.at ≡ length front = let a = ap length c.pages-pages.ensures.pages in let b = ap length is in let d = length-append front (leaf ∷ []) in let e = c.loop-at-test.false in let f = inv.within in omega arith in
    subst (λ ps. HasTakenMore sizes (g.L.Law.lawful sizes.pages) (by_place g.L.Law.opening sizes.pages) held ps c.args.mtr.now.pass.now c.loop-at.mtr.pass.now) (take_whole front c.loop-at.at at) (inv.taken held front more leaf is w)

pub returns-in-Err-clause-refused : goal.returns-in-Err-clause-refused
returns-in-Err-clause-refused g c =
    let sizes : Sizes = c.args.mtr.now.latches.now.sizes in
    let r = c.requires.ready in
    let inv = c.loop-at.invariant in let f = c.in-Err.fault in
    let page = get_or c.pages-pages.result.now c.loop-at.at 0 in
    let p : PassState = c.args.mtr.now.pass.now in let q : PassState = c.loop-at.mtr.pass.now in let t : PassState = c.try_take_page.new.mtr.pass.now in
    let refused = subst (λ (s : Sizes). (held : List ℕ) → CanTakePage s (g.L.Law.lawful s.pages) (by_place g.L.Law.opening s.pages) held page q → IsRefusedBehind s (g.L.Law.lawful s.pages) (by_place g.L.Law.opening s.pages) held (page ∷ []) f q t) (ap (λ m. m.now.sizes) inv.still.latches) c.in-Err.ensures.refused in
    let can = (node_can sizes (g.L.Law.lawful sizes.pages) (by_place g.L.Law.opening sizes.pages) r.0 r.1 r.2 c.args.path.now c.pages-pages.result.now r.3 c.loop-at.at p q r.4 c.pages-pages.ensures.pages c.loop-at-test.true r.5 (inv.taken r.0 r.1 r.2 r.3 r.4 r.5)).0 in
    let one = (refused (r.0 ++ take c.loop-at.at r.1) can).refused in
    let taken = inv.taken r.0 r.1 r.2 r.3 r.4 r.5 in
    let few = ap length r.4 in let long = length-append r.1 (r.3 ∷ []) in
    refused_behind sizes (g.L.Law.lawful sizes.pages) (by_place g.L.Law.opening sizes.pages) r.0 (take c.loop-at.at r.1) (page ∷ []) c.args.path.now f p q t taken inv.few
    (λ n is. refused_among c.args.path.now c.pages-pages.result.now c.loop-at.at n c.pages-pages.ensures.pages c.loop-at-test.true is)
    (let a = ap length c.pages-pages.ensures.pages in let b = c.loop-at-test.true in let k = length-take-le c.loop-at.at r.1 (omega arith) in omega arith) one
