-- Page 0 and the pages that it says are free.
use Rattle.std.proofs.Common.{◌≡◌, ◌∙◌, ◌∷◌, ◌++◌, ◌≤◌, List, Some, ℕ, ap, sym, subst, arith, length}
use Rattle.ib_map.specs.Keys.{MapKey}
use Rattle.ib_layout.specs.Geometry.{Sizes}
use Rattle.ib_page.specs.Work.{changed_of}
use Rattle.ib_plans.specs.Agreement.{bits_in}
use Rattle.ib_plans.proofs.ChosenLaws.{chosen-length}
use Rattle.ib_walk.specs.Full.{free_of}
use Rattle.ib_tree.specs.PageLists.{AreOnce}
use Rattle.ib_rule.specs.declared.looks.Grants.{Grants}
use Rattle.ib_rule.specs.Pass.{PassState}
use Rattle.ib_cursor.proofs.PageLaws.{has_told}
use Rattle.ib_index.specs.Grows.{HasTakenNew, HoldsAllPages, IsChosen, IsGrowing, IsLacking, IsShort, space_pages}
use Rattle.ib_index.proofs.ReadyLaws.{image, image-there, ready-none, ready-some, short-some, space-once}
use Rattle.ib_index.proofs.pessimistic_insert.take_fresh.Goals as goal

pub returns-then-need-eq0-clause-taken : goal.returns-then-need-eq0-clause-taken
returns-then-need-eq0-clause-taken g c = λ key p reached needs.
    let sizes : Sizes = c.args.mtr.now.latches.now.sizes in let q : PassState = c.args.mtr.now.pass.now in
    subst (λ (fresh : List ℕ). HoldsAllPages sizes key c.args.path.now fresh q q) (sym c.new.ensures) (ready-none sizes key c.args.path.now c.args.need p q reached needs c.if-need-eq0.true)

pub take_space-requires-clause-ready : goal.take_space-requires-clause-ready
take_space-requires-clause-ready g c =
    let r = c.requires.ready in (r.0, c.args.path.now, r.2.held, r.2.growing, r.2.zero, (let few = r.2.few in omega arith))

pub choose-requires-clause-space : goal.choose-requires-clause-space
choose-requires-clause-space g c =
    let r = c.requires.ready in (c.take_space.ensures.grown r.0 c.args.path.now r.2.held r.2.growing r.2.zero).there

pub take_new-requires-clause-room : goal.take_new-requires-clause-room
take_new-requires-clause-room g c =
    let r = c.requires.ready in let h = c.take_space.ensures.grown r.0 c.args.path.now r.2.held r.2.growing r.2.zero in
    let x = ap (λ (v : Grants). v.x) h.grants in let y = ap (λ (v : Grants). v.s) h.grants in let z = ap (λ (v : Grants). v.sx) h.grants in let room = c.requires.room in
    let same = ap (λ m. m.now.view.grants) c.choose.ensures.pass in
    let a = ap (λ (v : Grants). v.x) same in let b = ap (λ (v : Grants). v.s) same in let d = ap (λ (v : Grants). v.sx) same in omega arith

pub take_new-requires-clause-ready : goal.take_new-requires-clause-ready
take_new-requires-clause-ready g c =
    let sizes : Sizes = c.args.mtr.now.latches.now.sizes in let q : PassState = c.args.mtr.now.pass.now in let s : PassState = c.take_space.new.mtr.pass.now in
    let path : List ℕ = c.args.path.now in let fresh : List ℕ = c.in-Ok.fresh in
    let r = c.requires.ready in let h = c.take_space.ensures.grown r.0 path r.2.held r.2.growing r.2.zero in
    let size : c.geometry.result ≡ sizes = c.geometry.ensures in
    let fits = has_told size c.pages.ensures.pages c.pages.ensures.in_range in
    let first : c.take_space.new.mtr.latches.now.sizes ≡ sizes = ap (λ m. m.now.sizes) c.take_space.ensures.still.latches in
    let second : c.choose.new.mtr.latches.now.sizes ≡ sizes = ap (λ m. m.now.sizes) (c.choose.ensures.still.latches ∙ c.take_space.ensures.still.latches) in
    let pass : c.choose.new.mtr.pass.now ≡ s = ap (λ m. m.now) c.choose.ensures.pass in
    let ch = subst (λ (k : Sizes). (image : List ℕ) → changed_of 0 s.work ≡ Some image → IsChosen k.pages image c.args.need fresh) first c.in-Ok.ensures.chosen
    (image sizes fits r.0 path c.args.need r.1 q s r.2 h) (image-there sizes fits r.0 path c.args.need r.1 q s r.2 h) in
    subst (λ (k : Sizes). (x : MapKey) × (y : List ℕ) × (z : List ℕ) × IsGrowing k x y (space_pages z) c.choose.new.mtr.pass.now × AreOnce (z ++ 0 ∷ fresh) k.pages × (length z ≤ 10)) (sym second)
    (r.0, path, r.2.held, subst (IsGrowing sizes r.0 path (space_pages r.2.held)) (sym pass) h.growing, space-once sizes fits r.0 path c.args.need r.1 q s r.2 h fresh ch.0, r.2.few)

pub returns-in-Ok-clause-taken : goal.returns-in-Ok-clause-taken
returns-in-Ok-clause-taken g c = λ key p reached needs.
    let sizes : Sizes = c.args.mtr.now.latches.now.sizes in let q : PassState = c.args.mtr.now.pass.now in let s : PassState = c.take_space.new.mtr.pass.now in let t : PassState = c.take_new.new.mtr.pass.now in
    let path : List ℕ = c.args.path.now in let fresh : List ℕ = c.in-Ok.fresh in
    let h = c.take_space.ensures.grown key path reached.held reached.growing reached.zero in
    let size : c.geometry.result ≡ sizes = c.geometry.ensures in
    let fits = has_told size c.pages.ensures.pages c.pages.ensures.in_range in
    let first : c.take_space.new.mtr.latches.now.sizes ≡ sizes = ap (λ m. m.now.sizes) c.take_space.ensures.still.latches in
    let second : c.choose.new.mtr.latches.now.sizes ≡ sizes = ap (λ m. m.now.sizes) (c.choose.ensures.still.latches ∙ c.take_space.ensures.still.latches) in
    let pass : c.choose.new.mtr.pass.now ≡ s = ap (λ m. m.now) c.choose.ensures.pass in
    let ch = subst (λ (k : Sizes). (image : List ℕ) → changed_of 0 s.work ≡ Some image → IsChosen k.pages image c.args.need fresh) first c.in-Ok.ensures.chosen
    (image sizes fits key path c.args.need p q s reached h) (image-there sizes fits key path c.args.need p q s reached h) in
    let took = subst (λ (u : PassState). IsGrowing sizes key path (space_pages reached.held) u → AreOnce (reached.held ++ 0 ∷ fresh) sizes.pages → HasTakenNew sizes key path (space_pages reached.held) fresh u t) pass
    (subst (λ (k : Sizes). IsGrowing k key path (space_pages reached.held) c.choose.new.mtr.pass.now → AreOnce (reached.held ++ 0 ∷ fresh) k.pages → HasTakenNew k key path (space_pages reached.held) fresh c.choose.new.mtr.pass.now t) second
    (c.take_new.ensures.taken key path reached.held)) in
    let long : length fresh ≤ 9 = (let a = ap length ch.0 in let b = chosen-length (bits_in sizes.pages (image sizes fits key path c.args.need p q s reached h)) sizes.pages c.args.need ch.1 in let f = c.requires.few in omega arith) in
    ready-some sizes fits key path c.args.need p q s reached h needs fresh t ch.0 ch.1 long (took h.growing (space-once sizes fits key path c.args.need p q s reached h fresh ch.0))

pub returns-in-Err-clause-short : goal.returns-in-Err-clause-short
returns-in-Err-clause-short g c = λ key p reached needs.
    let sizes : Sizes = c.args.mtr.now.latches.now.sizes in let q : PassState = c.args.mtr.now.pass.now in let s : PassState = c.take_space.new.mtr.pass.now in
    let path : List ℕ = c.args.path.now in
    let h = c.take_space.ensures.grown key path reached.held reached.growing reached.zero in
    let size : c.geometry.result ≡ sizes = c.geometry.ensures in
    let fits = has_told size c.pages.ensures.pages c.pages.ensures.in_range in
    let first : c.take_space.new.mtr.latches.now.sizes ≡ sizes = ap (λ m. m.now.sizes) c.take_space.ensures.still.latches in
    let pass : c.choose.new.mtr.pass.now ≡ s = ap (λ m. m.now) c.choose.ensures.pass in
    let i = image sizes fits key path c.args.need p q s reached h in
    let less = subst (λ (k : Sizes). (image : List ℕ) → changed_of 0 s.work ≡ Some image → IsLacking k.pages image c.args.need c.in-Err.fault) first c.in-Err.ensures.short
    i (image-there sizes fits key path c.args.need p q s reached h) in
    subst (λ (u : PassState). IsShort sizes key path c.free_pages.result c.args.need q u) (sym pass)
    (short-some sizes fits key path c.args.need p q s reached h needs c.free_pages.result (c.free_pages.ensures (free_of (bits_in sizes.pages i) sizes.pages) c.args.need less.0) less.1)
