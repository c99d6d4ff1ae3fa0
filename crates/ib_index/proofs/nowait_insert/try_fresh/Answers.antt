-- Page 0 and the pages that it says are free, or the latch that was refused.
use Rattle.std.proofs.Common.{true, ◌≡◌, ◌∙◌, ◌∷◌, ◌++◌, ◌≤◌, List, Some, ℕ, ap, sym, subst, arith, length}
use Rattle.ib_map.specs.Keys.{MapKey}
use Rattle.ib_map.specs.Space.{has_pages}
use Rattle.ib_layout.specs.Geometry.{Sizes}
use Rattle.ib_page.specs.Work.{changed_of}
use Rattle.ib_plans.specs.Agreement.{bits_in}
use Rattle.ib_plans.proofs.ChosenLaws.{chosen-length}
use Rattle.ib_walk.specs.Full.{free_of}
use Rattle.ib_tree.specs.PageLists.{AreOnce}
use Rattle.ib_rule.specs.declared.looks.Grants.{Grants}
use Rattle.ib_rule.specs.Pass.{PassState}
use Rattle.ib_cursor.specs.Refusals.{AreFewLooks}
use Rattle.ib_cursor.proofs.PageLaws.{has_told}
use Rattle.ib_cursor.proofs.RefusalLaws.{few_both, few_none}
use Rattle.ib_index.specs.NowaitGrows.{IsNewRefused}
use Rattle.ib_index.specs.Grows.{HasClaimedPath, HasTakenNew, HoldsAllPages, IsChosen, IsGrowing, IsLacking, IsShort, space_pages}
use Rattle.ib_index.proofs.ReadyLaws.{image, image-there, ready-none, ready-some, short-some, space-once}
use Rattle.ib_index.proofs.VainLaws.{fresh-refused, space-refused}
use Rattle.ib_index.proofs.nowait_insert.try_fresh.Given.{Over}
use Rattle.ib_index.proofs.nowait_insert.try_fresh.Goals.{In-Ok-choose}
use Rattle.ib_index.proofs.nowait_insert.try_fresh.Goals as goal

pub returns-then-need-eq0-clause-taken : goal.returns-then-need-eq0-clause-taken
returns-then-need-eq0-clause-taken g c = λ key p reached needs.
    let sizes : Sizes = c.args.mtr.now.latches.now.sizes in let q : PassState = c.args.mtr.now.pass.now in
    subst (λ (fresh : List ℕ). HoldsAllPages sizes key c.args.path.now fresh q q) (sym c.new.ensures) (ready-none sizes key c.args.path.now c.args.need p q reached needs c.if-need-eq0.true)

pub try_space-requires-clause-ready : goal.try_space-requires-clause-ready
try_space-requires-clause-ready g c =
    let r = c.requires.ready in (r.0, c.args.path.now, r.2.held, r.2.growing, r.2.zero, (let few = r.2.few in omega arith))

pub choose-requires-clause-space : goal.choose-requires-clause-space
choose-requires-clause-space g c =
    let r = c.requires.ready in (c.in-Ok.ensures.grown r.0 c.args.path.now r.2.held r.2.growing r.2.zero).there

-- the fresh pages are those that page 0 says are free
fresh-are : (g : Over) (c : In-Ok-choose g) (fits : has_pages c.args.mtr.now.latches.now.sizes.pages ≡ true) (key : MapKey) (p : PassState) (reached : HasClaimedPath c.args.mtr.now.latches.now.sizes key c.args.path.now p c.args.mtr.now.pass.now)
    → IsChosen c.args.mtr.now.latches.now.sizes.pages (image c.args.mtr.now.latches.now.sizes fits key c.args.path.now c.args.need p c.args.mtr.now.pass.now c.try_space.new.mtr.pass.now reached (c.in-Ok.ensures.grown key c.args.path.now reached.held reached.growing reached.zero)) c.args.need c.in-Ok-choose.fresh
fresh-are g c fits key p reached =
    let sizes : Sizes = c.args.mtr.now.latches.now.sizes in let q : PassState = c.args.mtr.now.pass.now in let s : PassState = c.try_space.new.mtr.pass.now in
    let path : List ℕ = c.args.path.now in let fresh : List ℕ = c.in-Ok-choose.fresh in
    let h = c.in-Ok.ensures.grown key path reached.held reached.growing reached.zero in
    let first : c.try_space.new.mtr.latches.now.sizes ≡ sizes = ap (λ m. m.now.sizes) c.try_space.ensures.still.latches in
    subst (λ (k : Sizes). (image : List ℕ) → changed_of 0 s.work ≡ Some image → IsChosen k.pages image c.args.need fresh) first c.in-Ok-choose.ensures.chosen
    (image sizes fits key path c.args.need p q s reached h) (image-there sizes fits key path c.args.need p q s reached h)

-- so they are no more than a path has pages
fresh-few : (g : Over) (c : In-Ok-choose g) (fits : has_pages c.args.mtr.now.latches.now.sizes.pages ≡ true) → length c.in-Ok-choose.fresh ≤ 8
fresh-few g c fits =
    let sizes : Sizes = c.args.mtr.now.latches.now.sizes in let q : PassState = c.args.mtr.now.pass.now in let s : PassState = c.try_space.new.mtr.pass.now in let r = c.requires.ready in
    let h = c.in-Ok.ensures.grown r.0 c.args.path.now r.2.held r.2.growing r.2.zero in
    let ch = fresh-are g c fits r.0 r.1 r.2 in
    let a = ap length ch.0 in let b = chosen-length (bits_in sizes.pages (image sizes fits r.0 c.args.path.now c.args.need r.1 q s r.2 h)) sizes.pages c.args.need ch.1 in let f = c.requires.few in omega arith

pub try_new-requires-clause-room : goal.try_new-requires-clause-room
try_new-requires-clause-room g c =
    let r = c.requires.ready in let h = c.in-Ok.ensures.grown r.0 c.args.path.now r.2.held r.2.growing r.2.zero in
    let x = ap (λ (v : Grants). v.x) h.grants in let y = ap (λ (v : Grants). v.s) h.grants in let z = ap (λ (v : Grants). v.sx) h.grants in let room = c.requires.room in
    let same = ap (λ m. m.now.view.grants) c.choose.ensures.pass in
    let a = ap (λ (v : Grants). v.x) same in let b = ap (λ (v : Grants). v.s) same in let d = ap (λ (v : Grants). v.sx) same in omega arith

pub try_new-requires-clause-ready : goal.try_new-requires-clause-ready
try_new-requires-clause-ready g c =
    let sizes : Sizes = c.args.mtr.now.latches.now.sizes in let q : PassState = c.args.mtr.now.pass.now in let s : PassState = c.try_space.new.mtr.pass.now in
    let path : List ℕ = c.args.path.now in let fresh : List ℕ = c.in-Ok-choose.fresh in
    let r = c.requires.ready in let h = c.in-Ok.ensures.grown r.0 path r.2.held r.2.growing r.2.zero in
    let size : c.geometry.result ≡ sizes = c.geometry.ensures in
    let fits = has_told size c.pages.ensures.pages c.pages.ensures.in_range in
    let second : c.choose.new.mtr.latches.now.sizes ≡ sizes = ap (λ m. m.now.sizes) (c.choose.ensures.still.latches ∙ c.try_space.ensures.still.latches) in
    let pass : c.choose.new.mtr.pass.now ≡ s = ap (λ m. m.now) c.choose.ensures.pass in
    let ch = fresh-are g (goal.at.try_new-requires-clause-ready g c).In-Ok-choose fits r.0 r.1 r.2 in
    subst (λ (k : Sizes). (x : MapKey) × (y : List ℕ) × (z : List ℕ) × IsGrowing k x y (space_pages z) c.choose.new.mtr.pass.now × AreOnce (z ++ 0 ∷ fresh) k.pages × (length z ≤ 10)) (sym second)
    (r.0, path, r.2.held, subst (IsGrowing sizes r.0 path (space_pages r.2.held)) (sym pass) h.growing, space-once sizes fits r.0 path c.args.need r.1 q s r.2 h fresh ch.0, r.2.few)

pub returns-in-Ok-try_new-clause-taken : goal.returns-in-Ok-try_new-clause-taken
returns-in-Ok-try_new-clause-taken g c = λ key p reached needs.
    let sizes : Sizes = c.args.mtr.now.latches.now.sizes in let q : PassState = c.args.mtr.now.pass.now in let s : PassState = c.try_space.new.mtr.pass.now in let t : PassState = c.try_new.new.mtr.pass.now in
    let path : List ℕ = c.args.path.now in let fresh : List ℕ = c.in-Ok-choose.fresh in
    let h = c.in-Ok.ensures.grown key path reached.held reached.growing reached.zero in
    let size : c.geometry.result ≡ sizes = c.geometry.ensures in
    let fits = has_told size c.pages.ensures.pages c.pages.ensures.in_range in
    let second : c.choose.new.mtr.latches.now.sizes ≡ sizes = ap (λ m. m.now.sizes) (c.choose.ensures.still.latches ∙ c.try_space.ensures.still.latches) in
    let pass : c.choose.new.mtr.pass.now ≡ s = ap (λ m. m.now) c.choose.ensures.pass in
    let ch = fresh-are g (goal.at.returns-in-Ok-try_new-clause-taken g c).In-Ok-choose fits key p reached in
    let took = subst (λ (u : PassState). IsGrowing sizes key path (space_pages reached.held) u → AreOnce (reached.held ++ 0 ∷ fresh) sizes.pages → HasTakenNew sizes key path (space_pages reached.held) fresh u t) pass
    (subst (λ (k : Sizes). IsGrowing k key path (space_pages reached.held) c.choose.new.mtr.pass.now → AreOnce (reached.held ++ 0 ∷ fresh) k.pages → HasTakenNew k key path (space_pages reached.held) fresh c.choose.new.mtr.pass.now t) second
    (c.in-Ok-try_new.ensures.taken key path reached.held)) in
    let long : length fresh ≤ 9 = (let few = fresh-few g (goal.at.returns-in-Ok-try_new-clause-taken g c).In-Ok-choose fits in omega arith) in
    ready-some sizes fits key path c.args.need p q s reached h needs fresh t ch.0 ch.1 long (took h.growing (space-once sizes fits key path c.args.need p q s reached h fresh ch.0))

pub returns-in-Err-choose-clause-not_taken : goal.returns-in-Err-choose-clause-not_taken
returns-in-Err-choose-clause-not_taken g c = λ key p reached needs.
    let sizes : Sizes = c.args.mtr.now.latches.now.sizes in let q : PassState = c.args.mtr.now.pass.now in let s : PassState = c.try_space.new.mtr.pass.now in
    let path : List ℕ = c.args.path.now in
    let h = c.in-Ok.ensures.grown key path reached.held reached.growing reached.zero in
    let size : c.geometry.result ≡ sizes = c.geometry.ensures in
    let fits = has_told size c.pages.ensures.pages c.pages.ensures.in_range in
    let first : c.try_space.new.mtr.latches.now.sizes ≡ sizes = ap (λ m. m.now.sizes) c.try_space.ensures.still.latches in
    let pass : c.choose.new.mtr.pass.now ≡ s = ap (λ m. m.now) c.choose.ensures.pass in
    let i = image sizes fits key path c.args.need p q s reached h in
    let less = subst (λ (k : Sizes). (image : List ℕ) → changed_of 0 s.work ≡ Some image → IsLacking k.pages image c.args.need c.in-Err-choose.fault) first c.in-Err-choose.ensures.short
    i (image-there sizes fits key path c.args.need p q s reached h) in
    subst (λ (u : PassState). IsShort sizes key path c.free_pages.result c.args.need q u) (sym pass)
    (short-some sizes fits key path c.args.need p q s reached h needs c.free_pages.result (c.free_pages.ensures (free_of (bits_in sizes.pages i) sizes.pages) c.args.need less.0) less.1)

pub returns-then-need-eq0-clause-grants : goal.returns-then-need-eq0-clause-grants
returns-then-need-eq0-clause-grants g c = record { s = omega arith; sx = omega arith; x = omega arith }

pub returns-then-need-eq0-clause-twice : goal.returns-then-need-eq0-clause-twice
returns-then-need-eq0-clause-twice g c = few_none c.args.mtr.now.pass.now

pub returns-in-Err-clause-not_taken : goal.returns-in-Err-clause-not_taken
returns-in-Err-clause-not_taken g c = λ key p reached needs. space-refused c.args.mtr.now.latches.now.sizes key c.in-Err.fault c.args.mtr.now.pass.now c.try_space.new.mtr.pass.now c.in-Err.ensures.vain

pub returns-in-Ok-try_new-clause-grants : goal.returns-in-Ok-try_new-clause-grants
returns-in-Ok-try_new-clause-grants g c =
    let sizes : Sizes = c.args.mtr.now.latches.now.sizes in
    let size : c.geometry.result ≡ sizes = c.geometry.ensures in
    let fits = has_told size c.pages.ensures.pages c.pages.ensures.in_range in
    let long = fresh-few g (goal.at.returns-in-Ok-try_new-clause-grants g c).In-Ok-choose fits in
    let r = c.requires.ready in let h = c.in-Ok.ensures.grown r.0 c.args.path.now r.2.held r.2.growing r.2.zero in
    let x = ap (λ (v : Grants). v.x) h.grants in let y = ap (λ (v : Grants). v.s) h.grants in let z = ap (λ (v : Grants). v.sx) h.grants in
    let same = ap (λ m. m.now.view.grants) c.choose.ensures.pass in
    let i = ap (λ (v : Grants). v.x) same in let j = ap (λ (v : Grants). v.s) same in let k = ap (λ (v : Grants). v.sx) same in
    let n = c.in-Ok-try_new.ensures.grants in let a = n.s in let b = n.sx in let d = n.x in
    record { s = omega arith; sx = omega arith; x = omega arith }

pub returns-in-Ok-try_new-clause-twice : goal.returns-in-Ok-try_new-clause-twice
returns-in-Ok-try_new-clause-twice g c =
    let q : PassState = c.args.mtr.now.pass.now in let s : PassState = c.try_space.new.mtr.pass.now in let t : PassState = c.try_new.new.mtr.pass.now in
    let pass : c.choose.new.mtr.pass.now ≡ s = ap (λ m. m.now) c.choose.ensures.pass in
    few_both 0 q.view s.view t.view c.in-Ok.ensures.twice (subst (λ (u : PassState). AreFewLooks 0 u.view t.view) pass c.in-Ok-try_new.ensures.twice)

pub returns-in-Err-try_new-clause-not_taken : goal.returns-in-Err-try_new-clause-not_taken
returns-in-Err-try_new-clause-not_taken g c = λ key p reached needs.
    let sizes : Sizes = c.args.mtr.now.latches.now.sizes in let q : PassState = c.args.mtr.now.pass.now in let s : PassState = c.try_space.new.mtr.pass.now in let t : PassState = c.try_new.new.mtr.pass.now in
    let path : List ℕ = c.args.path.now in let fresh : List ℕ = c.in-Ok-choose.fresh in let f = c.in-Err-try_new.fault in
    let h = c.in-Ok.ensures.grown key path reached.held reached.growing reached.zero in
    let size : c.geometry.result ≡ sizes = c.geometry.ensures in
    let fits = has_told size c.pages.ensures.pages c.pages.ensures.in_range in
    let at = goal.at.returns-in-Err-try_new-clause-not_taken g c in
    let ch = fresh-are g at.In-Ok-choose fits key p reached in
    let second : c.choose.new.mtr.latches.now.sizes ≡ sizes = ap (λ m. m.now.sizes) (c.choose.ensures.still.latches ∙ c.try_space.ensures.still.latches) in
    let pass : c.choose.new.mtr.pass.now ≡ s = ap (λ m. m.now) c.choose.ensures.pass in
    let refused = subst (λ (u : PassState). IsGrowing sizes key path (space_pages reached.held) u → AreOnce (reached.held ++ 0 ∷ fresh) sizes.pages → IsNewRefused sizes key path fresh f u t) pass
    (subst (λ (k : Sizes). IsGrowing k key path (space_pages reached.held) c.choose.new.mtr.pass.now → AreOnce (reached.held ++ 0 ∷ fresh) k.pages → IsNewRefused k key path fresh f c.choose.new.mtr.pass.now t) second
    (c.in-Err-try_new.ensures.refused key path reached.held)) in
    fresh-refused sizes fits key path c.args.need p q s reached h needs fresh ch.0 c.in-Ok.ensures.twice (fresh-few g at.In-Ok-choose fits) f t
    (refused h.growing (space-once sizes fits key path c.args.need p q s reached h fresh ch.0))

pub returns-in-Err-choose-clause-short : goal.returns-in-Err-choose-clause-short
returns-in-Err-choose-clause-short g c = λ free is.
    let q : PassState = c.args.mtr.now.pass.now in let s : PassState = c.try_space.new.mtr.pass.now in
    let pass : c.choose.new.mtr.pass.now ≡ s = ap (λ m. m.now) c.choose.ensures.pass in
    subst (λ (u : PassState). AreFewLooks 0 q.view u.view) (sym pass) c.in-Ok.ensures.twice
