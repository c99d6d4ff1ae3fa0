-- Page 0, the pages of the first tree that it says are free, and those of the second.
use Rattle.std.specs.List.{AllByRecursion}
use Rattle.std.proofs.Common.{◌≡◌, ◌∙◌, ◌∷◌, ◌++◌, ◌≤◌, ◌+◌, true, List, [], Some, ℕ, ap, sym, subst, arith, length, map}
use Rattle.ib_map.specs.Keys.{MapKey}
use Rattle.ib_map.specs.Space.{has_pages}
use Rattle.ib_second_key.specs.SecondKeys.{second_key_of}
use Rattle.ib_layout.specs.Geometry.{Sizes}
use Rattle.ib_levels.specs.declared.level.Level.{Level}
use Rattle.ib_levels.specs.declared.level.Level.TheVariants.{PageNew}
use Rattle.ib_levels.specs.Level.{may_follow}
use Rattle.ib_page.specs.Work.{changed_of}
use Rattle.ib_plans.specs.Agreement.{bits_in}
use Rattle.ib_walk.specs.Full.{free_of}
use Rattle.ib_tree.specs.PageLists.{AreOnce}
use Rattle.ib_rule.specs.declared.looks.Grants.{Grants}
use Rattle.ib_rule.specs.Pass.{PassState}
use Rattle.ib_cursor.specs.Claims.{claim_grant}
use Rattle.ib_cursor.specs.Grants.{Grant}
use Rattle.ib_cursor.proofs.PageLaws.{has_told}
use Rattle.ib_second.specs.PairComes.{HasComeToPair, HasFoundTooFew, HasTakenFresh, IsChosenPair, IsLackingPair}
use Rattle.ib_index.specs.Grows.{held_grant, pages_held}
use Rattle.ib_second.specs.Stands.{HasTakenEach, StandsOnPair, at_level}
use Rattle.ib_second.proofs.FreshLaws.{HasPicked, all-few, all-zero, first-follow, first-once, fresh-none, fresh-refused, fresh-taken, one-long, pages-all, second-few, second-follow, second-once, space-few, with-space}
use Rattle.ib_second.proofs.SpaceLaws.{image-there}
use Rattle.ib_second.proofs.fresh.take_fresh.Given.{Over}
use Rattle.ib_second.proofs.fresh.take_fresh.Goals.{After-take_each, In-Ok}
use Rattle.ib_second.proofs.fresh.take_fresh.Goals as goal

-- both paths are held, for some key and value
abbrev IsCome : Sizes → PassState → Type 0
IsCome sizes p = (key : MapKey) × (value : ℕ) × (path : List ℕ) × (path2 : List ℕ) × (before : PassState) × HasComeToPair sizes key path (second_key_of key value) path2 before p

-- the pages of both trees that are held then, and page 0 behind them
abbrev trees : (sizes : Sizes) (p : PassState) → has_pages sizes.pages ≡ true → IsCome sizes p → List ℕ
trees sizes p fits r = pages-all sizes fits r.0 r.1 r.2 r.3 r.4 p r.5

abbrev spaced : (sizes : Sizes) (p : PassState) → has_pages sizes.pages ≡ true → IsCome sizes p → List (ℕ × Level)
spaced sizes p fits r = with-space sizes fits r.0 r.1 r.2 r.3 r.4 p r.5

-- the fresh pages are chosen by page 0
picked : (g : Over) (c : In-Ok g) (fits : has_pages c.args.mtr.now.latches.now.sizes.pages ≡ true) (r : IsCome c.args.mtr.now.latches.now.sizes c.args.mtr.now.pass.now)
    → HasPicked c.args.mtr.now.latches.now.sizes r.0 r.1 r.2 r.3 (trees c.args.mtr.now.latches.now.sizes c.args.mtr.now.pass.now fits r) c.args.need.first c.args.need.second c.in-Ok.fresh.first c.in-Ok.fresh.second c.args.mtr.now.pass.now
    c.take_space.new.mtr.pass.now
picked g c fits r =
    let sizes : Sizes = c.args.mtr.now.latches.now.sizes in let p : PassState = c.args.mtr.now.pass.now in let s : PassState = c.take_space.new.mtr.pass.now in
    let space = c.take_space.ensures.taken r.0 r.2 (second_key_of r.0 r.1) r.3 (trees sizes p fits r) r.5.stands (all-zero sizes fits r.0 r.1 r.2 r.3 r.4 p r.5) in
    let im = image-there s.work 0 space.there in
    record {
      space = space;
      image = im.0;
      there = im.1;
      chosen = subst (λ (k : Sizes). (image : List ℕ) → changed_of 0 s.work ≡ Some image → IsChosenPair k.pages image c.args.need.first c.args.need.second c.in-Ok.fresh.first c.in-Ok.fresh.second)
          (ap (λ m. m.now.sizes) c.take_space.ensures.still.latches) c.in-Ok.ensures.chosen im.0 im.1;
    }

-- those of the first tree are held
taken-first : (g : Over) (c : After-take_each g) (fits : has_pages c.args.mtr.now.latches.now.sizes.pages ≡ true) (r : IsCome c.args.mtr.now.latches.now.sizes c.args.mtr.now.pass.now)
    → HasPicked c.args.mtr.now.latches.now.sizes r.0 r.1 r.2 r.3 (trees c.args.mtr.now.latches.now.sizes c.args.mtr.now.pass.now fits r) c.args.need.first c.args.need.second c.in-Ok.fresh.first c.in-Ok.fresh.second c.args.mtr.now.pass.now
    c.take_space.new.mtr.pass.now
    → HasTakenEach c.args.mtr.now.latches.now.sizes r.0 r.2 (second_key_of r.0 r.1) r.3 (spaced c.args.mtr.now.latches.now.sizes c.args.mtr.now.pass.now fits r) c.in-Ok.fresh.first PageNew c.take_space.new.mtr.pass.now c.take_each.new.mtr.pass.now
taken-first g c fits r pick =
    let sizes : Sizes = c.args.mtr.now.latches.now.sizes in let p : PassState = c.args.mtr.now.pass.now in let s : PassState = c.take_space.new.mtr.pass.now in let t : PassState = c.take_each.new.mtr.pass.now in
    let one : List ℕ = c.in-Ok.fresh.first in let held = spaced sizes p fits r in let key2 = second_key_of r.0 r.1 in
    let took = subst (λ (k : Sizes). StandsOnPair k r.0 r.2 key2 r.3 held c.choose.new.mtr.pass.now → AreOnce (pages_held held ++ one) k.pages → HasTakenEach k r.0 r.2 key2 r.3 held one PageNew c.choose.new.mtr.pass.now t)
    (ap (λ m. m.now.sizes) (c.choose.ensures.still.latches ∙ c.take_space.ensures.still.latches)) (λ at once. c.take_each.ensures.taken r.0 r.2 key2 r.3 held at once) in
    subst (λ (v : PassState). StandsOnPair sizes r.0 r.2 key2 r.3 held v → HasTakenEach sizes r.0 r.2 key2 r.3 held one PageNew v t) (ap (λ m. m.now) c.choose.ensures.pass)
    (λ at. took at (first-once sizes fits r.0 r.1 r.2 r.3 r.4 p r.5 s c.args.need.first c.args.need.second one c.in-Ok.fresh.second pick)) pick.space.stands

-- pages may be taken, where the sizes are those that a step says
may-take : (sizes old : Sizes) (pages : List ℕ) (q : PassState) → old ≡ sizes
    → (x : MapKey) × (y : List ℕ) × (z : MapKey) × (w : List ℕ) × (hs : List (ℕ × Level)) × StandsOnPair sizes x y z w hs q × AreOnce (pages_held hs ++ pages) sizes.pages × AllByRecursion (λ (g : Grant). may_follow g.level PageNew ≡ true) (claim_grant ∷ map held_grant hs) × (length hs ≤ 23)
    → (x : MapKey) × (y : List ℕ) × (z : MapKey) × (w : List ℕ) × (hs : List (ℕ × Level)) × StandsOnPair old x y z w hs q × AreOnce (pages_held hs ++ pages) old.pages × AllByRecursion (λ (g : Grant). may_follow g.level PageNew ≡ true) (claim_grant ∷ map held_grant hs) × (length hs ≤ 23)
may-take sizes old pages q same may =
    subst (λ (k : Sizes). (x : MapKey) × (y : List ℕ) × (z : MapKey) × (w : List ℕ) × (hs : List (ℕ × Level)) × StandsOnPair k x y z w hs q × AreOnce (pages_held hs ++ pages) k.pages
    × AllByRecursion (λ (g : Grant). may_follow g.level PageNew ≡ true) (claim_grant ∷ map held_grant hs) × (length hs ≤ 23)) (sym same) may

pub returns-then-need-eq0-clause-taken : goal.returns-then-need-eq0-clause-taken
returns-then-need-eq0-clause-taken g c = λ key value path path2 before come needs.
    let sizes : Sizes = c.args.mtr.now.latches.now.sizes in let p : PassState = c.args.mtr.now.pass.now in
    let fits = has_told c.geometry.ensures c.pages.ensures.pages c.pages.ensures.in_range in
    let none : c.args.need.first + c.args.need.second ≡ 0 = c.if-need-eq0.true in
    subst (λ (one : List ℕ). HasTakenFresh sizes key value path path2 one c.no_pages.result.second p p) (sym c.no_pages.ensures.first)
    (subst (λ (two : List ℕ). HasTakenFresh sizes key value path path2 [] two p p) (sym c.no_pages.ensures.second)
    (fresh-none sizes fits key value path path2 before p come c.args.need.first c.args.need.second none needs))

pub take_space-requires-clause-ready : goal.take_space-requires-clause-ready
take_space-requires-clause-ready g c =
    let sizes : Sizes = c.args.mtr.now.latches.now.sizes in let p : PassState = c.args.mtr.now.pass.now in let r = c.requires.ready in
    let fits = has_told c.geometry.ensures c.pages.ensures.pages c.pages.ensures.in_range in
    (r.0, r.2, second_key_of r.0 r.1, r.3, trees sizes p fits r, r.5.stands, all-zero sizes fits r.0 r.1 r.2 r.3 r.4 p r.5, (let f = all-few sizes fits r.0 r.1 r.2 r.3 r.4 p r.5 in omega arith))

pub choose-requires-clause-space : goal.choose-requires-clause-space
choose-requires-clause-space g c =
    let sizes : Sizes = c.args.mtr.now.latches.now.sizes in let p : PassState = c.args.mtr.now.pass.now in let r = c.requires.ready in
    let fits = has_told c.geometry.ensures c.pages.ensures.pages c.pages.ensures.in_range in
    (c.take_space.ensures.taken r.0 r.2 (second_key_of r.0 r.1) r.3 (trees sizes p fits r) r.5.stands (all-zero sizes fits r.0 r.1 r.2 r.3 r.4 p r.5)).there

pub take_each-requires-clause-room : goal.take_each-requires-clause-room
take_each-requires-clause-room g c =
    let fits = has_told c.geometry.ensures c.pages.ensures.pages c.pages.ensures.in_range in
    let pick = picked g (goal.at.take_each-requires-clause-room g c).In-Ok fits c.requires.ready in
    let x = ap (λ (v : Grants). v.x) pick.space.grants in let y = ap (λ (v : Grants). v.s) pick.space.grants in let z = ap (λ (v : Grants). v.sx) pick.space.grants in let room = c.requires.room in
    let same = ap (λ m. m.now.view.grants) c.choose.ensures.pass in
    let a = ap (λ (v : Grants). v.x) same in let b = ap (λ (v : Grants). v.s) same in let d = ap (λ (v : Grants). v.sx) same in omega arith

pub take_each-requires-clause-ready : goal.take_each-requires-clause-ready
take_each-requires-clause-ready g c =
    let sizes : Sizes = c.args.mtr.now.latches.now.sizes in let p : PassState = c.args.mtr.now.pass.now in let s : PassState = c.take_space.new.mtr.pass.now in let r = c.requires.ready in
    let fits = has_told c.geometry.ensures c.pages.ensures.pages c.pages.ensures.in_range in
    let pick = picked g (goal.at.take_each-requires-clause-ready g c).In-Ok fits r in
    let one : List ℕ = c.in-Ok.fresh.first in let two : List ℕ = c.in-Ok.fresh.second in let a : ℕ = c.args.need.first in let b : ℕ = c.args.need.second in let held = spaced sizes p fits r in
    may-take sizes c.choose.new.mtr.latches.now.sizes one c.choose.new.mtr.pass.now (ap (λ m. m.now.sizes) (c.choose.ensures.still.latches ∙ c.take_space.ensures.still.latches)) (
      r.0,
      r.2,
      second_key_of r.0 r.1,
      r.3,
      held,
      subst (StandsOnPair sizes r.0 r.2 (second_key_of r.0 r.1) r.3 held) (sym (ap (λ m. m.now) c.choose.ensures.pass)) pick.space.stands,
      first-once sizes fits r.0 r.1 r.2 r.3 r.4 p r.5 s a b one two pick,
      first-follow sizes fits r.0 r.1 r.2 r.3 r.4 p r.5 s a b one two pick,
      (let f = space-few sizes fits r.0 r.1 r.2 r.3 r.4 p r.5 s a b one two pick in omega arith),
    )

pub take_each-requires-in-Ok-clause-room : goal.take_each-requires-in-Ok-clause-room
take_each-requires-in-Ok-clause-room g c =
    let all = goal.at.take_each-requires-in-Ok-clause-room g c in let r = c.requires.ready in
    let fits = has_told c.geometry.ensures c.pages.ensures.pages c.pages.ensures.in_range in
    let pick = picked g all.In-Ok fits r in
    let x = ap (λ (v : Grants). v.x) pick.space.grants in let y = ap (λ (v : Grants). v.s) pick.space.grants in let z = ap (λ (v : Grants). v.sx) pick.space.grants in let room = c.requires.room in
    let m = (taken-first g all.After-take_each fits r pick).grants in
    let l = one-long c.args.mtr.now.latches.now.sizes fits r.0 r.1 r.2 r.3 r.4 c.args.mtr.now.pass.now r.5 c.take_space.new.mtr.pass.now c.args.need.first c.args.need.second c.in-Ok.fresh.first c.in-Ok.fresh.second pick in
    let few = c.requires.few in omega arith

pub take_each-requires-in-Ok-clause-ready : goal.take_each-requires-in-Ok-clause-ready
take_each-requires-in-Ok-clause-ready g c =
    let all = goal.at.take_each-requires-in-Ok-clause-ready g c in let r = c.requires.ready in
    let sizes : Sizes = c.args.mtr.now.latches.now.sizes in let p : PassState = c.args.mtr.now.pass.now in let s : PassState = c.take_space.new.mtr.pass.now in
    let fits = has_told c.geometry.ensures c.pages.ensures.pages c.pages.ensures.in_range in
    let pick = picked g all.In-Ok fits r in let took = taken-first g all.After-take_each fits r pick in
    let one : List ℕ = c.in-Ok.fresh.first in let two : List ℕ = c.in-Ok.fresh.second in let a : ℕ = c.args.need.first in let b : ℕ = c.args.need.second in
    may-take sizes c.take_each.new.mtr.latches.now.sizes two c.take_each.new.mtr.pass.now (ap (λ m. m.now.sizes) (c.take_each.ensures.still.latches ∙ (c.choose.ensures.still.latches ∙ c.take_space.ensures.still.latches))) (
      r.0,
      r.2,
      second_key_of r.0 r.1,
      r.3,
      spaced sizes p fits r ++ at_level PageNew one,
      took.stands,
      second-once sizes fits r.0 r.1 r.2 r.3 r.4 p r.5 s a b one two pick,
      second-follow sizes fits r.0 r.1 r.2 r.3 r.4 p r.5 s a b one two pick,
      (let f = second-few sizes fits r.0 r.1 r.2 r.3 r.4 p r.5 s a b one two pick c.requires.few in omega arith),
    )

pub returns-in-Err-clause-short : goal.returns-in-Err-clause-short
returns-in-Err-clause-short g c = λ key value path path2 before come needs.
    let sizes : Sizes = c.args.mtr.now.latches.now.sizes in let p : PassState = c.args.mtr.now.pass.now in let s : PassState = c.take_space.new.mtr.pass.now in
    let fits = has_told c.geometry.ensures c.pages.ensures.pages c.pages.ensures.in_range in
    let space = c.take_space.ensures.taken key path (second_key_of key value) path2 (pages-all sizes fits key value path path2 before p come) come.stands (all-zero sizes fits key value path path2 before p come) in
    let im = image-there s.work 0 space.there in
    let a : ℕ = c.args.need.first in let b : ℕ = c.args.need.second in
    let less = subst (λ (k : Sizes). (image : List ℕ) → changed_of 0 s.work ≡ Some image → IsLackingPair k.pages image (a + b) c.in-Err.fault) (ap (λ m. m.now.sizes) c.take_space.ensures.still.latches) c.in-Err.ensures.short im.0 im.1 in
    subst (λ (u : PassState). HasFoundTooFew sizes key value path path2 c.free_pages.result (a + b) p u) (sym (ap (λ m. m.now) c.choose.ensures.pass))
    (fresh-refused sizes fits key value path path2 before p come s space im.0 im.1 a b c.free_pages.result needs (c.free_pages.ensures (free_of (bits_in sizes.pages im.0) sizes.pages) (a + b) less.0) less.1)

pub returns-in-Ok-clause-taken : goal.returns-in-Ok-clause-taken
returns-in-Ok-clause-taken g c = λ key value path path2 before come needs.
    let all = goal.at.returns-in-Ok-clause-taken g c in let r : IsCome c.args.mtr.now.latches.now.sizes c.args.mtr.now.pass.now = (key, value, path, path2, before, come) in
    let sizes : Sizes = c.args.mtr.now.latches.now.sizes in let p : PassState = c.args.mtr.now.pass.now in let s : PassState = c.take_space.new.mtr.pass.now in let t : PassState = c.take_each.new.mtr.pass.now in let u : PassState = c.take_each-in-Ok.new.mtr.pass.now in
    let fits = has_told c.geometry.ensures c.pages.ensures.pages c.pages.ensures.in_range in
    let pick = picked g all.In-Ok fits r in let took = taken-first g all.After-take_each fits r pick in
    let one : List ℕ = c.in-Ok.fresh.first in let two : List ℕ = c.in-Ok.fresh.second in let a : ℕ = c.args.need.first in let b : ℕ = c.args.need.second in
    let held = spaced sizes p fits r ++ at_level PageNew one in let key2 : MapKey = second_key_of key value in
    let more = subst (λ (k : Sizes). StandsOnPair k key path key2 path2 held t → AreOnce (pages_held held ++ two) k.pages → HasTakenEach k key path key2 path2 held two PageNew t u)
    (ap (λ m. m.now.sizes) (c.take_each.ensures.still.latches ∙ (c.choose.ensures.still.latches ∙ c.take_space.ensures.still.latches))) (λ at once. c.take_each-in-Ok.ensures.taken key path key2 path2 held at once)
    took.stands (second-once sizes fits key value path path2 before p come s a b one two pick) in
    fresh-taken sizes fits key value path path2 before p come s a b one two pick c.requires.few needs t u took more
