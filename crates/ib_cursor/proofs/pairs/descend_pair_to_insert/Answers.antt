-- The claim, both paths, and the pages of both.
use Rattle.std.proofs.Common.{◌∙◌, ◌∷◌, ◌++◌, List, [], ℕ, ap, sym, subst, arith, length, length-append}
use Rattle.ib_layout.specs.Geometry.{Sizes}
use Rattle.ib_logrec.specs.Log.{by_place}
use Rattle.ib_rule.specs.declared.looks.Grants.{Grants}
use Rattle.ib_rule.specs.Pass.{PassState}
use Rattle.ib_cursor.specs.Claims.{beside}
use Rattle.ib_cursor.specs.Shapes.{HasIndex, HasReadPath}
use Rattle.ib_cursor.specs.Takings.{HasTakenMore, MayTakePath}
use Rattle.ib_cursor.proofs.EndLaws.{start_index}
use Rattle.ib_cursor.proofs.GrantLaws.{none_granted}
use Rattle.ib_cursor.proofs.PairLaws.{few1, list1, may-first, may-second, pair-claimed}
use Rattle.ib_cursor.proofs.pairs.descend_pair_to_insert.Goals as goal

pub read_path-found-requires-clause-index : goal.read_path-found-requires-clause-index
read_path-found-requires-clause-index g c =
    let sizes : Sizes = c.args.mtr.now.latches.now.sizes in
    let p : PassState = c.args.mtr.now.pass.now in let q : PassState = c.claim_index.new.mtr.pass.now in
    let idle = none_granted c.args.mtr.now.latches.now p c.requires.may.mtr c.requires.may.memo in
    subst (λ (s : Sizes). HasIndex s (g.L.Law.lawful s.pages) q) (sym (ap (λ m. m.now.sizes) c.claim_index.ensures.still.latches))
    (start_index sizes g.L.Trees.ROOTS (g.L.Law.lawful sizes.pages) (by_place g.L.Law.opening sizes.pages) c.facts_of_trees.ensures.shapes c.args.first.root c.requires.first.some c.requires.first.there c.args.first.key c.requires.first.is_key [] 0 0 p q q q q idle c.requires.may.none
    c.claim_index.ensures.latched c.claim_index.ensures.claimed)

pub read_path-found-requires-clause-room : goal.read_path-found-requires-clause-room
read_path-found-requires-clause-room g c =
    let gs = c.claim_index.ensures.latched.grants in let a = ap (λ (g : Grants). g.s) gs in let b = ap (λ (g : Grants). g.sx) gs in let d = ap (λ (g : Grants). g.x) gs in let room = c.requires.room in
    omega arith

pub read_path-beside-requires-clause-index : goal.read_path-beside-requires-clause-index
read_path-beside-requires-clause-index g c =
    let r1 : PassState = c.read_path-found.new.mtr.pass.now in
    subst (λ (s : Sizes). HasIndex s (g.L.Law.lawful s.pages) r1) (sym (ap (λ m. m.now.sizes) c.read_path-found.ensures.still.latches)) c.read_path-found.ensures.on_path.index

pub read_path-beside-requires-clause-room : goal.read_path-beside-requires-clause-room
read_path-beside-requires-clause-room g c =
    let gs = c.claim_index.ensures.latched.grants in let a = ap (λ (g : Grants). g.s) gs in let b = ap (λ (g : Grants). g.sx) gs in let d = ap (λ (g : Grants). g.x) gs in let room = c.requires.room in
    let w = c.read_path-found.ensures.on_path in let e = w.s in let f = w.sx in let h = w.x in let i = w.short in let j = ap length w.ends in let k = length-append w.front (c.read_path-found.result.leaf ∷ []) in omega arith

pub take_path-requires-clause-ready : goal.take_path-requires-clause-ready
take_path-requires-clause-ready g c =
    let sizes : Sizes = c.args.mtr.now.latches.now.sizes in
    let p : PassState = c.args.mtr.now.pass.now in let q : PassState = c.claim_index.new.mtr.pass.now in let r1 : PassState = c.read_path-found.new.mtr.pass.now in let r2 : PassState = c.read_path-beside.new.mtr.pass.now in
    let way = c.read_path-found.result in let other = c.read_path-beside.result in
    let e1 = ap (λ m. m.now.sizes) c.claim_index.ensures.still.latches in
    let e2 = ap (λ m. m.now.sizes) (c.read_path-found.ensures.still.latches ∙ c.claim_index.ensures.still.latches) in
    let e3 = ap (λ m. m.now.sizes) (c.read_path-beside.ensures.still.latches ∙ (c.read_path-found.ensures.still.latches ∙ c.claim_index.ensures.still.latches)) in
    let latched = c.claim_index.ensures.latched in
    let first = subst (λ (k : Sizes). HasReadPath k (g.L.Law.lawful k.pages) (by_place g.L.Law.opening k.pages) c.args.first.root c.args.first.key way.path way.leaf way.left q r1) e1 c.read_path-found.ensures.on_path in
    let second = subst (λ (k : Sizes). HasReadPath k (g.L.Law.lawful k.pages) (by_place g.L.Law.opening k.pages) c.args.other.root c.args.other.key other.path other.leaf other.left r1 r2) e2 c.read_path-beside.ensures.on_path in
    let may1 = may-first sizes g.L.Trees.ROOTS (g.L.Law.lawful sizes.pages) (by_place g.L.Law.opening sizes.pages) c.facts_of_trees.ensures.shapes c.args.first.root c.requires.first.some c.requires.first.there c.args.first.key c.requires.first.is_key c.args.other.root c.requires.other.some c.requires.other.there c.args.other.key c.requires.other.is_key c.requires.apart way.path way.leaf way.left other.path other.leaf other.left p q r1 r2 latched first second in
    subst (λ (k : Sizes). (x : List ℕ) × MayTakePath k (g.L.Law.lawful k.pages) (by_place g.L.Law.opening k.pages) x way.path way.leaf way.left r2) (sym e3) ([], may1)

pub take_path-requires-clause-room : goal.take_path-requires-clause-room
take_path-requires-clause-room g c =
    let gs = c.claim_index.ensures.latched.grants in let a = ap (λ (g : Grants). g.s) gs in let b = ap (λ (g : Grants). g.sx) gs in let d = ap (λ (g : Grants). g.x) gs in let room = c.requires.room in
    let w = c.read_path-found.ensures.on_path in let e = w.s in let f = w.sx in let h = w.x in let i = w.short in let j = ap length w.ends in let k = length-append w.front (c.read_path-found.result.leaf ∷ []) in
    let v = c.read_path-beside.ensures.on_path in let e5 = v.s in let f5 = v.sx in let h5 = v.x in let i5 = v.short in let j5 = ap length v.ends in let k5 = length-append v.front (c.read_path-beside.result.leaf ∷ []) in omega arith

pub take_path-requires-2-clause-room : goal.take_path-requires-2-clause-room
take_path-requires-2-clause-room g c =
    let sizes : Sizes = c.args.mtr.now.latches.now.sizes in
    let p : PassState = c.args.mtr.now.pass.now in let q : PassState = c.claim_index.new.mtr.pass.now in let r1 : PassState = c.read_path-found.new.mtr.pass.now in let r2 : PassState = c.read_path-beside.new.mtr.pass.now in
    let way = c.read_path-found.result in let other = c.read_path-beside.result in
    let e1 = ap (λ m. m.now.sizes) c.claim_index.ensures.still.latches in
    let e2 = ap (λ m. m.now.sizes) (c.read_path-found.ensures.still.latches ∙ c.claim_index.ensures.still.latches) in
    let e3 = ap (λ m. m.now.sizes) (c.read_path-beside.ensures.still.latches ∙ (c.read_path-found.ensures.still.latches ∙ c.claim_index.ensures.still.latches)) in
    let latched = c.claim_index.ensures.latched in
    let first = subst (λ (k : Sizes). HasReadPath k (g.L.Law.lawful k.pages) (by_place g.L.Law.opening k.pages) c.args.first.root c.args.first.key way.path way.leaf way.left q r1) e1 c.read_path-found.ensures.on_path in
    let second = subst (λ (k : Sizes). HasReadPath k (g.L.Law.lawful k.pages) (by_place g.L.Law.opening k.pages) c.args.other.root c.args.other.key other.path other.leaf other.left r1 r2) e2 c.read_path-beside.ensures.on_path in
    let may1 = may-first sizes g.L.Trees.ROOTS (g.L.Law.lawful sizes.pages) (by_place g.L.Law.opening sizes.pages) c.facts_of_trees.ensures.shapes c.args.first.root c.requires.first.some c.requires.first.there c.args.first.key c.requires.first.is_key c.args.other.root c.requires.other.some c.requires.other.there c.args.other.key c.requires.other.is_key c.requires.apart way.path way.leaf way.left other.path other.leaf other.left p q r1 r2 latched first second in
    let t1 : PassState = c.take_path.new.mtr.pass.now in
    let more1 = subst (λ (k : Sizes). (held : List ℕ) (r : MayTakePath k (g.L.Law.lawful k.pages) (by_place g.L.Law.opening k.pages) held way.path way.leaf way.left r2)
    → HasTakenMore k (g.L.Law.lawful k.pages) (by_place g.L.Law.opening k.pages) held (r.front ++ (beside way.left ++ way.leaf ∷ beside r.right)) r2 t1) e3 c.take_path.ensures.taken [] may1 in
    let few = few1 sizes g.L.Trees.ROOTS (g.L.Law.lawful sizes.pages) (by_place g.L.Law.opening sizes.pages) c.facts_of_trees.ensures.shapes c.args.first.root c.requires.first.some c.requires.first.there c.args.first.key c.requires.first.is_key c.args.other.root c.requires.other.some c.requires.other.there c.args.other.key c.requires.other.is_key c.requires.apart way.path way.leaf way.left other.path other.leaf other.left p q r1 r2 latched first second in
    let gs = c.claim_index.ensures.latched.grants in let a = ap (λ (g : Grants). g.s) gs in let b = ap (λ (g : Grants). g.sx) gs in let d = ap (λ (g : Grants). g.x) gs in let room = c.requires.room in
    let w = c.read_path-found.ensures.on_path in let e = w.s in let f = w.sx in let h = w.x in let i = w.short in let j = ap length w.ends in let k = length-append w.front (c.read_path-found.result.leaf ∷ []) in
    let v = c.read_path-beside.ensures.on_path in let e5 = v.s in let f5 = v.sx in let h5 = v.x in let i5 = v.short in let j5 = ap length v.ends in let k5 = length-append v.front (c.read_path-beside.result.leaf ∷ []) in
    let m1 = more1.s in let m2 = more1.sx in let m3 = more1.x in omega arith

pub take_path-requires-2-clause-ready : goal.take_path-requires-2-clause-ready
take_path-requires-2-clause-ready g c =
    let sizes : Sizes = c.args.mtr.now.latches.now.sizes in
    let p : PassState = c.args.mtr.now.pass.now in let q : PassState = c.claim_index.new.mtr.pass.now in let r1 : PassState = c.read_path-found.new.mtr.pass.now in let r2 : PassState = c.read_path-beside.new.mtr.pass.now in
    let way = c.read_path-found.result in let other = c.read_path-beside.result in
    let e1 = ap (λ m. m.now.sizes) c.claim_index.ensures.still.latches in
    let e2 = ap (λ m. m.now.sizes) (c.read_path-found.ensures.still.latches ∙ c.claim_index.ensures.still.latches) in
    let e3 = ap (λ m. m.now.sizes) (c.read_path-beside.ensures.still.latches ∙ (c.read_path-found.ensures.still.latches ∙ c.claim_index.ensures.still.latches)) in
    let latched = c.claim_index.ensures.latched in
    let first = subst (λ (k : Sizes). HasReadPath k (g.L.Law.lawful k.pages) (by_place g.L.Law.opening k.pages) c.args.first.root c.args.first.key way.path way.leaf way.left q r1) e1 c.read_path-found.ensures.on_path in
    let second = subst (λ (k : Sizes). HasReadPath k (g.L.Law.lawful k.pages) (by_place g.L.Law.opening k.pages) c.args.other.root c.args.other.key other.path other.leaf other.left r1 r2) e2 c.read_path-beside.ensures.on_path in
    let may1 = may-first sizes g.L.Trees.ROOTS (g.L.Law.lawful sizes.pages) (by_place g.L.Law.opening sizes.pages) c.facts_of_trees.ensures.shapes c.args.first.root c.requires.first.some c.requires.first.there c.args.first.key c.requires.first.is_key c.args.other.root c.requires.other.some c.requires.other.there c.args.other.key c.requires.other.is_key c.requires.apart way.path way.leaf way.left other.path other.leaf other.left p q r1 r2 latched first second in
    let t1 : PassState = c.take_path.new.mtr.pass.now in
    let more1 = subst (λ (k : Sizes). (held : List ℕ) (r : MayTakePath k (g.L.Law.lawful k.pages) (by_place g.L.Law.opening k.pages) held way.path way.leaf way.left r2)
    → HasTakenMore k (g.L.Law.lawful k.pages) (by_place g.L.Law.opening k.pages) held (r.front ++ (beside way.left ++ way.leaf ∷ beside r.right)) r2 t1) e3 c.take_path.ensures.taken [] may1 in
    let e4 = ap (λ m. m.now.sizes) (c.take_path.ensures.still.latches ∙ (c.read_path-beside.ensures.still.latches ∙ (c.read_path-found.ensures.still.latches ∙ c.claim_index.ensures.still.latches))) in
    let all1 = list1 sizes g.L.Trees.ROOTS (g.L.Law.lawful sizes.pages) (by_place g.L.Law.opening sizes.pages) c.facts_of_trees.ensures.shapes c.args.first.root c.requires.first.some c.requires.first.there c.args.first.key c.requires.first.is_key c.args.other.root c.requires.other.some c.requires.other.there c.args.other.key c.requires.other.is_key c.requires.apart way.path way.leaf way.left other.path other.leaf other.left p q r1 r2 latched first second in
    let may2 = may-second sizes g.L.Trees.ROOTS (g.L.Law.lawful sizes.pages) (by_place g.L.Law.opening sizes.pages) c.facts_of_trees.ensures.shapes c.args.first.root c.requires.first.some c.requires.first.there c.args.first.key c.requires.first.is_key c.args.other.root c.requires.other.some c.requires.other.there c.args.other.key c.requires.other.is_key c.requires.apart way.path way.leaf way.left other.path other.leaf other.left p q r1 r2 latched first second t1 more1 in
    subst (λ (k : Sizes). (x : List ℕ) × MayTakePath k (g.L.Law.lawful k.pages) (by_place g.L.Law.opening k.pages) x other.path other.leaf other.left t1) (sym e4) (all1, may2)

pub returns-clause-claimed : goal.returns-clause-claimed
returns-clause-claimed g c =
    let sizes : Sizes = c.args.mtr.now.latches.now.sizes in
    let p : PassState = c.args.mtr.now.pass.now in let q : PassState = c.claim_index.new.mtr.pass.now in let r1 : PassState = c.read_path-found.new.mtr.pass.now in let r2 : PassState = c.read_path-beside.new.mtr.pass.now in
    let way = c.read_path-found.result in let other = c.read_path-beside.result in
    let e1 = ap (λ m. m.now.sizes) c.claim_index.ensures.still.latches in
    let e2 = ap (λ m. m.now.sizes) (c.read_path-found.ensures.still.latches ∙ c.claim_index.ensures.still.latches) in
    let e3 = ap (λ m. m.now.sizes) (c.read_path-beside.ensures.still.latches ∙ (c.read_path-found.ensures.still.latches ∙ c.claim_index.ensures.still.latches)) in
    let latched = c.claim_index.ensures.latched in
    let first = subst (λ (k : Sizes). HasReadPath k (g.L.Law.lawful k.pages) (by_place g.L.Law.opening k.pages) c.args.first.root c.args.first.key way.path way.leaf way.left q r1) e1 c.read_path-found.ensures.on_path in
    let second = subst (λ (k : Sizes). HasReadPath k (g.L.Law.lawful k.pages) (by_place g.L.Law.opening k.pages) c.args.other.root c.args.other.key other.path other.leaf other.left r1 r2) e2 c.read_path-beside.ensures.on_path in
    let may1 = may-first sizes g.L.Trees.ROOTS (g.L.Law.lawful sizes.pages) (by_place g.L.Law.opening sizes.pages) c.facts_of_trees.ensures.shapes c.args.first.root c.requires.first.some c.requires.first.there c.args.first.key c.requires.first.is_key c.args.other.root c.requires.other.some c.requires.other.there c.args.other.key c.requires.other.is_key c.requires.apart way.path way.leaf way.left other.path other.leaf other.left p q r1 r2 latched first second in
    let t1 : PassState = c.take_path.new.mtr.pass.now in
    let more1 = subst (λ (k : Sizes). (held : List ℕ) (r : MayTakePath k (g.L.Law.lawful k.pages) (by_place g.L.Law.opening k.pages) held way.path way.leaf way.left r2)
    → HasTakenMore k (g.L.Law.lawful k.pages) (by_place g.L.Law.opening k.pages) held (r.front ++ (beside way.left ++ way.leaf ∷ beside r.right)) r2 t1) e3 c.take_path.ensures.taken [] may1 in
    let e4 = ap (λ m. m.now.sizes) (c.take_path.ensures.still.latches ∙ (c.read_path-beside.ensures.still.latches ∙ (c.read_path-found.ensures.still.latches ∙ c.claim_index.ensures.still.latches))) in
    let all1 = list1 sizes g.L.Trees.ROOTS (g.L.Law.lawful sizes.pages) (by_place g.L.Law.opening sizes.pages) c.facts_of_trees.ensures.shapes c.args.first.root c.requires.first.some c.requires.first.there c.args.first.key c.requires.first.is_key c.args.other.root c.requires.other.some c.requires.other.there c.args.other.key c.requires.other.is_key c.requires.apart way.path way.leaf way.left other.path other.leaf other.left p q r1 r2 latched first second in
    let may2 = may-second sizes g.L.Trees.ROOTS (g.L.Law.lawful sizes.pages) (by_place g.L.Law.opening sizes.pages) c.facts_of_trees.ensures.shapes c.args.first.root c.requires.first.some c.requires.first.there c.args.first.key c.requires.first.is_key c.args.other.root c.requires.other.some c.requires.other.there c.args.other.key c.requires.other.is_key c.requires.apart way.path way.leaf way.left other.path other.leaf other.left p q r1 r2 latched first second t1 more1 in
    let t2 : PassState = c.take_path-2.new.mtr.pass.now in
    let more2 = subst (λ (k : Sizes). (held : List ℕ) (r : MayTakePath k (g.L.Law.lawful k.pages) (by_place g.L.Law.opening k.pages) held other.path other.leaf other.left t1)
    → HasTakenMore k (g.L.Law.lawful k.pages) (by_place g.L.Law.opening k.pages) held (r.front ++ (beside other.left ++ other.leaf ∷ beside r.right)) t1 t2) e4 c.take_path-2.ensures.taken all1 may2 in
    pair-claimed sizes g.L.Trees.ROOTS (g.L.Law.lawful sizes.pages) (by_place g.L.Law.opening sizes.pages) c.facts_of_trees.ensures.shapes c.args.first.root c.requires.first.some c.requires.first.there c.args.first.key c.requires.first.is_key c.args.other.root c.requires.other.some c.requires.other.there c.args.other.key c.requires.other.is_key c.requires.apart way.path way.leaf way.left other.path other.leaf other.left p q r1 r2 latched first second t1 more1 t2 more2

pub returns-clause-alone : goal.returns-clause-alone
returns-clause-alone g c =
    let sizes : Sizes = c.args.mtr.now.latches.now.sizes in
    let p : PassState = c.args.mtr.now.pass.now in let q : PassState = c.claim_index.new.mtr.pass.now in let r1 : PassState = c.read_path-found.new.mtr.pass.now in let r2 : PassState = c.read_path-beside.new.mtr.pass.now in
    let way = c.read_path-found.result in let other = c.read_path-beside.result in
    let e1 = ap (λ m. m.now.sizes) c.claim_index.ensures.still.latches in
    let e2 = ap (λ m. m.now.sizes) (c.read_path-found.ensures.still.latches ∙ c.claim_index.ensures.still.latches) in
    let e3 = ap (λ m. m.now.sizes) (c.read_path-beside.ensures.still.latches ∙ (c.read_path-found.ensures.still.latches ∙ c.claim_index.ensures.still.latches)) in
    let latched = c.claim_index.ensures.latched in
    let first = subst (λ (k : Sizes). HasReadPath k (g.L.Law.lawful k.pages) (by_place g.L.Law.opening k.pages) c.args.first.root c.args.first.key way.path way.leaf way.left q r1) e1 c.read_path-found.ensures.on_path in
    let second = subst (λ (k : Sizes). HasReadPath k (g.L.Law.lawful k.pages) (by_place g.L.Law.opening k.pages) c.args.other.root c.args.other.key other.path other.leaf other.left r1 r2) e2 c.read_path-beside.ensures.on_path in
    let may1 = may-first sizes g.L.Trees.ROOTS (g.L.Law.lawful sizes.pages) (by_place g.L.Law.opening sizes.pages) c.facts_of_trees.ensures.shapes c.args.first.root c.requires.first.some c.requires.first.there c.args.first.key c.requires.first.is_key c.args.other.root c.requires.other.some c.requires.other.there c.args.other.key c.requires.other.is_key c.requires.apart way.path way.leaf way.left other.path other.leaf other.left p q r1 r2 latched first second in
    let t1 : PassState = c.take_path.new.mtr.pass.now in
    let more1 = subst (λ (k : Sizes). (held : List ℕ) (r : MayTakePath k (g.L.Law.lawful k.pages) (by_place g.L.Law.opening k.pages) held way.path way.leaf way.left r2)
    → HasTakenMore k (g.L.Law.lawful k.pages) (by_place g.L.Law.opening k.pages) held (r.front ++ (beside way.left ++ way.leaf ∷ beside r.right)) r2 t1) e3 c.take_path.ensures.taken [] may1 in
    let e4 = ap (λ m. m.now.sizes) (c.take_path.ensures.still.latches ∙ (c.read_path-beside.ensures.still.latches ∙ (c.read_path-found.ensures.still.latches ∙ c.claim_index.ensures.still.latches))) in
    let all1 = list1 sizes g.L.Trees.ROOTS (g.L.Law.lawful sizes.pages) (by_place g.L.Law.opening sizes.pages) c.facts_of_trees.ensures.shapes c.args.first.root c.requires.first.some c.requires.first.there c.args.first.key c.requires.first.is_key c.args.other.root c.requires.other.some c.requires.other.there c.args.other.key c.requires.other.is_key c.requires.apart way.path way.leaf way.left other.path other.leaf other.left p q r1 r2 latched first second in
    let may2 = may-second sizes g.L.Trees.ROOTS (g.L.Law.lawful sizes.pages) (by_place g.L.Law.opening sizes.pages) c.facts_of_trees.ensures.shapes c.args.first.root c.requires.first.some c.requires.first.there c.args.first.key c.requires.first.is_key c.args.other.root c.requires.other.some c.requires.other.there c.args.other.key c.requires.other.is_key c.requires.apart way.path way.leaf way.left other.path other.leaf other.left p q r1 r2 latched first second t1 more1 in
    let t2 : PassState = c.take_path-2.new.mtr.pass.now in
    let more2 = subst (λ (k : Sizes). (held : List ℕ) (r : MayTakePath k (g.L.Law.lawful k.pages) (by_place g.L.Law.opening k.pages) held other.path other.leaf other.left t1)
    → HasTakenMore k (g.L.Law.lawful k.pages) (by_place g.L.Law.opening k.pages) held (r.front ++ (beside other.left ++ other.leaf ∷ beside r.right)) t1 t2) e4 c.take_path-2.ensures.taken all1 may2 in
    more2.holds.claimed
