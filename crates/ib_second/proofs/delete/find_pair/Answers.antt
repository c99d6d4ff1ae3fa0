-- The claim, the path, and the value.
use Rattle.std.proofs.Common.{◌≡◌, ◌∙◌, ◌+◌, ◌≤◌, true, ap, sym, subst, arith}
use Rattle.ib_map.specs.Space.{has_pages}
use Rattle.ib_map.proofs.KeyLaws.{rank-lt_end}
use Rattle.ib_layout.specs.Geometry.{Sizes}
use Rattle.ib_logrec.specs.Log.{by_place}
use Rattle.ib_rule.specs.declared.looks.Grants.{Grants}
use Rattle.ib_rule.specs.Pass.{PassState}
use Rattle.ib_rule.specs.Views.{is_watched, total}
use Rattle.ib_cursor.specs.OnPath.{IsOnPath}
use Rattle.ib_cursor.specs.Shapes.{HasIndex, HasReadPath, HasReadValue}
use Rattle.ib_cursor.proofs.GrantLaws.{none_granted}
use Rattle.ib_cursor.proofs.PageLaws.{has_told}
use Rattle.ib_pair_law.specs.Opening.{pair_opening}
use Rattle.ib_pair_law.specs.PairKept.{IsPairLog}
use Rattle.ib_second.specs.PairReady.{pages_seen}
use Rattle.ib_second.proofs.FindPair.{found-pair, index-claimed, path-grants}
use Rattle.ib_second.proofs.delete.find_pair.Given.{Over}
use Rattle.ib_second.proofs.delete.find_pair.Goals.{After-read_path-path}
use Rattle.ib_second.proofs.delete.find_pair.Goals as goal

-- the path was read after the claim
read : (g : Over) (c : After-read_path-path g) → HasReadPath c.args.mtr.now.latches.now.sizes (IsPairLog c.args.mtr.now.latches.now.sizes.pages) (by_place pair_opening c.args.mtr.now.latches.now.sizes.pages) 1 c.args.key
    c.read_path-path.result.path c.read_path-path.result.leaf c.read_path-path.result.left c.claim_index.new.mtr.pass.now c.read_path-path.new.mtr.pass.now
read g c =
    let q : PassState = c.claim_index.new.mtr.pass.now in let r : PassState = c.read_path-path.new.mtr.pass.now in let way = c.read_path-path.result in
    subst (λ (s : Sizes). HasReadPath s (IsPairLog s.pages) (by_place pair_opening s.pages) 1 c.args.key way.path way.leaf way.left q r) (ap (λ m. m.now.sizes) c.claim_index.ensures.still.latches) c.read_path-path.ensures.on_path

-- .. and took few grants
few-grants : (g : Over) (c : After-read_path-path g) → total c.read_path-path.new.mtr.pass.now.view.grants ≤ total c.args.mtr.now.pass.now.view.grants + 5
few-grants g c =
    let sizes : Sizes = c.args.mtr.now.latches.now.sizes in let way = c.read_path-path.result in
    let fits : has_pages sizes.pages ≡ true = has_told c.geometry.ensures c.pages.ensures.pages c.pages.ensures.in_range in
    path-grants sizes fits c.args.key way.path way.leaf way.left c.args.mtr.now.pass.now c.claim_index.new.mtr.pass.now c.read_path-path.new.mtr.pass.now c.claim_index.ensures.latched (read g c)

pub claim_index-requires-clause-unwatched : goal.claim_index-requires-clause-unwatched
claim_index-requires-clause-unwatched g c = ap (is_watched 1) c.requires.unwatched

pub read_path-path-requires-clause-index : goal.read_path-path-requires-clause-index
read_path-path-requires-clause-index g c =
    let sizes : Sizes = c.args.mtr.now.latches.now.sizes in let p : PassState = c.args.mtr.now.pass.now in let q : PassState = c.claim_index.new.mtr.pass.now in
    subst (λ (s : Sizes). HasIndex s (IsPairLog s.pages) q) (sym (ap (λ m. m.now.sizes) c.claim_index.ensures.still.latches))
    (index-claimed sizes (IsPairLog sizes.pages) p q (none_granted c.args.mtr.now.latches.now p c.requires.mtr c.requires.memo) c.requires.none c.claim_index.ensures.latched c.claim_index.ensures.claimed)

pub read_path-path-requires-clause-room : goal.read_path-path-requires-clause-room
read_path-path-requires-clause-room g c =
    let gs = c.claim_index.ensures.latched.grants in let a = ap (λ (v : Grants). v.s) gs in let b = ap (λ (v : Grants). v.sx) gs in let d = ap (λ (v : Grants). v.x) gs in let room = c.requires.room in
    omega arith

pub read_path-path-requires-clause-sought : goal.read_path-path-requires-clause-sought
read_path-path-requires-clause-sought g c = record { some = omega arith; there = omega arith; is_key = rank-lt_end c.args.key }

pub read_value-value-requires-clause-index : goal.read_value-value-requires-clause-index
read_value-value-requires-clause-index g c =
    let r : PassState = c.read_path-path.new.mtr.pass.now in
    subst (λ (s : Sizes). HasIndex s (IsPairLog s.pages) r) (sym (ap (λ m. m.now.sizes) c.read_path-path.ensures.still.latches)) c.read_path-path.ensures.on_path.index

pub read_value-value-requires-clause-on_path : goal.read_value-value-requires-clause-on_path
read_value-value-requires-clause-on_path g c =
    let r : PassState = c.read_path-path.new.mtr.pass.now in
    subst (λ (s : Sizes). IsOnPath (pages_seen s r) 1 c.args.key c.read_path-path.result.leaf 0) (sym (ap (λ m. m.now.sizes) c.read_path-path.ensures.still.latches)) c.read_path-path.ensures.on_path.lowest

pub read_value-value-requires-clause-room : goal.read_value-value-requires-clause-room
read_value-value-requires-clause-room g c =
    let few = few-grants g (goal.at.read_value-value-requires-clause-room g c).After-read_path-path in let room = c.requires.room in omega arith

pub read_value-value-requires-clause-sought : goal.read_value-value-requires-clause-sought
read_value-value-requires-clause-sought g c = record { some = omega arith; there = omega arith; is_key = rank-lt_end c.args.key }

pub returns-clause-found : goal.returns-clause-found
returns-clause-found g c =
    let sizes : Sizes = c.args.mtr.now.latches.now.sizes in let r : PassState = c.read_path-path.new.mtr.pass.now in let t : PassState = c.read_value-value.new.mtr.pass.now in let way = c.read_path-path.result in
    let fits : has_pages sizes.pages ≡ true = has_told c.geometry.ensures c.pages.ensures.pages c.pages.ensures.in_range in
    let got = subst (λ (s : Sizes). HasReadValue s (IsPairLog s.pages) (by_place pair_opening s.pages) c.args.key way.leaf c.read_value-value.result r t)
    (ap (λ m. m.now.sizes) (c.read_path-path.ensures.still.latches ∙ c.claim_index.ensures.still.latches)) c.read_value-value.ensures.value_read in
    found-pair sizes fits c.args.key way.path way.leaf way.left c.args.mtr.now.pass.now c.claim_index.new.mtr.pass.now r c.claim_index.ensures.latched (read g (goal.at.returns-clause-found g c).After-read_path-path)
    c.read_value-value.result t got
