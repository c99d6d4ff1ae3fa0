-- All pages of an insert are held, or it is refused.
use Rattle.std.proofs.Common.{◌≡◌, ◌∙◌, inl, inr, ℕ, ◌+◌, List, refl, ap, sym, subst, arith}
use Rattle.ib_map.specs.Keys.{MapKey}
use Rattle.ib_layout.specs.Geometry.{Sizes}
use Rattle.ib_map.specs.declared.call.Reply.TheVariants.{Duplicate, TooHigh}
use Rattle.ib_rule.specs.Conditions.{HasGrantsLeft}
use Rattle.ib_rule.specs.Pass.{PassState}
use Rattle.ib_pair_change.specs.PairPlans.{TooHighForPair}
use Rattle.ib_second_key.specs.SecondKeys.{second_key_of}
use Rattle.ib_leaf.specs.Leaf.{IsSeated}
use Rattle.ib_leaf.proofs.OptionLaws.{no-value, some-value}
use Rattle.ib_second.specs.PairComes.{HasComeToPair, HasFoundTooFew, HasRefused, HasTakenFresh, NeedsPages}
use Rattle.ib_second.specs.PairReady.{pages_seen}
use Rattle.ib_second.proofs.InsertTakes.{AreNeeds, path-some, refused-here, refused-short, restated, taken-all}
use Rattle.ib_second.proofs.insert.take_pages.Given.{Over}
use Rattle.ib_second.proofs.insert.take_pages.Goals.{After-claim_paths-paths, In-Ok}
use Rattle.ib_second.proofs.insert.take_pages.Goals as goal

-- both paths are held
came : (g : Over) (c : After-claim_paths-paths g)
    → HasComeToPair c.args.mtr.now.latches.now.sizes c.args.key c.claim_paths-paths.result.first (second_key_of c.args.key c.args.value) c.claim_paths-paths.result.second c.args.mtr.now.pass.now c.claim_paths-paths.new.mtr.pass.now
came g c =
    let p : PassState = c.args.mtr.now.pass.now in let q : PassState = c.claim_paths-paths.new.mtr.pass.now in
    subst (λ (k : MapKey). HasComeToPair c.args.mtr.now.latches.now.sizes c.args.key c.claim_paths-paths.result.first k c.claim_paths-paths.result.second p q) c.second_key.ensures.key c.claim_paths-paths.ensures.come

same : (g : Over) (c : After-claim_paths-paths g) → c.claim_paths-paths.new.mtr.latches.now.sizes ≡ c.args.mtr.now.latches.now.sizes
same g c = ap (λ m. m.now.sizes) c.claim_paths-paths.ensures.still.latches

-- both inserts need so many pages
are : (g : Over) (c : In-Ok g)
    → HasComeToPair c.args.mtr.now.latches.now.sizes c.args.key c.claim_paths-paths.result.first (second_key_of c.args.key c.args.value) c.claim_paths-paths.result.second c.args.mtr.now.pass.now c.claim_paths-paths.new.mtr.pass.now
    → AreNeeds c.args.mtr.now.latches.now.sizes c.args.key (second_key_of c.args.key c.args.value) c.in-Ok.need.first c.in-Ok.need.second c.claim_paths-paths.new.mtr.pass.now
are g c come =
    let p : PassState = c.args.mtr.now.pass.now in let q : PassState = c.claim_paths-paths.new.mtr.pass.now in let key2 = second_key_of c.args.key c.args.value in
    subst (λ (s : Sizes). HasComeToPair s c.args.key c.claim_paths-paths.result.first key2 c.claim_paths-paths.result.second p q → AreNeeds s c.args.key key2 c.in-Ok.need.first c.in-Ok.need.second q)
    (ap (λ m. m.now.sizes) c.claim_paths-paths.ensures.still.latches) (λ at. c.in-Ok.ensures.needed c.args.key key2 p at) come

-- .. and the key is not there
needs : (g : Over) (c : In-Ok g)
    → HasComeToPair c.args.mtr.now.latches.now.sizes c.args.key c.claim_paths-paths.result.first (second_key_of c.args.key c.args.value) c.claim_paths-paths.result.second c.args.mtr.now.pass.now c.claim_paths-paths.new.mtr.pass.now
    → NeedsPages c.args.mtr.now.latches.now.sizes c.args.key c.args.value c.claim_paths-paths.result.first c.in-Ok.need.first c.in-Ok.need.second c.claim_paths-paths.new.mtr.pass.now
needs g c come = let all = are g c come in record {
  low = all.0;
  other_low = all.1;
  first_is = all.2;
  second_is = all.3;
  missing = sym c.value_in.ensures ∙ no-value c.value_in.result (sym c.is_some.ensures ∙ c.if-is_some.false);
}

pub value_in-requires-clause-some : goal.value_in-requires-clause-some
value_in-requires-clause-some g c =
    let at = (goal.at.value_in-requires-clause-some g c).After-claim_paths-paths in
    let seated = subst (λ (s : Sizes). IsSeated s c.claim_paths-paths.new.mtr.pass.now) (same g at) c.facts_of_session.ensures in
    path-some c.args.mtr.now.latches.now.sizes c.args.key (second_key_of c.args.key c.args.value) c.claim_paths-paths.result.first c.claim_paths-paths.result.second c.args.mtr.now.pass.now c.claim_paths-paths.new.mtr.pass.now (came g at) seated.fits

pub value_in-requires-clause-trees : goal.value_in-requires-clause-trees
value_in-requires-clause-trees g c = (came g (goal.at.value_in-requires-clause-trees g c).After-claim_paths-paths).images.trees

pub returns-then-is_some-clause-refused : goal.returns-then-is_some-clause-refused
returns-then-is_some-clause-refused g c =
    let some = some-value c.value_in.result (sym c.is_some.ensures ∙ c.if-is_some.true) in
    refused-here c.args.mtr.now.latches.now.sizes c.args.key c.args.value c.claim_paths-paths.result.first c.claim_paths-paths.result.second c.args.mtr.now.pass.now c.claim_paths-paths.new.mtr.pass.now
    (came g (goal.at.returns-then-is_some-clause-refused g c).After-claim_paths-paths) Duplicate (inl (refl, some.0, sym c.value_in.ensures ∙ some.1))

pub needed-requires-clause-ready : goal.needed-requires-clause-ready
needed-requires-clause-ready g c =
    let at = (goal.at.needed-requires-clause-ready g c).After-claim_paths-paths in
    let path : List ℕ = c.claim_paths-paths.result.first in let path2 : List ℕ = c.claim_paths-paths.result.second in let q : PassState = c.claim_paths-paths.new.mtr.pass.now in
    subst (λ (s : Sizes). (k : MapKey) × (l : MapKey) × (before : PassState) × HasComeToPair s k path l path2 before q) (sym (same g at)) (c.args.key, second_key_of c.args.key c.args.value, c.args.mtr.now.pass.now, came g at)

pub returns-in_default-clause-refused : goal.returns-in_default-clause-refused
returns-in_default-clause-refused g c =
    let at = (goal.at.returns-in_default-clause-refused g c).After-claim_paths-paths in let come = came g at in
    let sizes : Sizes = c.args.mtr.now.latches.now.sizes in let p : PassState = c.args.mtr.now.pass.now in let q : PassState = c.claim_paths-paths.new.mtr.pass.now in
    let key = c.args.key in let key2 = second_key_of key c.args.value in let path : List ℕ = c.claim_paths-paths.result.first in let path2 : List ℕ = c.claim_paths-paths.result.second in
    let missing = sym c.value_in.ensures ∙ no-value c.value_in.result (sym c.is_some.ensures ∙ c.if-is_some.false) in
    let high = subst (λ (s : Sizes). HasComeToPair s key path key2 path2 p q → TooHighForPair (pages_seen s q) key key2) (same g at) (λ on. (c.in_default.ensures.needed key key2 p on).0) come in
    subst (λ (v : PassState). HasRefused sizes key c.args.value TooHigh p v) (sym (ap (λ m. m.now) c.needed.ensures.pass))
    (refused-here sizes key c.args.value path path2 p q come TooHigh (inr (inl (refl, missing, high))))

pub take_fresh-requires-clause-few : goal.take_fresh-requires-clause-few
take_fresh-requires-clause-few g c = c.in-Ok.ensures.few

pub take_fresh-requires-clause-room : goal.take_fresh-requires-clause-room
take_fresh-requires-clause-room g c =
    let come = came g (goal.at.take_fresh-requires-clause-room g c).After-claim_paths-paths in
    let room = c.requires.room in let few = come.grants in
    subst (λ (v : PassState). HasGrantsLeft 64 v.view) (sym (ap (λ m. m.now) c.needed.ensures.pass)) (omega arith)

pub take_fresh-requires-clause-ready : goal.take_fresh-requires-clause-ready
take_fresh-requires-clause-ready g c =
    let at = (goal.at.take_fresh-requires-clause-ready g c).After-claim_paths-paths in
    let path : List ℕ = c.claim_paths-paths.result.first in let path2 : List ℕ = c.claim_paths-paths.result.second in let p : PassState = c.args.mtr.now.pass.now in
    let key2 = second_key_of c.args.key c.args.value in (
      c.args.key,
      c.args.value,
      path,
      path2,
      p,
      restated (λ s v. HasComeToPair s c.args.key path key2 path2 p v) c.needed.new.mtr.latches.now.sizes c.args.mtr.now.latches.now.sizes c.needed.new.mtr.pass.now c.claim_paths-paths.new.mtr.pass.now
          (sym (ap (λ m. m.now.sizes) c.needed.ensures.still.latches ∙ same g at)) (sym (ap (λ m. m.now) c.needed.ensures.pass)) (came g at),
    )

pub returns-in-Ok-take_fresh-clause-taken : goal.returns-in-Ok-take_fresh-clause-taken
returns-in-Ok-take_fresh-clause-taken g c =
    let all = goal.at.returns-in-Ok-take_fresh-clause-taken g c in let come = came g all.After-claim_paths-paths in let need = needs g all.In-Ok come in
    let sizes : Sizes = c.args.mtr.now.latches.now.sizes in let p : PassState = c.args.mtr.now.pass.now in let q : PassState = c.claim_paths-paths.new.mtr.pass.now in let t : PassState = c.take_fresh.new.mtr.pass.now in
    let key = c.args.key in let value = c.args.value in let path : List ℕ = c.claim_paths-paths.result.first in let path2 : List ℕ = c.claim_paths-paths.result.second in
    let one : List ℕ = c.in-Ok-take_fresh.fresh.first in let two : List ℕ = c.in-Ok-take_fresh.fresh.second in
    let taken = restated (λ s v. HasComeToPair s key path (second_key_of key value) path2 p v → NeedsPages s key value path c.in-Ok.need.first c.in-Ok.need.second v → HasTakenFresh s key value path path2 one two v t)
    sizes c.needed.new.mtr.latches.now.sizes q c.needed.new.mtr.pass.now (ap (λ m. m.now.sizes) c.needed.ensures.still.latches ∙ same g all.After-claim_paths-paths) (ap (λ m. m.now) c.needed.ensures.pass)
    (λ on asks. c.in-Ok-take_fresh.ensures.taken key value path path2 p on asks) come need in
    taken-all sizes key value path path2 p q come one two t taken

pub returns-in-Err-clause-refused : goal.returns-in-Err-clause-refused
returns-in-Err-clause-refused g c =
    let all = goal.at.returns-in-Err-clause-refused g c in let come = came g all.After-claim_paths-paths in let need = needs g all.In-Ok come in
    let sizes : Sizes = c.args.mtr.now.latches.now.sizes in let p : PassState = c.args.mtr.now.pass.now in let q : PassState = c.claim_paths-paths.new.mtr.pass.now in let t : PassState = c.take_fresh.new.mtr.pass.now in
    let key = c.args.key in let value = c.args.value in let path : List ℕ = c.claim_paths-paths.result.first in let path2 : List ℕ = c.claim_paths-paths.result.second in
    let most = c.in-Ok.need.first + c.in-Ok.need.second in
    let few = restated (λ s v. HasComeToPair s key path (second_key_of key value) path2 p v → NeedsPages s key value path c.in-Ok.need.first c.in-Ok.need.second v → HasFoundTooFew s key value path path2 c.in-Err.free most v t)
    sizes c.needed.new.mtr.latches.now.sizes q c.needed.new.mtr.pass.now (ap (λ m. m.now.sizes) c.needed.ensures.still.latches ∙ same g all.After-claim_paths-paths) (ap (λ m. m.now) c.needed.ensures.pass)
    (λ on asks. c.in-Err.ensures.short key value path path2 p on asks) come need in
    refused-short sizes key value path path2 p q come c.in-Err.free most t few
