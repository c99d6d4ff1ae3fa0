-- The child is there still when it is freed.
use Rattle.std.proofs.Common.{rules, ◌≡◌, ◌≢◌, ◌∙◌, ℕ, List, Option, Some, [], ◌∷◌, ap, sym, subst}
use Rattle.std.specs.Prelude.{IsSome, slice_get}
use Rattle.ib_map.specs.Keys.{MapKey}
use Rattle.ib_map.specs.Pairs.{Pairs}
use Rattle.ib_page.specs.Form.{page_of}
use Rattle.ib_page.specs.Image.{IsTreePage, records_of}
use Rattle.ib_page.specs.Work.{changed_of, with_changed}
use Rattle.ib_walk.proofs.ChoiceLaws.{Some-same}
use Rattle.ib_plans.specs.Merge.{freed_page, lowered}
use Rattle.ib_plans.specs.Agreement.{Sets, state_or_free, memory_in}
use Rattle.ib_plans.proofs.EditLaws.{changed_of-same, changed_of-other, IsSome-and, state-records}
use Rattle.ib_plans.proofs.MoveLaws.{filled-now}
use Rattle.ib_merge.proofs.MergeEdits.{lift-moved}
use Rattle.ib_merge.proofs.edits.lift.Goals as goal

child-is : (image : List ℕ) (o : Option (List ℕ)) (pair read : MapKey × ℕ) → o ≡ Some image → (state_or_free o).records ≡ pair ∷ [] → slice_get (records_of image) 0 ≡ Some read → read ≡ pair
child-is image o pair read is one at =
    let records : records_of image ≡ pair ∷ [] = sym (state-records (page_of image)) ∙ (ap (λ q. (state_or_free q).records) (sym is) ∙ one) in
    Some-same read pair (sym at ∙ ap (λ (rs : Pairs). slice_get rs 0) records)

pub edit-requires-2 : goal.edit-requires-2
edit-requires-2 c =
    let e = child-is c.image_of.result.now (changed_of c.args.root c.args.work.now) c.requires.pair c.record_at-child.result c.image_of.ensures c.requires.one c.record_at-child.ensures in
    subst IsSome (sym (changed_of-other c.args.root c.record_at-child.result.1 _ c.args.work.now (λ z. c.requires.apart (z ∙ ap (λ (x : MapKey × ℕ). x.1) e))))
    (subst (λ (x : MapKey × ℕ). IsSome (changed_of x.1 c.args.work.now)) (sym e) (IsSome-and IsTreePage _ c.requires.child_there.0))

pub returns-clause-lifted : goal.returns-clause-lifted
returns-clause-lifted c =
    let e = child-is c.image_of.result.now (changed_of c.args.root c.args.work.now) c.requires.pair c.record_at-child.result c.image_of.ensures c.requires.one c.record_at-child.ensures in
    let apart : c.args.root ≢ c.record_at-child.result.1 = (λ z. c.requires.apart (z ∙ ap (λ (x : MapKey × ℕ). x.1) e)) in
    let top : Sets c.args.root (lowered (memory_in c.args.work.now c.args.root) (memory_in c.args.work.now c.record_at-child.result.1)) c.args.work.now (with_changed c.args.root c.lower_image.new.root c.args.work.now) = search rules in
    let low : Sets c.record_at-child.result.1 (freed_page (memory_in c.args.work.now c.record_at-child.result.1)) (with_changed c.args.root c.lower_image.new.root c.args.work.now)
    (with_changed c.record_at-child.result.1 c.free.result (with_changed c.args.root c.lower_image.new.root c.args.work.now)) = search rules in
    record {
      one = with_changed c.args.root c.lower_image.new.root c.args.work.now;
      root_is = top;
      child_is = low;
      moved = lift-moved c.args.root c.record_at-child.result.1 _ _ c.args.work.now (with_changed c.args.root c.lower_image.new.root c.args.work.now) _ top low apart
          (filled-now (changed_of c.args.root c.args.work.now) _ c.lower_image.new.root _ (changed_of-same c.args.root c.lower_image.new.root c.args.work.now (IsSome-and IsTreePage _ c.requires.root_there)) c.lower_image.ensures.heap);
    }
