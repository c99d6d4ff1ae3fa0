-- The tail, the places, the images and what they are then, one after another.
use Rattle.std.proofs.Common.{◌≡◌, ◌⊎◌, ◌<◌, ◌∙◌, ℕ, true, inr, List, length, sym, ap, subst, arith}
use Rattle.std.proofs.lemmas.Result.{err_from_is_err_and}
use Rattle.ib_map.specs.Space.{has_pages}
use Rattle.ib_logrec.specs.declared.entry.Entry.{Entry}
use Rattle.ib_logrec.specs.Law.{AreInGrammar}
use Rattle.ib_image.specs.declared.fault.ImageFault.{ImageFault}
use Rattle.ib_image.specs.declared.fault.ImageFault.TheVariants.{OutOfMemory}
use Rattle.ib_image.specs.ImageFaults.{ArePlaces, HasTail, IsFaultBehind, IsPlaceFault}
use Rattle.ib_image.specs.Parsed.{copy_in, tail_in}
use Rattle.ib_image.proofs.CopyLaws.{some-pages}
use Rattle.ib_image.proofs.ParsedLaws.{length-copy_in}
use Rattle.ib_image.proofs.RestoreLaws.{all-places, fault-result, images-size, place-behind, restored-result, tail-behind, tail-read, tail-refused, tail-short}
use Rattle.ib_image.proofs.reading.restore_behind.Goals as goal
use Rattle.ib_image.proofs.reading.restore_behind.Goals.{After-test_places, After-deref-2}

-- the tail that was read
has : (c : After-test_places) → HasTail (copy_in c.args.numbers.now c.args.front.pages) (tail_in c.args.numbers.now c.args.front.pages) c.in-Ok.tail.items
has c = tail-read c.args.front.first c.args.numbers.now c.args.front.pages c.number_of.result c.number_of.ensures c.in-Ok.tail.items c.in-Ok.ensures.entries c.in-Ok.ensures.grammar

count-is : (c : After-test_places) → c.len.result ≡ length c.in-Ok.tail.items
count-is c = let a = c.len.ensures in omega (arith, a, c.in-Ok.tail.ok.0)

-- .. as it is handed on, with the places of all pages
has-now : (c : After-deref-2) → HasTail (copy_in c.args.numbers.now c.args.front.pages) (tail_in c.args.numbers.now c.args.front.pages) c.deref-2.result.now
has-now c =
    subst (HasTail (copy_in c.args.numbers.now c.args.front.pages) (tail_in c.args.numbers.now c.args.front.pages)) (sym c.deref-2.ensures.value)
    (tail-read c.args.front.first c.args.numbers.now c.args.front.pages c.number_of.result c.number_of.ensures c.in-Ok.tail.items c.in-Ok.ensures.entries c.in-Ok.ensures.grammar)

places-now : (c : After-deref-2) → ArePlaces c.args.front.first (length c.deref-2.result.now) (copy_in c.args.numbers.now c.args.front.pages) (length (copy_in c.args.numbers.now c.args.front.pages))
places-now c =
    let count : c.len.result ≡ length c.in-Ok.tail.items = (let a = c.len.ensures in omega (arith, a, c.in-Ok.tail.ok.0)) in
    all-places c.args.front.first c.len.result c.args.front.pages (copy_in c.args.numbers.now c.args.front.pages) c.deref-2.result.now (count ∙ ap (λ (es : List Entry). length es) (sym c.deref-2.ensures.value)) (length-copy_in c.args.numbers.now c.args.front.pages) c.in_ok-test_places.ensures.no_fault

-- there is a page, and an image for each
some-now : (c : After-deref-2) → 0 < length (copy_in c.args.numbers.now c.args.front.pages)
some-now c = let size = length-copy_in c.args.numbers.now c.args.front.pages in let some = some-pages c.args.front.pages c.requires.space in omega arith

size-now : (c : After-deref-2) → length c.in_ok-images.images.items ≡ length (copy_in c.args.numbers.now c.args.front.pages)
size-now c =
    images-size c.args.front.first (copy_in c.args.numbers.now c.args.front.pages) (tail_in c.args.numbers.now c.args.front.pages) c.deref-2.result.now (has-now c) (some-now c) (places-now c)
    c.in_ok-images.images.items c.deref.result.now c.in_ok-images.ensures (c.deref.ensures.value ∙ c.in_ok-starts.ensures)

pub returns-in-Err-clause-fault : goal.returns-in-Err-clause-fault
returns-in-Err-clause-fault c =
    let copy = copy_in c.args.numbers.now c.args.front.pages in let words = tail_in c.args.numbers.now c.args.front.pages in
    subst (λ (f : ImageFault). (f ≡ OutOfMemory) ⊎ IsFaultBehind c.args.front.first copy words f) (sym c.tail_fault.ensures)
    (tail-behind c.args.front.first copy words c.in-Err.fault (tail-refused c.args.front.first c.args.numbers.now c.args.front.pages c.number_of.result c.number_of.ensures c.in-Err.fault c.in-Err.ensures.fault))

pub returns-in_err-test_places-clause-fault : goal.returns-in_err-test_places-clause-fault
returns-in_err-test_places-clause-fault c =
    let at = (goal.at.returns-in_err-test_places-clause-fault c).After-test_places in
    let copy = copy_in c.args.numbers.now c.args.front.pages in let words = tail_in c.args.numbers.now c.args.front.pages in
    let p = err_from_is_err_and c.from_residual.result c.from_residual.ensures.1 in
    let found = subst (λ (n : ℕ). IsPlaceFault c.args.front.first n copy c.in_err-test_places.field-0.0) (count-is at) c.in_err-test_places.ensures.fault in
    let behind : (c.in_err-test_places.field-0.0 ≡ OutOfMemory) ⊎ IsFaultBehind c.args.front.first copy words c.in_err-test_places.field-0.0 = inr (place-behind c.args.front.first copy words c.in-Ok.tail.items (has at) c.in_err-test_places.field-0.0 found) in
    rw (p.1, p.2) behind

pub starts_in-requires-clause-short : goal.starts_in-requires-clause-short
starts_in-requires-clause-short c =
    let short = tail-short c.args.front.first c.args.numbers.now c.args.front.pages c.number_of.result c.number_of.ensures c.in-Ok.tail.items c.in-Ok.ensures.entries c.requires.few in
    let a = c.len-2.ensures in omega (arith, a, c.in-Ok.tail.ok.0, short)

pub restore_images-requires-clause-pages : goal.restore_images-requires-clause-pages
restore_images-requires-clause-pages c =
    let at = (goal.at.restore_images-requires-clause-pages c).After-deref-2 in
    subst (λ (n : ℕ). has_pages n ≡ true) (sym (size-now at ∙ length-copy_in c.args.numbers.now c.args.front.pages)) c.requires.space

pub restore_images-requires-clause-grammar : goal.restore_images-requires-clause-grammar
restore_images-requires-clause-grammar c =
    let at = (goal.at.restore_images-requires-clause-grammar c).After-deref-2 in
    let h = has-now at in
    subst (λ (n : ℕ). AreInGrammar n c.deref-2.result.now) (sym (size-now at)) h.grammar

pub returns-clause-restored : goal.returns-clause-restored
returns-clause-restored c =
    let at = (goal.at.returns-clause-restored c).After-deref-2 in
    restored-result c.args.front.first (copy_in c.args.numbers.now c.args.front.pages) (tail_in c.args.numbers.now c.args.front.pages) c.deref-2.result.now (has-now at) (some-now at) (places-now at)
    c.in_ok-images.images.items c.deref.result.now c.in_ok-images.ensures (c.deref.ensures.value ∙ c.in_ok-starts.ensures) c.restore_images.result c.restore_images.ensures.memory c.restore_images.ensures.lawful

pub returns-clause-fault : goal.returns-clause-fault
returns-clause-fault c =
    let at = (goal.at.returns-clause-fault c).After-deref-2 in
    fault-result c.args.front.first (copy_in c.args.numbers.now c.args.front.pages) (tail_in c.args.numbers.now c.args.front.pages) c.deref-2.result.now (has-now at) (some-now at) (places-now at)
    c.in_ok-images.images.items c.deref.result.now c.in_ok-images.ensures (c.deref.ensures.value ∙ c.in_ok-starts.ensures) c.restore_images.result c.restore_images.ensures.fault
