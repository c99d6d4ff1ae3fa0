use Rattle.std.proofs.Common.{◌≡◌, ◌∙◌, ◌<◌, ◌≤◌, ◌^◌, ◌-◌, ℕ, List, take, drop, length, length-drop, ap, rules, subst, arith, Vec, Global}
use Rattle.std.specs.Prelude.{IfOk}
use Rattle.std.proofs.lemmas.List.{take_all}
use Rattle.ib_logrec.specs.Log.{log_words}
use Rattle.ib_replay.specs.Files.{AreWords}
use Rattle.ib_image.specs.Copies.{CopyState, first_place, tail_of}
use Rattle.ib_image.specs.ImageFiles.{image_bytes, image_numbers}
use Rattle.ib_image.specs.Restored.{IsFileOfCopy}
use Rattle.ib_image_form.proofs.CopyLaws.{if_each, tail-fits, tail-is}
use Rattle.ib_image_form.proofs.copied_run.image_of.Goals as goal

pub slice_bounds-tail-count : goal.slice_bounds-tail-count
slice_bounds-tail-count c =
    let copied = c.requires.copied in
    let size = ap length (c.as_slice.ensures.value ∙ c.in_ok-log.ensures ∙ copied.1.logged) in
    let at = c.tail_word.ensures ∙ ap (λ (copy : CopyState). copy.tail_word) c.copy-copy.ensures in
    let fits = tail-fits c.args.copier.now c.args.closed.now.sizes.pages copied.0 copied.2 in
    omega arith

pub slice_bounds-tail-start : goal.slice_bounds-tail-start
slice_bounds-tail-start c = let fits : c.tail_word.result ≤ length c.as_slice.result.now = slice_bounds-tail-count c in search rules

pub returns : goal.returns
returns c = λ log has is.
    let copy : CopyState = c.args.copier.now in
    let pages : ℕ = c.args.closed.now.sizes.pages in
    let same : c.copy-copy.result.now ≡ copy = c.copy-copy.ensures in
    let size = length-drop c.tail_word.result c.as_slice.result.now in
    let tail : List ℕ = take (length c.as_slice.result.now - c.tail_word.result) (drop c.tail_word.result c.as_slice.result.now) in
    let words : tail ≡ log_words (tail_of copy.pages log) =
    take_all (length c.as_slice.result.now - c.tail_word.result) (drop c.tail_word.result c.as_slice.result.now) (omega arith)
    ∙ ap (λ (n : ℕ). drop n c.as_slice.result.now) (c.tail_word.ensures ∙ ap (λ (k : CopyState). k.tail_word) same)
    ∙ (ap (λ (ws : List ℕ). drop copy.tail_word ws) (c.as_slice.ensures.value ∙ c.in_ok-log.ensures ∙ has.logged) ∙ tail-is copy pages log is) in
    let kept = has.kept in
    let k : CopyState = c.copy-copy.result.now in
    let file_is : IfOk c.file_of.result (λ (bytes : Vec ℕ Global). bytes.items ≡ image_bytes (first_place k.pages) k.pages tail) = c.file_of.ensures.bytes in
    let is_small : IfOk c.file_of.result (λ (bytes : Vec ℕ Global). first_place k.pages < 2 ^ 32) = c.file_of.ensures.small in
    let all_fit : IfOk c.file_of.result (λ (bytes : Vec ℕ Global). AreWords (image_numbers (first_place k.pages) k.pages tail)) = c.file_of.ensures.fits in
    if_each c.file_of.result (λ (bytes : Vec ℕ Global). bytes.items ≡ image_bytes (first_place k.pages) k.pages tail) (λ (bytes : Vec ℕ Global). first_place k.pages < 2 ^ 32) (λ (bytes : Vec ℕ Global). AreWords (image_numbers (first_place k.pages) k.pages tail)) (λ (bytes : Vec ℕ Global). IsFileOfCopy bytes.items pages log copy.pages)
    (λ bytes file small fits. record {
      space = c.requires.space;
      lawful = kept.lawful;
      copied = is.copied;
      small = subst (λ (k : CopyState). first_place k.pages < 2 ^ 32) same small;
      fits = subst (λ (ws : List ℕ). AreWords (image_numbers (first_place copy.pages) copy.pages ws)) words (subst (λ (k : CopyState). AreWords (image_numbers (first_place k.pages) k.pages tail)) same fits);
      file = file ∙ (ap (λ (k : CopyState). image_bytes (first_place k.pages) k.pages tail) same ∙ ap (λ (ws : List ℕ). image_bytes (first_place copy.pages) copy.pages ws) words);
    }) file_is is_small all_fit
