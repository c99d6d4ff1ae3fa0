-- The numbers in front, the pages, and the tail.
use Rattle.std.proofs.Common.{rules, ◌≡◌, ◌+◌, ◌*◌, ◌^◌, ◌-◌, ◌<◌, ◌++◌, ◌∙◌, ℕ, true, List, [], ◌∷◌, length, drop, ap, subst, arith, length-append}
use Rattle.std.proofs.lemmas.List.Elements.{All-append, All-cons}
use Rattle.std.specs.List.{flat_map}
use Rattle.std.proofs.lemmas.List.{get_or_default}
use borrow.Rule.Slice.PartMut.{put_mid}
use Rattle.ib_map.specs.Space.{has_pages}
use Rattle.ib_replay.specs.Files.{AreWords, word_bytes}
use Rattle.ib_replay.proofs.FileLaws.{has_pages-fits}
use Rattle.ib_image.specs.declared.copy.CopiedPage.{CopiedPage}
use Rattle.ib_image.specs.declared.image_file.TheConstants.{IMAGE_FORM, PAGE_NUMBERS}
use Rattle.ib_image.specs.Copies.{first_place}
use Rattle.ib_image.specs.ImageFiles.{image_bytes, image_numbers, page_numbers}
use Rattle.ib_image.proofs.CopyLaws.{some-pages}
use Rattle.ib_image.proofs.WriteLaws.{pages-behind, tail-behind}
use Rattle.ib_image.proofs.image_file.write_image.Goals as goal

pub returns-clause-file : goal.returns-clause-file
returns-clause-file c =
    let pages : List CopiedPage = c.as_slice-pages.result.now in
    let same : pages ≡ c.args.copy.now.pages = search rules in
    let head : List ℕ = IMAGE_FORM ∷ length pages ∷ c.from.result ∷ [] in
    let numbers : List ℕ = flat_map page_numbers pages in
    let out : List ℕ = put_mid 24 (length c.write_head.new.out - 24) c.write_head.new.out c.write_pages.new.out in
    let m : ℕ = 8 * (PAGE_NUMBERS * length pages) in
    let n : ℕ = 8 * (3 + 161 * length pages) in
    let old : List ℕ = c.args.out.now in
    let out-is : out ≡ word_bytes (head ++ numbers) ++ drop m (drop 24 old) = pages-behind head numbers c.args.tail.now old c.write_head.new.out c.write_pages.new.out (length c.write_head.new.out - 24) (λ i. 3) c.write_head.ensures (λ i. length c.write_head.new.out - 24) m c.write_pages.ensures.numbers in
    let long : length numbers ≡ PAGE_NUMBERS * length pages = c.write_pages.ensures.size in
    let at : n ≡ 8 * length (head ++ numbers) = let l = length-append head numbers in omega arith in
    let all : put_mid n (length out - n) out c.write_u64_into.new.dst ≡ image_bytes c.from.result pages c.args.tail.now =
    ap (put_mid n (length out - n) out) c.write_u64_into.ensures ∙ tail-behind (head ++ numbers) c.args.tail.now out (drop m (drop 24 old)) n (length out - n) out-is at (λ i. length out - n) in
    let none : CopiedPage = record { image = []; place = 0 } in
    let some : 0 < length pages = some-pages (length pages) (search rules) in
    let first : c.from.result ≡ first_place pages =
    c.from.ensures ∙ ap (λ (p : CopiedPage). p.place) (get_or_default pages 0 c.index-pages-0.result none some) in
    all ∙ (ap (λ (f : ℕ). image_bytes f pages c.args.tail.now) first ∙ ap (λ (ps : List CopiedPage). image_bytes (first_place ps) ps c.args.tail.now) same)

pub returns-clause-fits : goal.returns-clause-fits
returns-clause-fits c =
    let P : ℕ → Type 0 = λ w. w < 2 ^ 64 in
    let pages : List CopiedPage = c.as_slice-pages.result.now in
    let same : pages ≡ c.args.copy.now.pages = search rules in
    let has : has_pages (length pages) ≡ true = search rules in
    let tail : AreWords c.args.tail.now = λ k d lt. subst P (get_or_default c.args.tail.now k 0 d lt) (omega (arith, c.type_inv.tail k)) in
    let behind : AreWords (flat_map page_numbers pages ++ c.args.tail.now) = All-append P (flat_map page_numbers pages) c.args.tail.now c.write_pages.ensures.fits tail in
    let place : c.from.result < 2 ^ 64 = c.from.type_inv in
    let all : AreWords (image_numbers c.from.result pages c.args.tail.now) =
    All-cons P IMAGE_FORM (length pages ∷ c.from.result ∷ (flat_map page_numbers pages ++ c.args.tail.now)) (omega arith)
    (All-cons P (length pages) (c.from.result ∷ (flat_map page_numbers pages ++ c.args.tail.now)) (has_pages-fits (length pages) has) (All-cons P c.from.result (flat_map page_numbers pages ++ c.args.tail.now) place behind)) in
    let none : CopiedPage = record { image = []; place = 0 } in
    let first : c.from.result ≡ first_place pages =
    c.from.ensures ∙ ap (λ (p : CopiedPage). p.place) (get_or_default pages 0 c.index-pages-0.result none (some-pages (length pages) has)) in
    subst (λ (ps : List CopiedPage). AreWords (image_numbers (first_place ps) ps c.args.tail.now)) same (subst (λ (f : ℕ). AreWords (image_numbers f pages c.args.tail.now)) first all)
