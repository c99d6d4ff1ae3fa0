-- The place, and then the words.
use Rattle.std.proofs.Common.{◌≡◌, ◌-◌, ◌^◌, ◌<◌, ◌++◌, ◌∙◌, ℕ, length, drop, ap, refl, arith}
use Rattle.std.proofs.lemmas.List.Elements.{All-cons}
use Rattle.byteorder.specs.Endian.{big_bytes}
use Rattle.ib_image.proofs.WriteLaws.{page-written}
use Rattle.ib_image.proofs.image_file.write_page.Goals as goal

pub returns-clause-numbers : goal.returns-clause-numbers
returns-clause-numbers c =
    let place : c.write_u64.new.buf ≡ big_bytes 8 c.args.page.now.place ++ drop 8 c.args.out.now = c.write_u64.ensures ∙ ap (λ (w : ℕ). big_bytes 8 w ++ drop 8 c.args.out.now) c.from.ensures in
    page-written c.args.page.now c.args.out.now c.write_u64.new.buf c.write_words.new.out (length c.write_u64.new.buf - 8) c.requires.room place refl c.write_words.ensures.words

pub returns-clause-fits : goal.returns-clause-fits
returns-clause-fits c =
    let place : c.args.page.now.place < 2 ^ 64 = (let a = c.from.type_inv in let b = c.from.ensures in omega (arith, a, b)) in
    All-cons (λ (w : ℕ). w < 2 ^ 64) c.args.page.now.place c.args.page.now.image place c.write_words.ensures.fits
