-- One word more is written, and at the end all are.
use Rattle.std.proofs.Common.{◌≡◌, ◌*◌, ◌^◌, ◌-◌, ◌<◌, ◌≤◌, ◌++◌, ◌∙◌, ℕ, List, length, drop, take, get_or, ap, subst, arith}
use Rattle.std.proofs.lemmas.List.Elements.{All-more}
use Rattle.std.proofs.Math.Seq.{take-length}
use borrow.Rule.Slice.PartMut.{mid_of}
use Rattle.byteorder.specs.Endian.{big_bytes}
use Rattle.ib_map.specs.declared.TheConstants.{PAGE_WORDS}
use Rattle.ib_replay.specs.Files.{AreWords, word_bytes}
use Rattle.ib_image.proofs.WriteLaws.{words-more}
use Rattle.ib_image.proofs.image_file.write_words.Goals as goal

pub loop-index-preserved : goal.loop-index-preserved
loop-index-preserved c =
    let size = c.word.ensures.size in let lt = c.loop-index-test.true in let room = c.requires.room in
    let wrote : c.write_u64.new.buf ≡ big_bytes 8 (get_or c.args.image.now c.loop-index.index 0) ++ drop 8 (mid_of (8 * c.loop-index.index) (length c.loop-index.out - 8 * c.loop-index.index) c.loop-index.out) =
    c.write_u64.ensures ∙ ap (λ (w : ℕ). big_bytes 8 w ++ drop 8 (mid_of (8 * c.loop-index.index) (length c.loop-index.out - 8 * c.loop-index.index) c.loop-index.out)) c.word-in-loop-index.ensures.word in
    let within : c.loop-index.index < length c.args.image.now = omega arith in
    record {
      written = words-more c.args.image.now c.args.out.now c.loop-index.out c.write_u64.new.buf c.loop-index.index within (omega arith) c.loop-index.invariant.written wrote;
      fits = All-more (λ (w : ℕ). w < 2 ^ 64) c.args.image.now c.loop-index.index 0 within c.loop-index.invariant.fits (subst (λ (w : ℕ). w < 2 ^ 64) c.word-in-loop-index.ensures.word c.word-in-loop-index.type_inv);
    }

all-words : (image : List ℕ) (index : ℕ) → length image ≡ PAGE_WORDS → PAGE_WORDS ≤ index → index ≤ PAGE_WORDS → take index image ≡ image
all-words image index size low high = let at : index ≡ length image = omega arith in ap (λ (n : ℕ). take n image) at ∙ take-length image

pub returns-clause-fits : goal.returns-clause-fits
returns-clause-fits c = subst AreWords (all-words c.args.image.now c.loop-index.index c.word.ensures.size c.loop-index-test.false c.loop-index.auto.index-end) c.loop-index.invariant.fits

pub returns-clause-words : goal.returns-clause-words
returns-clause-words c =
    let size = c.word.ensures.size in let past = c.loop-index-test.false in let end = c.loop-index.auto.index-end in
    let all = all-words c.args.image.now c.loop-index.index size past end in
    let there : 8 * c.loop-index.index ≡ 8 * 160 = omega arith in
    c.loop-index.invariant.written ∙ (ap (λ xs. word_bytes xs ++ drop (8 * c.loop-index.index) c.args.out.now) all ∙ ap (λ (n : ℕ). word_bytes c.args.image.now ++ drop n c.args.out.now) there)
