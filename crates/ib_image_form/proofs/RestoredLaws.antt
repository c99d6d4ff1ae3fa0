-- The pages of a restored memory, and what is owed for an image file that restores one.
use Rattle.std.proofs.Common.{◌≡◌, ◌∙◌, ℕ, List, [], length, ap, sym, arith, inl, inr}
use Rattle.std.proofs.lemmas.Bool.{cases_lt}
use Rattle.ib_map.specs.Writes.{word_place}
use Rattle.ib_io.specs.Told.{Ending, ends}
use Rattle.ib_io.specs.declared.status.Status.TheVariants.{Done}
use Rattle.ib_page.specs.Memory.{word_at}
use Rattle.ib_logrec.specs.declared.entry.Entry.{Entry}
use Rattle.ib_logrec.specs.Law.{AreInGrammar}
use Rattle.ib_text.specs.Output.{map_text}
use Rattle.ib_walk.specs.Words.{IsLawfulMemory, memory_of, pages_of}
use Rattle.ib_walk.proofs.ImageLaws.{memory_of-beyond, pages_of-same}
use Rattle.ib_image.specs.Copies.{restored}
use Rattle.ib_image.specs.Restored.{IsImageFile, IsRestoredMemory}
use Rattle.ib_image.specs.declared.copy.CopiedPage.{CopiedPage}
use Rattle.ib_image.proofs.OneImage.{image_file-no_fault, image_file-one}
use Rattle.ib_image.proofs.RestoreLaws.{no-word, restored-beyond}
use Rattle.ib_image_form.specs.Answers.{AnswersImage}
use Rattle.ib_image_form.specs.Restoring.{restored_map}

-- images with the words that a copy and a tail restore have its pages
pub restored-pages : (copy : List CopiedPage) (tail : List Entry) (memory : List (List ℕ)) → AreInGrammar (length copy) tail → IsRestoredMemory copy tail memory → memory_of memory ≡ pages_of (restored copy tail)
restored-pages copy tail memory grammar h = λ i page. each page i
  where
    each : (page : ℕ) → memory_of memory page ≡ pages_of (restored copy tail) page
    each page =
        let size = h.size in
        elim (cases_lt page (length copy)) [
          | inl lt ↦ pages_of-same (restored copy tail) (word_at memory) page (λ index in-page. h.words (word_place page index) (omega arith))
          | inr far ↦
              let nowhere : pages_of (restored copy tail) page ≡ memory_of [] page =
              pages_of-same (word_at []) (restored copy tail) page (λ index in-page. restored-beyond copy tail grammar (word_place page index) (omega arith) ∙ sym (no-word [] (word_place page index) (omega arith))) in
              memory_of-beyond memory page (omega arith) ∙ (sym (memory_of-beyond [] page (omega arith)) ∙ sym nowhere)
        ]

-- an image file that restores a lawful memory is owed the map of that memory, and nothing else
pub owed-one : (input : List ℕ) (copy : List CopiedPage) (tail : List Entry) (e : Ending) → IsImageFile input copy tail → IsLawfulMemory (length copy) 1 (restored copy tail) → AnswersImage input e
    → e ≡ ends Done (map_text (restored_map copy tail))
owed-one input copy tail e is lawful (inl owed) =
    let same = image_file-one input owed.0 copy owed.1 tail owed.2 is in
    owed.4 ∙ (ap (λ (c : List CopiedPage). ends Done (map_text (restored_map c owed.1))) same.0 ∙ ap (λ (t : List Entry). ends Done (map_text (restored_map copy t))) same.1)
owed-one input copy tail e is lawful (inr owed) = absurd (image_file-no_fault input copy tail owed.0 is lawful owed.1)
