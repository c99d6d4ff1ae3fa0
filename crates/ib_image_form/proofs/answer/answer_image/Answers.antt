use Rattle.std.proofs.Common.{◌≡◌, ◌∙◌, ap, inl, inr, refl}
use Rattle.ib_io.specs.Told.{ends}
use Rattle.ib_io.specs.declared.status.Status.TheVariants.{BadLog, Done}
use Rattle.ib_map.specs.Pairs.{Pairs}
use Rattle.ib_text.specs.Output.{map_text}
use Rattle.ib_walk.specs.Trees.{content_of}
use Rattle.ib_image_form.specs.Restoring.{bad_image_line, restored_map}
use Rattle.ib_image_form.proofs.RestoredLaws.{restored-pages}
use Rattle.ib_image_form.proofs.answer.answer_image.Goals as goal

pub returns-in-Ok : goal.returns-in-Ok
returns-in-Ok g c =
    let r = c.in-Ok.ensures.restored in
    let map : c.in-Ok.restored.map ≡ restored_map r.copy r.tail = c.in-Ok.ensures.map ∙ ap (λ m. content_of m 1) (restored-pages r.copy r.tail c.in-Ok.restored.memory r.file.grammar r.memory_is) in
    record {
      told = inl (ends Done (map_text c.in-Ok.restored.map), inl (r.copy, r.tail, r.file, r.lawful, ap (λ (pairs : Pairs). ends Done (map_text pairs)) map), c.show.ensures.told);
      write = c.show.ensures.write;
    }

pub returns-in_default : goal.returns-in_default
returns-in_default g c = record {
  told = elim c.in-Err.ensures.fault [
    | inl none ↦ absurd (c.in_default.not-OutOfMemory none)
    | inr found ↦ inl (ends BadLog (bad_image_line c.in-Err.fault), inr (c.in-Err.fault, found, refl), c.tell.ensures.told)
  ];
  write = c.tell.ensures.write;
}
