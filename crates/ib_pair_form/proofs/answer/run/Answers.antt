-- The text of what a script's sessions came to is one of a run of it.
use Rattle.std.proofs.Common.{◌≡◌, ◌∙◌, ℕ, inl, true, refl, ap, map, subst}
use Rattle.ib_map.specs.Space.{has_pages}
use Rattle.ib_layout.specs.Geometry.{Sizes}
use Rattle.ib_io.specs.Told.{ends}
use Rattle.ib_io.specs.declared.status.Status.TheVariants.{Done}
use Rattle.ib_runs.specs.Answers.{answers_of}
use Rattle.ib_pair_form.specs.PairOutput.{pair_output_of}
use Rattle.ib_pair_form.proofs.TextLaws.{pair_text}
use Rattle.ib_pair_form.proofs.answer.run.Goals as goal

pub returns : goal.returns
returns g c =
    let script = c.args.script.now in
    let ran = c.in-Ok.ran in
    let second = c.in-Ok-pairs_of.second in
    let h = c.in-Ok.ensures.ran.ran_is in
    let size : c.pages.result ≡ script.sizes.pages = c.pages.ensures.pages ∙ ap (λ (s : Sizes). s.pages) c.geometry-geometry.ensures in
    let fits : has_pages script.sizes.pages ≡ true = subst (λ (n : ℕ). has_pages n ≡ true) size c.pages.ensures.in_range in
    let is = pair_text script (λ log kept. c.pair_law.ensures.first script.sizes.pages log fits kept) (λ log kept. c.pair_law.ensures.second script.sizes.pages log fits kept) ran h second (c.in-Ok-pairs_of.ensures h.log h.words) in
    record {
      told = inl (ends Done (pair_output_of (map answers_of ran.sessions.items) ran.history.items ran.map second), (refl, is), c.tell.ensures.told);
      write = c.tell.ensures.write;
    }
